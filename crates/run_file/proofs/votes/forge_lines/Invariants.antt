use Rattle.std.proofs.Common.{◌≡◌, ◌++◌, ℕ, suc, List, map}
use Rattle.models.specs.Laws.{Meaning}
use Rattle.run.specs.Runs.{setting, state, Keeps}
use Rattle.run_file.specs.Votes.{Asked, forges, lines_of, rounds_from, run_through}
use Rattle.run_file.specs.InCode.{lines_in, Checked}
use Rattle.run_file.proofs.votes.forge_lines.Given as goal

abbrev pub invariant-loop-line : goal.invariant-loop-line
invariant-loop-line g l =
    record {
      width : l.rest.width ≡ l.fn.lines.width;
      checked : Checked g.K.Kind.rules l.fn.rounds l.fn.round (lines_in l.rest);
      same : (sets : List ℕ) → rounds_from (suc l.fn.round) sets (lines_in l.fn.lines) ≡ rounds_from (suc l.fn.round) sets (lines_in l.rest);
      forged : (m : Meaning) (more : List Asked) → run_through (setting l.initial.run) m (state l.initial.run) (map forges (lines_of l.fn.round (lines_in l.fn.lines)) ++ more)
          ≡ run_through (setting l.initial.run) m (state l.run) (map forges (lines_of l.fn.round (lines_in l.rest)) ++ more);
      keeps : Keeps l.initial.run l.run;
    }

abbrev pub decreases-loop-line : goal.decreases-loop-line
decreases-loop-line g l = l.rest.count
