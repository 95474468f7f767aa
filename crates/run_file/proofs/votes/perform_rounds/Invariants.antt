use Rattle.std.proofs.Common.{◌≡◌, ◌+◌}
use Rattle.run.specs.Runs.{setting, state, Keeps}
use Rattle.run_file.specs.Votes.{rounds_from, run_through}
use Rattle.run_file.specs.InCode.{lines_in, sets_in, Checked}
use Rattle.run_file.proofs.votes.perform_rounds.Given as goal

abbrev pub invariant-loop-set : goal.invariant-loop-set
invariant-loop-set g l =
    record {
      set_width : l.sets.width ≡ 2;
      line_width : l.lines.width ≡ l.fn.lines.width;
      count : l.round + l.sets.count ≡ l.fn.rounds;
      checked : Checked g.K.Kind.rules l.fn.rounds l.round (lines_in l.lines);
      performed : run_through (setting l.initial.run) (g.M.Model.meaning l.model) (state l.initial.run) (rounds_from 0 (sets_in l.fn.sets) (lines_in l.fn.lines))
          ≡ run_through (setting l.initial.run) (g.M.Model.meaning l.model) (state l.run) (rounds_from l.round (sets_in l.sets) (lines_in l.lines));
      keeps : Keeps l.initial.run l.run;
    }

abbrev pub decreases-loop-set : goal.decreases-loop-set
decreases-loop-set g l = l.sets.count
