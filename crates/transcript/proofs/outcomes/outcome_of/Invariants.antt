use Rattle.std.proofs.Common.{ℕ, ◌≤◌, List, length, take}
use Rattle.script.specs.Statements.{log_by}
use Rattle.script.specs.declared.figures.Figure.{Figure}
use Rattle.transcript.specs.Tallies.{Tells}
use Rattle.transcript.proofs.outcomes.outcome_of.Given as goal

abbrev pub invariant-loop-line : goal.invariant-loop-line
invariant-loop-line l =
    ((means : Figure → List ℕ) → Tells (log_by means (take (length l.yielded) l.lines) (take (length l.yielded) l.answers)) l.tally) × (l.tally.closed ≤ length l.yielded)
