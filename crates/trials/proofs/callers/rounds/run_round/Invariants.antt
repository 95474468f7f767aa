use Rattle.std.proofs.Common.{[], ◌∷◌}
use Rattle.trials.specs.Callers.{RunsRounds}
use Rattle.trials.proofs.callers.rounds.run_round.Given as goal

abbrev pub invariant-loop-place : goal.invariant-loop-place
invariant-loop-place g l = RunsRounds {V = g.row.K.Denot} {R = g.row.K-Row.Denot} {kind = g.K.Kind} (g.M.Model.meaning l.fn.model) (l.fn.plan.set.0 ∷ []) 0 l.fn.run l.run
