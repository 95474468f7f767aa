use Rattle.std.proofs.Common.{map, take}
use Rattle.trials.specs.Callers.{RunsRounds}
use Rattle.trials.proofs.callers.rounds.run_plans.Given as goal

abbrev pub invariant-loop-plan : goal.invariant-loop-plan
invariant-loop-plan g l =
    RunsRounds {V = g.row.K.Denot} {R = g.row.K-Row.Denot} {kind = g.K.Kind} (g.M.Model.meaning l.fn.model) (map (λ plan. plan.set.0) (take l.plan-index l.plans)) l.plan-index l.initial.run l.run
