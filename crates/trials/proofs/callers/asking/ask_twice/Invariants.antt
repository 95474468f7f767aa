use Rattle.std.proofs.Common.{map, take}
use Rattle.trials.specs.Callers.{RunsRounds}
use Rattle.trials.proofs.callers.asking.ask_twice.Given as goal

abbrev pub invariant-loop-set : goal.invariant-loop-set
invariant-loop-set g l =
    RunsRounds {V = g.row.K.Denot} {R = g.row.K-Row.Denot} {kind = g.K.Kind} (g.M.Model.meaning l.fn.model) (map (λ set. set.0) (take l.set-index l.earlier)) l.set-index l.initial.run l.run

abbrev pub invariant-loop-set-2 : goal.invariant-loop-set-2
invariant-loop-set-2 g l =
    RunsRounds {V = g.row.K.Denot} {R = g.row.K-Row.Denot} {kind = g.K.Kind} (g.M.Model.meaning l.fn.model) (map (λ set. set.0) (take l.set-index l.later)) l.set-index l.initial.run l.run
