use Rattle.run.proofs.Emptying.{Emptied}
use Rattle.run.proofs.closing.empty.Given as goal

abbrev pub invariant-loop-controller : goal.invariant-loop-controller
invariant-loop-controller g l = Emptied g.K.Kind.rules g.K.Kind.plain l.fn.n l.fn.set.0 l.initial.rows l.initial.v l.initial.decisions l.rows l.v l.decisions l.controller
