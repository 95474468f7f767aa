use Rattle.std.proofs.Common.{map}
use Rattle.values.specs.Rules.{means}
use Rattle.protocol.specs.Machine.{started}
use Rattle.run.proofs.Filling.{Filled}
use Rattle.run.proofs.store.fill_opened.Given as goal

abbrev pub invariant-loop-controller : goal.invariant-loop-controller
invariant-loop-controller g l =
    Filled g.K.Kind.rules g.K.Kind.plain (λ i. (started (map (means g.K.Kind.rules g.K.Kind.plain) l.fn.opening.proposals.now) l.fn.opening.initial.0 i).v) l.v l.controller
