use Rattle.run.specs.Hearing.{hears}
use Rattle.run.proofs.Filling.{Filled}
use Rattle.run.proofs.hearing.Sent.hear_senders.Given as goal

abbrev pub invariant-loop-sender : goal.invariant-loop-sender
invariant-loop-sender g l = Filled g.K.Kind.rules g.K.Kind.plain (λ sender. hears l.fn.self l.receiver sender l.column) l.cells l.sender
