use Rattle.std.proofs.Common.{Some}
use Rattle.protocol.specs.Stages.{coordinator_of}
use Rattle.protocol.specs.Rounds.{candidate, settled}
use Rattle.run.specs.Hearing.{hears}
use Rattle.run.proofs.Filling.{Filled}
use Rattle.run.proofs.rounds.decide.Given as goal

abbrev pub invariant-loop-receiver : goal.invariant-loop-receiver
invariant-loop-receiver g l =
    Filled g.K.Kind.rules g.K.Kind.plain
    (λ i. Some (settled l.fn.sent.n l.fn.counts g.K.Kind.rules.fallback (candidate l.fn.sent.n l.fn.counts (hears l.fn.sent i)) (hears l.fn.sent i (coordinator_of l.fn.phase))))
    l.next
    l.receiver
