use Rattle.protocol.specs.Rounds.{chosen}
use Rattle.run.specs.Hearing.{hears}
use Rattle.run.proofs.Filling.{Filled}
use Rattle.run.proofs.rounds.vote.Given as goal

abbrev pub invariant-loop-receiver : goal.invariant-loop-receiver
invariant-loop-receiver g l =
    Filled g.K.Kind.rules g.K.Kind.plain (λ i. chosen l.fn.quorum.at_least l.fn.quorum.otherwise_at_most (λ j. hears l.fn.sent i j 0) l.fn.sent.n) l.next l.receiver
