use Rattle.protocol.proofs.AnyRounds.{runs_any_round}
use Rattle.protocol.proofs.Published.{published_rounds}
use Rattle.protocol.proofs.theorems.rounds_under_any_counts.Goals as goal

pub returns-clause-rounds : goal.returns-clause-rounds
returns-clause-rounds c = runs_any_round

pub returns-clause-published : goal.returns-clause-published
returns-clause-published c = published_rounds
