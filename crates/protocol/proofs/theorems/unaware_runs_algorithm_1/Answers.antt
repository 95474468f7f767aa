use Rattle.models.specs.declared.standards.Standard.TheVariants.{Unaware}
use Rattle.models.specs.Standards.{standard}
use Rattle.protocol.specs.AnyCounts.{process1}
use Rattle.protocol.specs.Publications.{Algorithm1, CuredUnaware}
use Rattle.protocol.proofs.Published.{runs_algorithm_1}
use Rattle.protocol.proofs.AfterCalls.{blocks_are_sized, sends_in_algorithm_1, runs_after_calls}
use Rattle.protocol.proofs.theorems.unaware_runs_algorithm_1.Goals as goal

pub returns-clause-rounds : goal.returns-clause-rounds
returns-clause-rounds c = runs_algorithm_1

pub returns-clause-blocks : goal.returns-clause-blocks
returns-clause-blocks c = blocks_are_sized (standard Unaware)

pub returns-clause-senders : goal.returns-clause-senders
returns-clause-senders c = sends_in_algorithm_1

pub returns-clause-after_calls : goal.returns-clause-after_calls
returns-clause-after_calls c = runs_after_calls (standard Unaware) process1 Algorithm1 CuredUnaware runs_algorithm_1 sends_in_algorithm_1
