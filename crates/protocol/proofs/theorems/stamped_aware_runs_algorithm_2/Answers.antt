use Rattle.models.specs.declared.standards.Standard.TheVariants.{Aware}
use Rattle.models.specs.Stamps.{stamped}
use Rattle.models.specs.Standards.{standard}
use Rattle.protocol.specs.AnyCounts.{process2}
use Rattle.protocol.specs.Publications.{Algorithm2, CuredAware}
use Rattle.protocol.proofs.Published.{runs_algorithm_2}
use Rattle.protocol.proofs.AfterCalls.{blocks_are_sized, sends_in_algorithm_2, runs_after_calls}
use Rattle.protocol.proofs.theorems.stamped_aware_runs_algorithm_2.Goals as goal

pub returns-clause-rounds : goal.returns-clause-rounds
returns-clause-rounds c = runs_algorithm_2

pub returns-clause-blocks : goal.returns-clause-blocks
returns-clause-blocks c = blocks_are_sized (stamped (standard Aware))

pub returns-clause-senders : goal.returns-clause-senders
returns-clause-senders c = sends_in_algorithm_2

pub returns-clause-after_calls : goal.returns-clause-after_calls
returns-clause-after_calls c = runs_after_calls (stamped (standard Aware)) process2 Algorithm2 CuredAware runs_algorithm_2 sends_in_algorithm_2
