use Rattle.models.specs.declared.standards.Standard.TheVariants.{Carried}
use Rattle.models.specs.Stamps.{stamped}
use Rattle.models.specs.Standards.{standard}
use Rattle.protocol.specs.AnyCounts.{process2}
use Rattle.protocol.specs.Publications.{Algorithm3, CuredUnaware}
use Rattle.protocol.proofs.Published.{runs_algorithm_3}
use Rattle.protocol.proofs.AfterCalls.{blocks_are_sized, sends_in_algorithm_3, runs_after_calls, sends_after_calls}
use Rattle.protocol.proofs.theorems.stamped_carried_runs_algorithm_3.Goals as goal

pub returns-clause-rounds : goal.returns-clause-rounds
returns-clause-rounds c = runs_algorithm_3

pub returns-clause-blocks : goal.returns-clause-blocks
returns-clause-blocks c = blocks_are_sized (stamped (standard Carried))

pub returns-clause-senders : goal.returns-clause-senders
returns-clause-senders c = sends_in_algorithm_3

pub returns-clause-after_calls : goal.returns-clause-after_calls
returns-clause-after_calls c = runs_after_calls (stamped (standard Carried)) process2 Algorithm3 CuredUnaware runs_algorithm_3 sends_in_algorithm_3

pub returns-clause-newly_seated : goal.returns-clause-newly_seated
returns-clause-newly_seated c = sends_after_calls
