use Rattle.protocol.proofs.Rounding.{rounds_are_of_their_calls}
use Rattle.protocol.proofs.theorems.the_machine_obeys_its_laws.Goals as goal

pub returns-clause-rounds : goal.returns-clause-rounds
returns-clause-rounds c = rounds_are_of_their_calls
