use Rattle.protocol.proofs.Showing.{example}
use Rattle.protocol.proofs.theorems.the_law_is_not_empty.Goals as goal

pub returns : goal.returns
returns c = example c.lawful.ensures
