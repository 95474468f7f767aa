use Rattle.protocol.proofs.Agreeing.{agreement}
use Rattle.protocol.proofs.theorems.decisions_agree.Goals as goal

pub returns : goal.returns
returns c = agreement
