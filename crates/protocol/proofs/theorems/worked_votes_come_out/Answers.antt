use Rattle.protocol.proofs.Working.{worked, further}
use Rattle.protocol.proofs.theorems.worked_votes_come_out.Goals as goal

pub returns-clause-votes : goal.returns-clause-votes
returns-clause-votes c = worked

pub returns-clause-further : goal.returns-clause-further
returns-clause-further c = further
