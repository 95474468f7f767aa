use Rattle.std.proofs.Common.{rules}
use Rattle.models.proofs.Members.{ones-members}
use Rattle.models.proofs.sets.Set.size.Goals as goal

pub returns : goal.returns
returns c = search (rules, ones-members)
