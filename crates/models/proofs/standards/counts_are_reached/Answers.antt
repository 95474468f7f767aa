use Rattle.models.proofs.Table.{reached}
use Rattle.models.proofs.standards.counts_are_reached.Goals as goal

pub returns : goal.returns
returns c = reached c.args.model
