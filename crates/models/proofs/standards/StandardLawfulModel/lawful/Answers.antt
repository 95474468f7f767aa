use Rattle.models.proofs.Table.{table_lawful}
use Rattle.models.proofs.standards.StandardLawfulModel.lawful.Goals as goal

pub returns : goal.returns
returns c = table_lawful c.args.self.now
