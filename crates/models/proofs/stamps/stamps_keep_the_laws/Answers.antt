use Rattle.models.proofs.Stamping.{stamps_lawful}
use Rattle.models.proofs.stamps.stamps_keep_the_laws.Goals as goal

pub returns : goal.returns
returns g c = stamps_lawful (g.M.Model.meaning c.args.model.now)
