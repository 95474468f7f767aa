use Rattle.transcript.proofs.Layering.{layers_lawful}
use Rattle.transcript.proofs.layers.LayeredLawfulModel.lawful.Goals as goal

pub returns : goal.returns
returns c = layers_lawful c.args.self.now
