use Rattle.std.proofs.Common.{rules}
use Rattle.protocol.specs.Rounds.{chosen}
use Rattle.run.proofs.choosing.chosen.Goals as goal

pub returns : goal.returns
unfolding chosen
returns g c = search rules
