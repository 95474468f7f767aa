use Rattle.std.proofs.Common.{rules}
use Rattle.values.specs.Cells.{passes}
use Rattle.values.proofs.cells.qualifies.Goals as goal

pub returns : goal.returns
unfolding passes
returns g c = search rules
