use Rattle.std.proofs.Common.{arith}
use Rattle.std.proofs.lemmas.Nat.{mul-add-lt}
use Rattle.run.proofs.places.row_place.Goals as goal

pub returns-clause-within : goal.returns-clause-within
returns-clause-within c = omega (arith, mul-add-lt c.args.controller c.args.n c.args.column c.args.n c.requires.controller c.requires.column)
