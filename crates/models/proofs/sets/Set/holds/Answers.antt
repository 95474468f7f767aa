use Rattle.std.proofs.Common.{arith}
use Rattle.std.proofs.lemmas.Bool.Decides.{nat_tests}
use Rattle.std.proofs.lemmas.Nat.Bits.{bit_at_above}
use Rattle.models.proofs.sets.Set.holds.Goals as goal

-- a number of MOST_CONTROLLERS or more is in no set
pub returns-else-controller-lt-MOST_CONTROLLERS : goal.returns-else-controller-lt-MOST_CONTROLLERS
returns-else-controller-lt-MOST_CONTROLLERS c = let beyond = bit_at_above c.args.self.0 16 c.args.controller (omega arith) (omega arith) in grind (arith, nat_tests)
