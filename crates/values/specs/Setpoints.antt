-- Setpoints: supply water in tenths of a degree Celsius.
use Rattle.std.specs.Prelude.{ℕ, Bool, false, ◌&&◌, List, [], ◌∷◌, nat_le}
use Rattle.values.specs.Rules.{Rules}
use Rattle.values.specs.declared.setpoints.Setpoint.{Setpoint}

-- the rule of setpoints: one number from 200 to 900
abbrev pub in_range : List ℕ → Bool
in_range [] = false
in_range (x ∷ []) = nat_le 200 x && nat_le x 900
in_range (x ∷ y ∷ rest) = false

abbrev pub setpoint_rules : Rules
setpoint_rules = record { allowed = in_range; fallback = 400 ∷ []; width = 2 }

abbrev pub tenths_of : Setpoint → List ℕ
tenths_of v = v.tenths ∷ []
