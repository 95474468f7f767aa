-- The rules of windows: a part of the day, in minutes after midnight.
use Rattle.std.specs.Prelude.{ℕ, Bool, false, ◌&&◌, List, [], ◌∷◌, nat_le}
use Rattle.values.specs.Rules.{Rules}
use Rattle.trials.specs.declared.windows.Window.{Window}

-- two numbers in order, within a day of 1440 minutes
abbrev pub in_day : List ℕ → Bool
in_day [] = false
in_day (from ∷ []) = false
in_day (from ∷ until ∷ []) = nat_le from until && nat_le until 1440
in_day (from ∷ until ∷ more ∷ rest) = false

abbrev pub window_rules : Rules
window_rules = record { allowed = in_day; fallback = 480 ∷ 1080 ∷ []; width = 4 }

abbrev pub minutes_of : Window → List ℕ
minutes_of w = w.from ∷ w.until ∷ []
