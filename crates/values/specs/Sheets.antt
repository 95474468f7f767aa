-- Sheets: the shares of four zones in thousandths of the warm water.
use Rattle.std.specs.Prelude.{ℕ, Bool, ◌&&◌, List, [], ◌∷◌, length, sum, ◌==◌, nat_le}
use Rattle.values.specs.Rules.{Rules}
use Rattle.values.specs.declared.sheets.Sheet.{Sheet}
use Rattle.values.specs.declared.sheets.Shares.{Shares}

-- the rule of sheets: four shares, at most 1000 together
abbrev pub in_whole : List ℕ → Bool
in_whole xs = length xs == 4 && nat_le (sum xs) 1000

abbrev pub sheet_rules : Rules
sheet_rules = record { allowed = in_whole; fallback = 250 ∷ 250 ∷ 250 ∷ 250 ∷ []; width = 8 }

abbrev pub shares_of : Sheet → List ℕ
shares_of s = s.zone0 ∷ s.zone1 ∷ s.zone2 ∷ s.zone3 ∷ []

abbrev pub plain_shares : Shares → List ℕ
plain_shares s = s.zone0 ∷ s.zone1 ∷ s.zone2 ∷ s.zone3 ∷ []
