-- Cells by what they mean: nothing, or the numbers of a value. Assumes nothing.
use Rattle.std.specs.Prelude.{ℕ, Bool, true, false, not, ◌&&◌, List, [], ◌∷◌, map, Some, None, length, count_by, Option, ◌==◌, nat_le, slice_index_or}
use Rattle.std.specs.Option.{option_map}
use Rattle.values.specs.Rules.{Rules, means}
use Rattle.values.specs.Counting.{count, lowest, IsLowest}

-- a cell by its meaning: empty, or the numbers of a value
abbrev pub Held : Type 0
Held = Option (List ℕ)

-- what a cell holds: nothing, or the value that the row in it means
abbrev pub shows : {R : Type 0} → Rules → (R → List ℕ) → Option R → Held
shows k plain cell = option_map (means k plain) cell

-- what the cells of a list hold, by place; past the list there is nothing
abbrev pub seen : {R : Type 0} → Rules → (R → List ℕ) → List (Option R) → ℕ → Held
seen k plain cells i = slice_index_or (map (shows k plain) cells) i None

-- whether two values are the same: equal numbers, place by place
abbrev pub alike : List ℕ → List ℕ → Bool
alike [] [] = true
alike [] (y ∷ ys) = false
alike (x ∷ xs) [] = false
alike (x ∷ xs) (y ∷ ys) = x == y && alike xs ys

-- whether a cell holds v
unfoldable pub holds : List ℕ → Held → Bool
holds v None = false
holds v (Some w) = alike w v

-- whether a cell is filled otherwise: with another value than v
unfoldable pub differs : List ℕ → Held → Bool
differs v None = false
differs v (Some w) = not (alike w v)

-- how many of n cells hold v
abbrev pub holders : (ℕ → Held) → ℕ → List ℕ → ℕ
holders cells n v = count (λ i. holds v (cells i)) n

-- how many of n cells are filled otherwise
abbrev pub others : (ℕ → Held) → ℕ → List ℕ → ℕ
others cells n v = count (λ i. differs v (cells i)) n

-- how many cells of a list hold v
abbrev pub holders_in : List Held → List ℕ → ℕ
holders_in cells v = count_by (holds v) cells

-- how many cells of a list are filled otherwise
abbrev pub others_in : List Held → List ℕ → ℕ
others_in cells v = count_by (differs v) cells

-- whether a cell is filled with a value that passes a test
unfoldable pub passes : (List ℕ → Bool) → Held → Bool
passes q None = false
passes q (Some v) = q v

-- whether two counts meet two bounds: enough cells hold a value, and not too many are filled otherwise
abbrev pub meets : (least most held otherwise : ℕ) → Bool
meets least most held otherwise = nat_le least held && nat_le otherwise most

-- a value qualifies where its counts meet the two bounds
abbrev pub qualifies : ℕ → ℕ → (ℕ → Held) → ℕ → List ℕ → Bool
qualifies least most cells n v = meets least most (holders cells n v) (others cells n v)

-- whether a cell is filled with a value that qualifies among the cells of a list
abbrev pub qualifies_among : {R : Type 0} → Rules → (R → List ℕ) → (least most : ℕ) → List (Option R) → Option R → Bool
qualifies_among k plain least most cells cell = passes (qualifies least most (seen k plain cells) (length cells)) (shows k plain cell)

-- whether place i is filled with a value that qualifies
abbrev pub qualifying : ℕ → ℕ → (ℕ → Held) → ℕ → ℕ → Bool
qualifying least most cells n i = passes (qualifies least most cells n) (cells i)

-- the lowest place whose value qualifies
abbrev pub winning : ℕ → ℕ → (ℕ → Held) → ℕ → Option ℕ
winning least most cells n = lowest (qualifying least most cells n) n

-- the law of the winner: the value at its place qualifies, and none at a lower place does; or there is no winner, and
-- no cell's value qualifies
abbrev pub IsWinner : ℕ → ℕ → (ℕ → Held) → ℕ → Option ℕ → Type 0
IsWinner least most cells n r = IsLowest (qualifying least most cells n) n r
