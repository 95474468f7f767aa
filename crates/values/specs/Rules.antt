-- What a value kind fixes, and what values' rows, bytes and text mean under it. Assumes nothing.
use Rattle.std.specs.Prelude.{ℕ, ◌+◌, ◌*◌, Bool, if◌then◌else◌, ◌&&◌, List, [], ◌∷◌, ◌++◌, length, Some, None, Ok, Err, decimal, Option, Result, ◌==◌}
use Rattle.std.specs.Option.{unwrap_or}
use Rattle.values.specs.declared.refusals.Refusal.{Refusal}
use Rattle.values.specs.declared.refusals.Refusal.TheVariants.{Value}

-- the rule that the numbers of a value keep, the numbers of the fallback, and a value's width in bytes
pub record Rules : Type 0 where
  pub allowed : List ℕ → Bool
  pub fallback : List ℕ
  pub width : ℕ

-- the value with these numbers, if the rule allows them
abbrev pub lawful : Rules → List ℕ → Option (List ℕ)
lawful k xs = if k.allowed xs then Some xs else None

-- the value that numbers stand for: they themselves, or the fallback where they break the rule
abbrev pub stands : Rules → List ℕ → List ℕ
stands k xs = unwrap_or (lawful k xs) k.fallback

-- the value that a value's row means, by the row's plain numbers
abbrev pub means : {R : Type 0} → Rules → (R → List ℕ) → R → List ℕ
means k plain row = stands k (plain row)

-- the numbers in bytes, two bytes each, low byte first; an odd byte at the end makes none
abbrev pub numbers : List ℕ → List ℕ
numbers [] = []
numbers (low ∷ []) = []
numbers (low ∷ high ∷ rest) = (low + high * 256) ∷ numbers rest

-- the n numbers in 2n bytes; fewer or more bytes have none
abbrev pub numbers_in : ℕ → List ℕ → Option (List ℕ)
numbers_in n bytes = if length bytes == 2 * n then Some (numbers bytes) else None

-- the numbers in as many bytes as the width; fewer or more bytes have none
abbrev pub decodes : Rules → List ℕ → Option (List ℕ)
decodes k bytes = if length bytes == k.width then Some (numbers bytes) else None

-- reading: the numbers, if the bytes are as many as the width and the numbers keep the rule; else the refusal `Value`
abbrev pub reads : Rules → List ℕ → Result (List ℕ) Refusal
reads k bytes = if length bytes == k.width && k.allowed (numbers bytes) then Ok (numbers bytes) else Err Value

-- what was read, by its meaning
abbrev pub meant : {V E : Type 0} → (V → List ℕ) → Result V E → Result (List ℕ) E
meant m (Ok v) = Ok (m v)
meant m (Err e) = Err e

-- writing: the numbers in decimal, separated by one blank
abbrev pub text : List ℕ → List ℕ
text [] = []
text (x ∷ []) = decimal x
text (x ∷ y ∷ rest) = decimal x ++ (32 ∷ text (y ∷ rest))
