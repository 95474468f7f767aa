-- The parts of a packed file are read again.
use Rattle.std.proofs.Common.{◌≡◌, ℕ, zero, suc, ◌+◌, ◌*◌, ◌/◌, ◌%◌, false, cond, List, [], ◌∷◌, ◌++◌, map, length, get_or, drop, None, Some, ◌==◌, refl, ap, ap₂, sym, ◌∙◌, append_assoc, length-append, arith}
use Rattle.std.specs.Prelude.{not}
use Rattle.std.specs.List.{flat_map, AllByRecursion}
use Rattle.std.proofs.lemmas.List.{take_at, drop_at, drop-drop, get_or-drop}
use Rattle.std.proofs.lemmas.List.Concat.{flat_map-cons}
use Rattle.std.proofs.lemmas.Bool.Decides.{nat_tests}
use Rattle.values.specs.Rules.{numbers}
use Rattle.values.specs.Cells.{Held}
use Rattle.models.specs.declared.standards.Standard.{Standard}
use Rattle.models.specs.declared.standards.Standard.TheVariants.{Aware, Unaware, Buffered, Carried, Fixed}
use Rattle.models.specs.Standards.{code_of, with_code}
use Rattle.run_file.specs.declared.headers.ValueKind as file
use Rattle.run_file.specs.declared.headers.ValueKind.TheVariants as kinds
use Rattle.run_file.specs.Files.{number_at, pieces}
use Rattle.run_file.specs.Headers.{kind_with, stamps_with}
use Rattle.run_file.specs.Lines.{Line, line, cell_of}
use Rattle.script.specs.declared.scripts.ValueKind.{ValueKind}
use Rattle.script.specs.declared.scripts.ValueKind.TheVariants.{Setpoint, Sheet}
use Rattle.packing.specs.Bytes.{Forged, two_bytes, value_bytes, blank, line_bytes, kind_byte, stamps_byte}

-- a number in two bytes
pub low_high : (x : ℕ) → x % 256 + x / 256 * 256 ≡ x
low_high x = omega arith

pub numbers_again : (xs : List ℕ) → numbers (value_bytes xs) ≡ xs
numbers_again [] = refl
numbers_again (x ∷ xs) = ap₂ (λ y ys. y ∷ ys) (low_high x) (numbers_again xs)

pub all_numbers_again : (xss : List (List ℕ)) → map numbers (map value_bytes xss) ≡ xss
all_numbers_again [] = refl
all_numbers_again (xs ∷ xss) = ap₂ (λ y ys. y ∷ ys) (numbers_again xs) (all_numbers_again xss)

pub length_value : (xs : List ℕ) → length (value_bytes xs) ≡ 2 * length xs
length_value [] = refl
length_value (x ∷ xs) = omega (arith, length_value xs)

-- pieces that are joined
module _ {X : Type 0} (f : X → List ℕ) (w : ℕ) where
  abbrev pub Wide : List X → Type 0
  Wide xs = AllByRecursion (λ x. length (f x) ≡ w) xs

  more : (a n : ℕ) → a + n * a ≡ suc n * a
  more a n = omega arith

  pub length_joined : (xs : List X) → Wide xs → length (flat_map f xs) ≡ length xs * w
  length_joined [] h = omega arith
  length_joined (x ∷ xs) h = ap length (flat_map-cons f x xs) ∙ length-append (f x) (flat_map f xs) ∙ ap₂ (λ a b. a + b) h.0 (length_joined xs h.1) ∙ more w (length xs)

  pub pieces_again : (xs : List X) (rest : List ℕ) → Wide xs → pieces w (length xs) (flat_map f xs ++ rest) ≡ map f xs
  pieces_again [] rest h = refl
  pieces_again (x ∷ xs) rest h =
      let e : flat_map f (x ∷ xs) ++ rest ≡ f x ++ (flat_map f xs ++ rest) = ap (λ bs. bs ++ rest) (flat_map-cons f x xs) ∙ append_assoc (f x) (flat_map f xs) rest in
      ap (pieces w (suc (length xs))) e
      ∙ ap₂ (λ p ps. p ∷ ps) (take_at (f x) (flat_map f xs ++ rest) w h.0) (ap (pieces w (length xs)) (drop_at (f x) (flat_map f xs ++ rest) w h.0) ∙ pieces_again xs rest h.1)

-- what stands behind a part
pub drop_more : (bs xs ys : List ℕ) (i j k : ℕ) → drop i bs ≡ xs ++ ys → length xs ≡ j → k ≡ i + j → drop k bs ≡ ys
drop_more bs xs ys i j k e l s = ap (λ m. drop m bs) s ∙ sym (drop-drop j i bs) ∙ ap (drop j) e ∙ drop_at xs ys j l

pub number_here : (bs rest : List ℕ) (i x : ℕ) → drop i bs ≡ x % 256 ∷ x / 256 ∷ rest → number_at bs i ≡ x
number_here bs rest i x e =
    let low : get_or bs i 0 ≡ x % 256 = ap (λ k. get_or bs k 0) (omega arith) ∙ sym (get_or-drop i bs 0 0) ∙ ap (λ b. get_or b 0 0) e in
    let high : get_or bs (i + 1) 0 ≡ x / 256 = sym (get_or-drop i bs 1 0) ∙ ap (λ b. get_or b 1 0) e in
    ap₂ (λ a b. a + b * 256) low high ∙ low_high x

pub sets_wide : (sets : List ℕ) → Wide two_bytes 2 sets
sets_wide [] = tt
sets_wide (s ∷ sets) = (refl, sets_wide sets)

pub sets_again : (sets : List ℕ) → map (λ two. number_at two 0) (map two_bytes sets) ≡ sets
sets_again [] = refl
sets_again (s ∷ sets) = ap₂ (λ y ys. y ∷ ys) (low_high s) (sets_again sets)

-- the line that a forgery is
abbrev pub tag_of : Held → ℕ
tag_of None = 0
tag_of (Some xs) = 1

abbrev pub filled : ValueKind → Held → List ℕ
filled kind None = value_bytes (blank kind)
filled kind (Some xs) = value_bytes xs

abbrev pub lined : ValueKind → Forged → Line
lined kind x = record { round = x.round; sender = x.sender; receiver = x.receiver; column = x.column; tag = tag_of x.cell; value = filled kind x.cell }

parts_again : (kind : ValueKind) (round sender receiver column : ℕ) (cell : Held) → let x : Forged = record { round = round; sender = sender; receiver = receiver; column = column; cell = cell } in line (line_bytes kind x) ≡ lined kind x
parts_again kind round sender receiver column None = ap (λ r. record { round = r; sender = sender; receiver = receiver; column = column; tag = 0; value = value_bytes (blank kind) }) (low_high round)
parts_again kind round sender receiver column (Some xs) = ap (λ r. record { round = r; sender = sender; receiver = receiver; column = column; tag = 1; value = value_bytes xs }) (low_high round)

pub line_again : (kind : ValueKind) (x : Forged) → line (line_bytes kind x) ≡ lined kind x
line_again kind x = parts_again kind x.round x.sender x.receiver x.column x.cell

pub lines_again : (kind : ValueKind) (xs : List Forged) → map line (map (line_bytes kind) xs) ≡ map (lined kind) xs
lines_again kind [] = refl
lines_again kind (x ∷ xs) = ap₂ (λ y ys. y ∷ ys) (line_again kind x) (lines_again kind xs)

pub cell_again : (kind : ValueKind) (x : Forged) → cell_of (lined kind x) ≡ x.cell
cell_again kind x = by x.cell refl
  where
    by : (cell : Held) → x.cell ≡ cell → cell_of (lined kind x) ≡ x.cell
    by None e = ap (λ c. cell_of (lined kind (record { round = x.round; sender = x.sender; receiver = x.receiver; column = x.column; cell = c }))) e ∙ sym e
    by (Some xs) e = ap (λ c. cell_of (lined kind (record { round = x.round; sender = x.sender; receiver = x.receiver; column = x.column; cell = c }))) e ∙ ap Some (numbers_again xs) ∙ sym e

-- codes
abbrev pub file_kind : ValueKind → file.ValueKind
file_kind Setpoint = kinds.Setpoint
file_kind Sheet = kinds.Sheet

pub kind_again : (kind : ValueKind) → kind_with (kind_byte kind) ≡ Some (file_kind kind)
kind_again Setpoint = refl
kind_again Sheet = refl

pub model_again : (s : Standard) → with_code (code_of s) ≡ Some s
model_again Aware = refl
model_again Unaware = refl
model_again Buffered = refl
model_again Carried = refl
model_again Fixed = refl

pub stamps_again : (layers : ℕ) → stamps_with (stamps_byte layers) ≡ Some (not (layers == 0))
stamps_again zero = refl
stamps_again (suc layers) =
    let some : (suc layers == 0) ≡ false = grind (arith, nat_tests) in
    ap (λ b. stamps_with (cond b 0 1)) some ∙ ap (λ b. Some (not b)) (sym some)
