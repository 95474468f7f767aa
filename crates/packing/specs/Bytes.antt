-- The bytes of a run file. Assumes nothing.
use Rattle.std.specs.Prelude.{ℕ, ◌+◌, ◌*◌, ◌/◌, ◌%◌, if◌then◌else◌, List, [], ◌∷◌, ◌++◌, length, Some, None, ◌==◌}
use Rattle.std.specs.List.{flat_map}
use Rattle.values.specs.Cells.{Held}
use Rattle.models.specs.Standards.{code_of}
use Rattle.script.specs.Scripts.{rules_of}
use Rattle.script.specs.declared.scripts.House.{House}
use Rattle.script.specs.declared.scripts.ValueKind.{ValueKind}
use Rattle.script.specs.declared.scripts.ValueKind.TheVariants.{Setpoint, Sheet}

-- what is told in a round
pub record Forged : Type 0 where
  pub round : ℕ
  pub sender : ℕ
  pub receiver : ℕ
  pub column : ℕ
  pub cell : Held

-- a block as it is opened: n, t, the initial set, and the numbers of each proposal
pub record Opened : Type 0 where
  pub n : ℕ
  pub t : ℕ
  pub initial : ℕ
  pub proposals : List (List ℕ)

-- the largest number of one byte
abbrev pub most_in_byte : ℕ
most_in_byte = 255

-- a number in two bytes, low byte first
abbrev pub two_bytes : ℕ → List ℕ
two_bytes x = x % 256 ∷ x / 256 ∷ []

abbrev pub value_bytes : List ℕ → List ℕ
value_bytes numbers = flat_map two_bytes numbers

-- the numbers that stand where a cell is empty
abbrev pub blank : ValueKind → List ℕ
blank Setpoint = 0 ∷ []
blank Sheet = 0 ∷ 0 ∷ 0 ∷ 0 ∷ []

-- the tag of a cell, 0 where it is empty, and its value
abbrev pub cell_bytes : ValueKind → Held → List ℕ
cell_bytes kind None = 0 ∷ value_bytes (blank kind)
cell_bytes kind (Some numbers) = 1 ∷ value_bytes numbers

abbrev pub line_bytes : ValueKind → Forged → List ℕ
line_bytes kind x = two_bytes x.round ++ (x.sender ∷ x.receiver ∷ x.column ∷ cell_bytes kind x.cell)

-- where the sets and the forgery lines start, and where the file ends, by the width of a value
module _ (width n : ℕ) where
  abbrev pub sets_start : ℕ
  sets_start = 16 + n * width

  abbrev pub lines_start : (rounds : ℕ) → ℕ
  lines_start rounds = sets_start + 2 * (rounds + 1)

  abbrev pub file_end : (rounds lines : ℕ) → ℕ
  file_end rounds lines = lines_start rounds + lines * (6 + width)

abbrev pub kind_byte : ValueKind → ℕ
kind_byte Setpoint = 0
kind_byte Sheet = 1

-- any layers of stamps are one model with stamps
abbrev pub stamps_byte : ℕ → ℕ
stamps_byte layers = if layers == 0 then 0 else 1

abbrev pub header_bytes : House → (n t rounds lines : ℕ) → List ℕ
header_bytes house n t rounds lines =
    let width = (rules_of house.kind).width in
    (kind_byte house.kind ∷ code_of house.base ∷ stamps_byte house.stamps ∷ n ∷ t ∷ 0 ∷ [])
    ++ value_bytes (rounds ∷ lines ∷ 16 ∷ sets_start width n ∷ lines_start width n rounds ∷ [])

-- a run file: its header, the proposals, the initial set and those of the rounds, and the forgery lines
abbrev pub file_bytes : House → Opened → (sets : List ℕ) → List Forged → List ℕ
file_bytes house o sets forged =
    header_bytes house o.n o.t (length sets) (length forged)
    ++ (flat_map value_bytes o.proposals ++ (value_bytes (o.initial ∷ sets) ++ flat_map (line_bytes house.kind) forged))
