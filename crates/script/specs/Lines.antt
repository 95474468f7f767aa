-- What the words of a line say. Assumes nothing.
use Rattle.std.specs.Prelude.{ℕ, suc, if◌then◌else◌, List, [], ◌∷◌, Some, None, Option, Result, Ok, Err, codes}
use Rattle.std.specs.Option.{option_map, ok_or}
use Rattle.std.specs.Str.{bytes_eq}
use Rattle.values.specs.Cells.{Held}
use Rattle.models.specs.declared.standards.Standard.{Standard}
use Rattle.models.specs.declared.standards.Standard.TheVariants.{Aware, Unaware, Buffered, Carried, Fixed}
use Rattle.protocol.specs.Machine as machine
use Rattle.script.specs.declared.flaws.Expected.{Expected}
use Rattle.script.specs.declared.flaws.Expected.TheVariants as expected
use Rattle.script.specs.declared.scripts.House.{House}
use Rattle.script.specs.declared.scripts.ValueKind.{ValueKind}
use Rattle.script.specs.declared.scripts.ValueKind.TheVariants as kinds
use Rattle.script.specs.Numbers.{number_of, set_of, figure_of}

infixr 5 ◌and_then◌
-- what is read, with the words behind it
abbrev pub Read : Type 0 → Type 0
Read X = Result (X × List (List ℕ)) Expected

-- what the first of some words says, if it says it
abbrev pub first : {X : Type 0} → (List ℕ → Option X) → Expected → List (List ℕ) → Read X
first says what [] = Err what
first says what (word ∷ words) = ok_or (option_map (λ x. (x, words)) (says word)) what

-- one reading, and then one of the words behind it
abbrev pub ◌and_then◌ : {X Y : Type 0} → Result X Expected → (X → Result Y Expected) → Result Y Expected
Ok x and_then next = next x
Err what and_then next = Err what

-- nothing may follow
abbrev pub ended : {X : Type 0} → X → List (List ℕ) → Result X Expected
ended x [] = Ok x
ended x (word ∷ words) = Err expected.End

abbrev pub number_first : List (List ℕ) → Read ℕ
number_first = first number_of expected.Number

abbrev pub set_first : List (List ℕ) → Read ℕ
set_first = first set_of expected.Set

-- a cell: the word `empty`, or a figure
abbrev pub cell_of : List ℕ → Option Held
cell_of word = if bytes_eq word (codes "empty") then Some None else option_map Some (figure_of word)

abbrev pub cell_first : List (List ℕ) → Read Held
cell_first = first cell_of expected.Cell

-- figures to the end of the line
abbrev pub figures_in : List (List ℕ) → Result (List (List ℕ)) Expected
figures_in [] = Ok []
figures_in (word ∷ words) = ok_or (figure_of word) expected.Value and_then λ x. figures_in words and_then λ xs. Ok (x ∷ xs)

-- what stands behind the word of each call
abbrev pub open_in : List (List ℕ) → Result machine.Call Expected
open_in words =
    number_first words and_then λ n.
    number_first n.1 and_then λ t.
    set_first t.1 and_then λ initial.
    figures_in initial.1 and_then λ proposals.
    Ok (machine.Open n.0 t.0 proposals initial.0)

abbrev pub seat_in : List (List ℕ) → Result machine.Call Expected
seat_in words = set_first words and_then λ set. ended (machine.Seat set.0) set.1

abbrev pub forge_in : List (List ℕ) → Result machine.Call Expected
forge_in words =
    number_first words and_then λ sender.
    number_first sender.1 and_then λ receiver.
    number_first receiver.1 and_then λ column.
    cell_first column.1 and_then λ cell.
    ended (machine.Forge sender.0 receiver.0 column.0 cell.0) cell.1

abbrev pub close_in : List (List ℕ) → Result machine.Call Expected
close_in words = ended machine.Close words

abbrev pub decision_in : List (List ℕ) → Result machine.Call Expected
decision_in words = number_first words and_then λ controller. ended (machine.Decision controller.0) controller.1

-- a call: its word, and what stands behind it
abbrev pub call_in : List (List ℕ) → Result machine.Call Expected
call_in [] = Err expected.Call
call_in (word ∷ words) =
    if bytes_eq word (codes "open") then open_in words
    else if bytes_eq word (codes "seat") then seat_in words
    else if bytes_eq word (codes "forge") then forge_in words
    else if bytes_eq word (codes "close") then close_in words
    else if bytes_eq word (codes "decision") then decision_in words
    else Err expected.Call

-- the kind of values and the model, by name
abbrev pub kind_of : List ℕ → Option ValueKind
kind_of word =
    if bytes_eq word (codes "setpoint") then Some kinds.Setpoint
    else if bytes_eq word (codes "sheet") then Some kinds.Sheet
    else None

abbrev pub model_of : List ℕ → Option Standard
model_of word =
    if bytes_eq word (codes "aware") then Some Aware
    else if bytes_eq word (codes "unaware") then Some Unaware
    else if bytes_eq word (codes "buffered") then Some Buffered
    else if bytes_eq word (codes "carried") then Some Carried
    else if bytes_eq word (codes "fixed") then Some Fixed
    else None

-- how many layers of stamps the rest of a first line names
abbrev pub stamps_in : List (List ℕ) → Result ℕ Expected
stamps_in [] = Ok 0
stamps_in (word ∷ words) = if bytes_eq word (codes "stamped") then (stamps_in words and_then λ layers. Ok (suc layers)) else Err expected.Stamped

-- the first line: a kind, a model and its stamps
abbrev pub house_in : List (List ℕ) → Result House Expected
house_in words =
    first kind_of expected.Kind words and_then λ kind.
    first model_of expected.Model kind.1 and_then λ model.
    stamps_in model.1 and_then λ layers.
    Ok (record { kind = kind.0; base = model.0; stamps = layers })

-- how many cells the store has, by the words behind `cells`
abbrev pub cells_in : List (List ℕ) → Result ℕ Expected
cells_in words = number_first words and_then λ cells. ended cells.0 cells.1
