-- How calls are written. Assumes nothing.
use Rattle.std.specs.Prelude.{◌≡◌, ℕ, zero, suc, ◌^◌, ◌<◌, ◌⊎◌, ⊤, if◌then◌else◌, List, [], ◌∷◌, ◌++◌, map, length, Some, None, codes, decimal, replicate}
use Rattle.std.specs.List.{join_with_byte, AllByRecursion}
use Rattle.models.specs.Sets.{has}
use Rattle.models.specs.declared.sets.TheConstants.{MOST_CONTROLLERS}
use Rattle.values.specs.Cells.{Held}
use Rattle.protocol.specs.Machine as machine
use Rattle.script.specs.Words.{space, comma, slash}
use Rattle.models.specs.declared.standards.Standard.{Standard}
use Rattle.models.specs.declared.standards.Standard.TheVariants.{Aware, Unaware, Buffered, Carried, Fixed}
use Rattle.script.specs.declared.scripts.House.{House}
use Rattle.script.specs.declared.scripts.ValueKind.{ValueKind}
use Rattle.script.specs.declared.scripts.ValueKind.TheVariants.{Setpoint, Sheet}

-- a figure: its numbers, with a slash between two
abbrev pub written_figure : List ℕ → List ℕ
written_figure numbers = join_with_byte slash (map decimal numbers)

-- the members of a set below n, in their order
unfoldable pub members_below : ℕ → (set : ℕ) → List ℕ
members_below zero set = []
members_below (suc n) set = members_below n set ++ (if has set n then n ∷ [] else [])

-- a set: its members between braces, with a comma between two
abbrev pub written_set : ℕ → List ℕ
written_set set = codes "{" ++ (join_with_byte comma (map decimal (members_below MOST_CONTROLLERS set)) ++ codes "}")

abbrev pub written_cell : Held → List ℕ
written_cell None = codes "empty"
written_cell (Some numbers) = written_figure numbers

-- the words of a call
abbrev pub words_for : machine.Call → List (List ℕ)
words_for (machine.Open n t proposals initial) = codes "open" ∷ decimal n ∷ decimal t ∷ written_set initial ∷ map written_figure proposals
words_for (machine.Seat set) = codes "seat" ∷ written_set set ∷ []
words_for (machine.Forge sender receiver column cell) = codes "forge" ∷ decimal sender ∷ decimal receiver ∷ decimal column ∷ written_cell cell ∷ []
words_for machine.Close = codes "close" ∷ []
words_for (machine.Decision controller) = codes "decision" ∷ decimal controller ∷ []

-- words, each behind a blank
abbrev pub behind_blanks : List (List ℕ) → List ℕ
behind_blanks [] = []
behind_blanks (word ∷ words) = (space ∷ word) ++ behind_blanks words

-- a call: its words, with a blank between two
abbrev pub written : machine.Call → List ℕ
written call = join_with_byte space (words_for call)

-- a number as a call takes it, a set, and a figure: one number of two bytes, or four
abbrev pub IsNumber : ℕ → Type 0
IsNumber n = n < 2 ^ 64

abbrev pub IsSet : ℕ → Type 0
IsSet set = set < 2 ^ MOST_CONTROLLERS

abbrev pub IsFigure : List ℕ → Type 0
IsFigure numbers = ((length numbers ≡ 1) ⊎ (length numbers ≡ 4)) × AllByRecursion (λ x. x < 2 ^ 16) numbers

abbrev pub IsCell : Held → Type 0
IsCell None = ⊤
IsCell (Some numbers) = IsFigure numbers

-- a call that a script can have: what it takes are numbers, sets and figures
abbrev pub IsWritable : machine.Call → Type 0
IsWritable (machine.Open n t proposals initial) = IsNumber n × IsNumber t × IsSet initial × AllByRecursion IsFigure proposals
IsWritable (machine.Seat set) = IsSet set
IsWritable (machine.Forge sender receiver column cell) = IsNumber sender × IsNumber receiver × IsNumber column × IsCell cell
IsWritable machine.Close = ⊤
IsWritable (machine.Decision controller) = IsNumber controller

abbrev pub kind_word : ValueKind → List ℕ
kind_word Setpoint = codes "setpoint"
kind_word Sheet = codes "sheet"

abbrev pub model_word : Standard → List ℕ
model_word Aware = codes "aware"
model_word Unaware = codes "unaware"
model_word Buffered = codes "buffered"
model_word Carried = codes "carried"
model_word Fixed = codes "fixed"

-- the words of a first line: a word `stamped` for each layer of stamps
abbrev pub words_of_house : House → List (List ℕ)
words_of_house h = kind_word h.kind ∷ model_word h.base ∷ replicate h.stamps (codes "stamped")

abbrev pub written_house : House → List ℕ
written_house h = join_with_byte space (words_of_house h)
