-- What a poll of a block reads and counts. Assumes nothing.
use Rattle.std.specs.Prelude.{◌≡◌, ℕ, zero, suc, min, if◌then◌else◌, ◌&&◌, List, [], ◌∷◌, ◌++◌, map, length, take, Some, None, Ok, Err, count_by, Option, Result, ◌==◌, nat_le, slice_index_or, codes, decimal}
use Rattle.std.specs.Result.{result_ok}
use Rattle.models.specs.declared.sets.TheConstants.{MOST_CONTROLLERS}
use Rattle.values.specs.declared.refusals.Refusal.{Refusal}
use Rattle.values.specs.declared.refusals.Refusal.TheVariants.{BlockSize}
use Rattle.values.specs.Rules.{reads, meant, text}
use Rattle.values.specs.Setpoints.{setpoint_rules, tenths_of}
use Rattle.values.specs.Cells.{Held, alike, shows, holders_in, others_in}
use Rattle.poll.specs.declared.polls.Standing.{Standing}
use Rattle.poll.specs.declared.polls.Poll.{Poll}
use Rattle.poll.specs.declared.polls.PollError.{PollError}
use Rattle.poll.specs.declared.polls.PollError.TheVariants.{Refused, NoMemory}

-- the input in pieces of two bytes, one for each controller; an odd byte at the end is a piece of its own
abbrev pub pieces : List ℕ → List (List ℕ)
pieces [] = []
pieces (a ∷ []) = (a ∷ []) ∷ []
pieces (a ∷ b ∷ rest) = (a ∷ b ∷ []) ∷ pieces rest

-- what each controller proposes: a setpoint, or the refusal of its bytes
abbrev pub proposed : List ℕ → List (Result (List ℕ) Refusal)
proposed input = map (reads setpoint_rules) (pieces input)

-- a refused proposal is an empty cell
abbrev pub cells_of : List (Result (List ℕ) Refusal) → List Held
cells_of proposals = map result_ok proposals

-- a block has 1 to MOST_CONTROLLERS controllers
abbrev pub sized : ℕ → Result (Unit {0}) Refusal
sized n = if nat_le 1 n && nat_le n MOST_CONTROLLERS then Ok tt else Err BlockSize

-- the value of a cell, if it is filled and none of the cells before it holds the same
abbrev pub unseen : List Held → Held → List (List ℕ)
unseen before None = []
unseen before (Some v) = if holders_in before v == 0 then v ∷ [] else []

-- the value that appears first at place i, if one does
abbrev pub first_shown : List Held → ℕ → List (List ℕ)
first_shown cells i = unseen (take i cells) (slice_index_or cells i None)

-- the values of the first n cells, each once, in order of first appearance
abbrev pub distinct : List Held → ℕ → List (List ℕ)
distinct cells zero = []
distinct cells (suc n) = distinct cells n ++ first_shown cells n

-- how a value stands: how many cells hold it, and how many are filled otherwise
abbrev pub counted : List Held → List ℕ → List ℕ × ℕ × ℕ
counted cells v = (v, holders_in cells v, others_in cells v)

-- how each distinct value stands, in order of first appearance
abbrev pub standings_of : List Held → List (List ℕ × ℕ × ℕ)
standings_of cells = map (counted cells) (distinct cells (length cells))

-- the law of the standings: a value has one if some cell holds it, and else none
abbrev pub Once : List Held → List (List ℕ × ℕ × ℕ) → Type 0
Once cells all = (v : List ℕ) → count_by (λ s. alike s.0 v) all ≡ min 1 (holders_in cells v)

-- what a cell of setpoints holds
abbrev pub shown : Option ℕ → Held
shown c = shows setpoint_rules (λ row. row ∷ []) c

-- what a standing says: a value, how many cells hold it, and how many are filled otherwise
abbrev pub told : Standing → List ℕ × ℕ × ℕ
told s = (tenths_of s.value, s.holding, s.otherwise)

-- what is printed of a standing
abbrev pub line_of : Standing → List ℕ
line_of s = codes "value " ++ (text (tenths_of s.value) ++ (codes ": held by " ++ (decimal s.holding ++ (codes ", filled otherwise " ++ decimal s.otherwise))))

-- the poll of an input: the proposals in it, and the standings of their cells
pub record PollOf (input : List ℕ) (p : Poll) : Type 0 where
  pub size : sized (length (pieces input)) ≡ Ok tt
  pub proposals : map (meant tenths_of) p.proposals.items ≡ proposed input
  pub standings : map told p.standings.items ≡ standings_of (cells_of (proposed input))
  pub once : Once (cells_of (proposed input)) (map told p.standings.items)

-- a poll; or the refusal of a block that has no controller or more than 16; or else want of memory
abbrev pub Polled : List ℕ → Result Poll PollError → Type 0
Polled input (Ok p) = PollOf input p
Polled input (Err (Refused e)) = sized (length (pieces input)) ≡ Err e
Polled input (Err NoMemory) = sized (length (pieces input)) ≡ Ok tt
