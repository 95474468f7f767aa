-- Lists of calls with their answers, and the law that they obey. It speaks of calls and answers only. Assumes nothing.
use Rattle.std.specs.Prelude.{
  ◌≡◌,
  ℕ,
  zero,
  suc,
  ◌+◌,
  ◌*◌,
  ◌<◌,
  ◌≤◌,
  Bool,
  true,
  false,
  if◌then◌else◌,
  List,
  [],
  ◌∷◌,
  ◌++◌,
  map,
  length,
  take,
  Some,
  None,
  Option,
  slice_index,
  slice_index_or,
}
use Rattle.std.specs.Option.{option_or}
use Rattle.values.specs.Cells.{Held}
use Rattle.models.specs.declared.classes.Class.TheVariants.{Honest}
use Rattle.models.specs.Sets.{has}
use Rattle.models.specs.Laws.{Meaning, Lawful}
use Rattle.protocol.specs.Machine.{Setting, State, Idle, Call, Open, Seat, Forge, Close, Decision, Answer, Done, Decided, Refused, step}

-- a call with its answer
pub record Entry : Type 0 where
  pub call : Call
  pub answer : Answer

abbrev pub Transcript : Type 0
Transcript = List Entry

-- a call is accepted if it is not refused
abbrev pub accepted : Answer → Bool
accepted Done = true
accepted (Decided cell) = true
accepted (Refused why) = false

-- what an open took
pub record Opening : Type 0 where
  pub n : ℕ
  pub t : ℕ
  pub proposals : List (List ℕ)
  pub initial : ℕ

-- What one call adds: an opening, a set, a close, or the cell that a decision answered. The call is looked at first,
-- and its answer only where such a call can add something.
abbrev pub opening_in : Call → Answer → Option Opening
opening_in (Open n t proposals initial) answer = if accepted answer then Some (record { n = n; t = t; proposals = proposals; initial = initial }) else None
opening_in (Seat set) answer = None
opening_in (Forge j i k cell) answer = None
opening_in Close answer = None
opening_in (Decision i) answer = None

abbrev pub sets_in : Call → Answer → List ℕ
sets_in (Open n t proposals initial) answer = []
sets_in (Seat set) answer = if accepted answer then set ∷ [] else []
sets_in (Forge j i k cell) answer = []
sets_in Close answer = []
sets_in (Decision i) answer = []

abbrev pub closes_in : Call → Answer → ℕ
closes_in (Open n t proposals initial) answer = 0
closes_in (Seat set) answer = 0
closes_in (Forge j i k cell) answer = 0
closes_in Close answer = if accepted answer then 1 else 0
closes_in (Decision i) answer = 0

abbrev pub told_cell : Answer → Option Held
told_cell Done = None
told_cell (Decided cell) = Some cell
told_cell (Refused why) = None

abbrev pub cell_in : Call → Answer → Option Held
cell_in (Open n t proposals initial) answer = None
cell_in (Seat set) answer = None
cell_in (Forge j i k cell) answer = None
cell_in Close answer = None
cell_in (Decision i) answer = told_cell answer

-- the accepted open
abbrev pub opening : Transcript → Option Opening
opening [] = None
opening (e ∷ rest) = option_or (opening_in e.call e.answer) (opening rest)

-- the sets of the accepted seats, which are those of rounds 0, 1, 2 and so on
abbrev pub sets : Transcript → List ℕ
sets [] = []
sets (e ∷ rest) = sets_in e.call e.answer ++ sets rest

-- how many closes were accepted, and so how many rounds are closed
abbrev pub closes : Transcript → ℕ
closes [] = 0
closes (e ∷ rest) = closes_in e.call e.answer + closes rest

-- the cell that call number i answered, if it was an accepted decision
abbrev pub answered : Transcript → ℕ → Option Held
answered [] i = None
answered (e ∷ rest) zero = cell_in e.call e.answer
answered (e ∷ rest) (suc i) = answered rest i

-- the set of round r; where round r was never reached, the empty set
abbrev pub set_of : Transcript → ℕ → ℕ
set_of log r = slice_index (sets log) r

-- controller i is unseated in round r
abbrev pub Unseated : Transcript → (r i : ℕ) → Type 0
Unseated log r i = has (set_of log r) i ≡ false

-- a clean coordinator: it is unseated in the collecting and the deciding round of the phase that it coordinates
pub record Clean (log : Transcript) (o : Opening) (c : ℕ) : Type 0 where
  pub controller : c < o.n
  pub collecting : Unseated log (3 * c + 1) c
  pub deciding : Unseated log (3 * c + 2) c

-- round 0 was reached, and the model calls controller i honest in it
pub record HonestAtStart (m : Meaning) (log : Transcript) (o : Opening) (i : ℕ) : Type 0 where
  pub reached : 0 < length (sets log)
  pub honest : m.class o.initial (set_of log 0) o.t i ≡ Honest

-- the accepted open took w as the proposal of controller i
abbrev pub Proposed : Opening → (i : ℕ) → List ℕ → Type 0
Proposed o i w = slice_index_or (map Some o.proposals) i None ≡ Some w

-- whoever is honest in round 0, by the model, proposed w
abbrev pub HonestProposed : Meaning → Transcript → Opening → List ℕ → Type 0
HonestProposed m log o w = (i : ℕ) → i < o.n → HonestAtStart m log o i → Proposed o i w

abbrev pub Filled : Held → Type 0
Filled cell = (x : List ℕ) × (cell ≡ Some x)

-- the law of a transcript with this opening
pub record Agrees (m : Meaning) (log : Transcript) (o : Opening) : Type 0 where
  -- with a clean coordinator any two filled decisions are equal, whoever was asked for them and when
  pub equal : (c : ℕ) → Clean log o c → (i j : ℕ) (x y : List ℕ) → answered log i ≡ Some (Some x) → answered log j ≡ Some (Some y) → x ≡ y
  -- with a clean coordinator a decision is filled if it is answered once round 3n - 1 is closed
  pub filled : (c : ℕ) → Clean log o c → (i : ℕ) (cell : Held) → answered log i ≡ Some cell → 3 * o.n ≤ closes (take i log) → Filled cell
  -- a decision that is answered before round 3n - 1 is closed is empty, with or without a clean coordinator
  pub early : (i : ℕ) (cell : Held) → answered log i ≡ Some cell → closes (take i log) < 3 * o.n → cell ≡ None
  -- where whoever is honest in round 0 proposed w, a filled decision is w, with or without a clean coordinator
  pub valid : (w : List ℕ) → HonestProposed m log o w → (i : ℕ) (x : List ℕ) → answered log i ≡ Some (Some x) → x ≡ w

-- the law of a transcript
pub record Law (m : Meaning) (log : Transcript) : Type 0 where
  pub opened : (o : Opening) → opening log ≡ Some o → Agrees m log o
  -- where no open was accepted, no decision was
  pub unopened : opening log ≡ None → (i : ℕ) → answered log i ≡ None

-- a list of calls that name one model, with the machine's answers
abbrev pub transcript : Setting → Meaning → State → List Call → Transcript
transcript x m s [] = []
transcript x m s (c ∷ calls) = record { call = c; answer = (step x m s c).1 } ∷ transcript x m (step x m s c).0 calls

-- the state after a list of calls that name one model
abbrev pub state_after : Setting → Meaning → State → List Call → State
state_after x m s [] = s
state_after x m s (c ∷ calls) = state_after x m (step x m s c).0 calls

-- the theorem: whatever is called on a new run, with one lawful model named throughout, the transcript obeys the law
abbrev pub Agreement : Type 0
Agreement = (x : Setting) (m : Meaning) → Lawful m → (calls : List Call) → Law m (transcript x m Idle calls)
