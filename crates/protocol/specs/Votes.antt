-- The votes worked by hand: one list, and what each of them claims. Assumes nothing.
use Rattle.std.specs.Prelude.{◌≡◌, ℕ, ◌+◌, ◌-◌, ◌*◌, ◌/◌, ◌%◌, ◌^◌, List, [], ◌∷◌, ◌++◌, map, length, Some, None, Ok, replicate, slice_index_or, IsErrAnd, ⊤}
use Rattle.std.specs.List.{range_with_len}
use Rattle.values.specs.Refusals.{number_of}
use Rattle.values.specs.Rules.{Rules, reads}
use Rattle.values.specs.Cells.{Held}
use Rattle.values.specs.Setpoints.{setpoint_rules}
use Rattle.values.specs.Sheets.{sheet_rules}
use Rattle.models.specs.declared.standards.Standard.{Standard}
use Rattle.models.specs.declared.standards.Standard.TheVariants.{Aware, Unaware, Buffered, Carried, Fixed}
use Rattle.models.specs.Laws.{Meaning}
use Rattle.models.specs.Standards.{standard}
use Rattle.models.specs.Stamps.{stamped}
use Rattle.protocol.specs.declared.stages.Stage.TheVariants.{Proposing, Deciding, Maintaining}
use Rattle.protocol.specs.Rounds.{Terms, Memory, blank, candidate, make}
use Rattle.protocol.specs.Machine.{Setting, State, Waiting, Seated, Call, Open, Seat, Close, Decision, Answer, Done, Decided, Refused, Idle, step}

infix 70 ◌gives◌
-- what people see of an answer: that the call was accepted, the cell answered, or the number of the refusal
pub data Outcome : Type 0 where
  Accepted : Outcome
  Answers : Held → Outcome
  RefusedWith : (number : ℕ) → Outcome

abbrev pub outcome_of : Answer → Outcome
outcome_of Done = Accepted
outcome_of (Decided cell) = Answers cell
outcome_of (Refused why) = RefusedWith (number_of why)

-- a call that names a model (only open and seat go by it), with its outcome
pub record Trial : Type 0 where
  pub model : Meaning
  pub call : Call
  pub outcome : Outcome

abbrev pub ◌gives◌ : Call → Outcome → Meaning → Trial
(call gives outcome) m = record { model = m; call = call; outcome = outcome }

-- calls that all name one model
abbrev pub under : Meaning → List (Meaning → Trial) → List Trial
under m [] = []
under m (trial ∷ rest) = trial m ∷ under m rest

pub data Vote : Type 0 where
  -- calls on a new run with so many cells have these outcomes
  Calls : (cells : ℕ) → List Trial → Vote
  -- calls on a new run have these outcomes, and then each controller keeps this v and this row of its own
  Leaves : List Trial → (v : List Held) → (rows : List (List Held)) → Vote
  -- what a controller hears in a proposing round, and the v that it makes of it
  Proposes : Meaning → (n t : ℕ) (heard : List Held) (v : Held) → Vote
  -- the controllers' rows that a controller hears in the deciding round of a phase, the candidates of the columns, and
  -- the v that it makes of them
  Decides : Meaning → (n t phase : ℕ) (rows : List (List Held)) (candidates : List Held) (v : Held) → Vote
  -- what a controller hears in a maintaining round, and the decision that it makes of it
  Maintains : Meaning → (n t : ℕ) (heard : List Held) (decision : Held) → Vote
  -- the bytes of these numbers are read as a value of a kind, or refused with a number
  Reads : Rules → (numbers : List ℕ) → Vote
  RefusesToRead : Rules → (numbers : List ℕ) (number : ℕ) → Vote

-- a cell of a list, by place
abbrev pub cell_at : List Held → ℕ → Held
cell_at cells j = slice_index_or cells j None

abbrev pub row_at : List (List Held) → ℕ → List Held
row_at rows j = slice_index_or rows j []

-- the cells of a store that is large enough for every block
abbrev pub ample : ℕ
ample = 4688

-- setpoints are voted on
abbrev pub setting : ℕ → Setting
setting cells = record { cells = cells; fallback = setpoint_rules.fallback }

-- what is seen of calls on a run, one after another, and the state after them
abbrev pub outcomes : Setting → State → List Trial → List Outcome
outcomes x s [] = []
outcomes x s (trial ∷ rest) = let r = step x trial.model s trial.call in outcome_of r.1 ∷ outcomes x r.0 rest

abbrev pub left_after : Setting → State → List Trial → State
left_after x s [] = s
left_after x s (trial ∷ rest) = left_after x (step x trial.model s trial.call).0 rest

-- whether a run so does what is tried of it
abbrev pub Comes : (cells : ℕ) → List Trial → Type 0
Comes cells trials = outcomes (setting cells) Idle trials ≡ map (λ (x : Trial). x.outcome) trials

-- what controllers keep in a state, by number
abbrev pub kept_in : State → ℕ → Memory
kept_in Idle i = blank
kept_in (Waiting b) i = b.memory i
kept_in (Seated b s) i = b.memory i

abbrev pub terms : Meaning → (n t : ℕ) → Terms
terms m n t = record { n = n; counts = m.counts t; fallback = setpoint_rules.fallback }

-- 16-bit numbers as bytes, low byte first
abbrev pub bytes_of : List ℕ → List ℕ
bytes_of [] = []
bytes_of (x ∷ rest) = x % 256 ∷ x / 256 ∷ bytes_of rest

-- what a vote claims
abbrev pub Claim : Vote → Type 0
Claim (Calls cells trials) = Comes cells trials
Claim (Leaves trials v rows) =
    let kept = kept_in (left_after (setting ample) Idle trials) in
    let all = range_with_len 0 (length v) in
    Comes ample trials × (map (λ i. (kept i).v) all ≡ v) × (map (λ i. map (kept i).row all) all ≡ rows)
Claim (Proposes m n t heard v) = (make Proposing (terms m n t) 0 blank (λ j k. cell_at heard j)).v ≡ v
Claim (Decides m n t phase rows candidates v) =
    let heard = λ (j k : ℕ). cell_at (row_at rows j) k in
    (map (candidate n (m.counts t) heard) (range_with_len 0 n) ≡ candidates) × ((make Deciding (terms m n t) (3 * phase + 2) blank heard).v ≡ v)
Claim (Maintains m n t heard decision) = (make Maintaining (terms m n t) (3 * n) blank (λ j k. cell_at heard j)).decision ≡ decision
Claim (Reads k numbers) = reads k (bytes_of numbers) ≡ Ok numbers
Claim (RefusesToRead k numbers number) = IsErrAnd (reads k (bytes_of numbers)) (λ why. number_of why ≡ number)

abbrev pub Claims : List Vote → Type 0
Claims [] = ⊤
Claims (v ∷ rest) = Claim v × Claims rest

-- in the votes: a filled cell, an empty one, the set of one controller, and a set without members
abbrev pub full : ℕ → Held
full x = Some (x ∷ [])

abbrev pub empty : Held
empty = None

abbrev pub only : ℕ → ℕ
only i = 2 ^ i

abbrev pub nobody : ℕ
nobody = 0

-- a block of n is opened with 500 proposed by all, from an initial set, or with nobody in it
abbrev pub open_500_from : (n t initial : ℕ) → Call
open_500_from n t initial = Open n t (replicate n (500 ∷ [])) initial

abbrev pub open_500 : (n t : ℕ) → Call
open_500 n t = open_500_from n t nobody

-- a block of one controller, up to its decision after round 2
abbrev alone : Standard → Vote
alone s = Calls ample (under (standard s) (
    open_500 1 0 gives Accepted
    ∷ Seat nobody gives Accepted ∷ Close gives Accepted
    ∷ Seat nobody gives Accepted ∷ Close gives Accepted
    ∷ Seat nobody gives Accepted ∷ Close gives Accepted
    ∷ Decision 0 gives Answers (full 500)
    ∷ []
    ))

-- a row of six cells, of which the first hold 500
abbrev of_six : List Held → List Held
of_six held = held ++ replicate (6 - length held) empty

abbrev two : List Held
two = replicate 2 (full 500)

abbrev three : List Held
three = replicate 3 (full 500)

abbrev four : List Held
four = replicate 4 (full 500)

abbrev pub votes : List Vote
votes =
    -- with one fault, the smallest blocks: 6 under unaware, 4 under stamped aware, 3 under stamped carried
    Calls ample (under (standard Unaware) (open_500 5 1 gives RefusedWith 3 ∷ open_500 6 1 gives Accepted ∷ []))
    ∷ Calls ample (under (stamped (standard Aware)) (open_500 3 1 gives RefusedWith 3 ∷ open_500 4 1 gives Accepted ∷ []))
    ∷ Calls ample (under (stamped (standard Carried)) (open_500 2 1 gives RefusedWith 3 ∷ open_500 3 1 gives Accepted ∷ []))
    -- proposing: a value wants three holders at least, and one cell filled otherwise at most
    ∷ Proposes (standard Aware) 5 1 (full 500 ∷ full 500 ∷ full 500 ∷ empty ∷ full 610 ∷ []) (full 500)
    ∷ Proposes (standard Aware) 5 1 (full 500 ∷ full 500 ∷ full 500 ∷ full 610 ∷ full 610 ∷ []) empty
    ∷ Proposes (standard Aware) 5 1 (full 500 ∷ full 500 ∷ empty ∷ empty ∷ empty ∷ []) empty
    -- deciding: a candidate wants three senders at least, and a value four candidates, or else three cells of the
    -- coordinator's row
    ∷ Decides (standard Unaware) 6 1 0 (two ∷ four ∷ four ∷ four ∷ four ∷ four ∷ []) (of_six four) (full 500)
    ∷ Decides (standard Unaware) 6 1 2 (four ∷ two ∷ three ∷ two ∷ two ∷ four ∷ []) (of_six three) (full 500)
    ∷ Decides (standard Unaware) 6 1 2 (four ∷ four ∷ two ∷ three ∷ three ∷ [] ∷ []) (of_six three) (full 400)
    -- maintaining: a value wants four holders at least
    ∷ Maintains (standard Unaware) 6 1 (full 500 ∷ full 500 ∷ full 500 ∷ full 500 ∷ full 610 ∷ full 610 ∷ []) (full 500)
    ∷ Maintains (standard Unaware) 6 1 (full 500 ∷ full 500 ∷ full 500 ∷ full 610 ∷ full 610 ∷ full 610 ∷ []) empty
    -- a block of one, under each model
    ∷ alone Aware
    ∷ alone Unaware
    ∷ alone Buffered
    ∷ alone Carried
    ∷ alone Fixed
    -- a set that stays where it is
    ∷ Calls ample (under (standard Fixed) (open_500_from 4 1 (only 2) gives Accepted ∷ Seat (only 3) gives RefusedWith 7 ∷ Seat (only 2) gives Accepted ∷ []))
    -- values at the edge of their rules
    ∷ Reads sheet_rules (400 ∷ 300 ∷ 200 ∷ 100 ∷ [])
    ∷ RefusesToRead sheet_rules (400 ∷ 300 ∷ 200 ∷ 101 ∷ []) 24
    ∷ Reads sheet_rules (300 ∷ 300 ∷ 200 ∷ 100 ∷ [])
    ∷ Reads setpoint_rules (200 ∷ [])
    ∷ Reads setpoint_rules (900 ∷ [])
    ∷ RefusesToRead setpoint_rules (199 ∷ []) 24
    ∷ RefusesToRead setpoint_rules (901 ∷ []) 24
    ∷ []

-- every vote comes out as it claims
abbrev pub WorkedVotes : Type 0
WorkedVotes = Claims votes
