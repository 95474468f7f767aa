-- What is promised of whole rounds and of lists of calls. Assumes nothing.
use Rattle.std.specs.Prelude.{◌≡◌, ℕ, ◌<◌, List, [], ◌∷◌, map, take, drop, Some, Option, Result, Ok, slice_get}
use Rattle.values.specs.Cells.{shows}
use Rattle.values.specs.Rules.{Rules}
use Rattle.values.specs.declared.kinds.Kind.{Ghosts}
use Rattle.values.specs.declared.refusals.Refusal.{Refusal}
use Rattle.models.specs.declared.standards.Standard.TheVariants.{Aware, Unaware, Carried}
use Rattle.models.specs.Laws.{Meaning}
use Rattle.models.specs.Standards.{standard}
use Rattle.models.specs.Stamps.{stamped}
use Rattle.protocol.specs.Rounds.{Memory}
use Rattle.protocol.specs.Machine.{Setting, Block, Seating, State, Idle, Waiting, Seated, needed}
use Rattle.protocol.specs.Machine as machine
use Rattle.protocol.specs.Publications.{Algorithm, Sending, CuredAware, CuredUnaware, Algorithm1, Algorithm2, Algorithm3}
use Rattle.protocol.specs.AnyCounts.{AnyRound, process1, process2}
use Rattle.protocol.specs.MachineLaws.{IsRoundOf}
use Rattle.protocol.specs.Compared.{Makes, MakesAfter, SendsCorrectly}
use Rattle.protocol.specs.Transcripts.{Transcript, transcript, state_after, answered}
use Rattle.run.specs.declared.run.Run.{Run}
use Rattle.run.specs.declared.calls.Call.{Call}
use Rattle.run.specs.declared.calls.Answer.{Answer}
use Rattle.run.specs.declared.calls.Answer.TheVariants.{Decided}
use Rattle.run.specs.Calls.{asked, said}
use Rattle.run.specs.declared.turns.Turn.{Turn}
use Rattle.run.specs.Views.{view}
use Rattle.run.specs.Runs.{setting_over, state}
use Rattle.run.specs.Standing.{entry, Stands}

-- whichever counts the block has, a close, from the state before it to the one after it, is for every unseated controller the round under them
abbrev pub ClosesAnyRound : Setting → (before after : State) → Type 0
ClosesAnyRound x before after = (b next : Block) (s : Seating) → before ≡ Seated b s → after ≡ Waiting next → Makes (λ own. own) (λ n t. AnyRound n b.counts) x b s next

-- A close of a block with a model's counts is a round of an algorithm for every unseated controller, whichever model named the classes.
abbrev pub Closes : {P : Type 0} → Meaning → (Memory → P) → Algorithm P → Setting → (before after : State) → Type 0
Closes m process algorithm x before after = (b next : Block) (s : Seating) → before ≡ Seated b s → after ≡ Waiting next → b.counts ≡ m.counts b.t → Makes process algorithm x b s next

-- the published rounds, each under the counts of its model
pub record Published (x : Setting) (before after : State) : Type 0 where
  pub algorithm1 : Closes (standard Unaware) process1 Algorithm1 x before after
  pub algorithm2 : Closes (stamped (standard Aware)) process2 Algorithm2 x before after
  pub algorithm3 : Closes (stamped (standard Carried)) process2 Algorithm3 x before after

module _ {V R : Type 0} {kind : Ghosts V R} where
  -- After any calls that all name a model, a close is for every unseated controller a round of an algorithm: whoever is in the last set sends as `cured`
  -- says, and everybody else as a correct process.
  abbrev pub ClosesAfter : {P : Type 0} → Meaning → (Memory → P) → Algorithm P → (cured : Sending) → (before after : Run V R kind) → Type 0
  ClosesAfter m process algorithm cured before after = (x : Setting) (log : Transcript) → Stands x m log before
      → (b next : Block) (s : Seating) → state before ≡ Seated b s → state after ≡ Waiting next → MakesAfter process algorithm cured x b s next

  -- the published rounds of whole lists of calls, each under its model
  pub record PublishedAfter (before after : Run V R kind) : Type 0 where
    pub algorithm1 : ClosesAfter (standard Unaware) process1 Algorithm1 CuredUnaware before after
    pub algorithm2 : ClosesAfter (stamped (standard Aware)) process2 Algorithm2 CuredAware before after
    pub algorithm3 : ClosesAfter (stamped (standard Carried)) process2 Algorithm3 CuredUnaware before after
    -- in Buhrman's model the fault arrives after the send, so whoever is not in the last set sends correctly, seated in this round or not
    pub newly_seated : (x : Setting) (log : Transcript) → Stands x (stamped (standard Carried)) log before
        → (b : Block) (s : Seating) → state before ≡ Seated b s → SendsCorrectly x b s
    -- the round, its set and the last set are those of the calls, whichever model they name
    pub of_calls : (x : Setting) (m : Meaning) (log : Transcript) → Stands x m log before
        → (b : Block) (s : Seating) → state before ≡ Seated b s → IsRoundOf log b s

-- the machine's answers to a list of calls on a new run
abbrev pub replies : Setting → Meaning → List machine.Call → List machine.Answer
replies x m calls = map (λ e. e.answer) (transcript x m Idle calls)

-- a list of calls beside the list of their answers
abbrev pub entries : List machine.Call → List machine.Answer → Transcript
entries [] answers = []
entries (c ∷ calls) [] = []
entries (c ∷ calls) (a ∷ answers) = entry c a ∷ entries calls answers

-- the transcript of calls in code beside their answers
abbrev pub log_of : {R : Type 0} → Rules → (R → List ℕ) → List (Call R) → List (Result (Answer R) Refusal) → Transcript
log_of k plain calls answers = entries (map (asked k plain) calls) (map (said k plain) answers)

-- where one of the first so many answers tells a cell, filled or empty, their transcript has this cell answered at the same place
abbrev pub TellsDecisions : {R : Type 0} → Rules → (R → List ℕ) → (count : ℕ) → List (Call R) → List (Result (Answer R) Refusal) → Type 0
TellsDecisions {R = R} k plain count calls answers = (i : ℕ) (cell : Option R) → i < count → slice_get answers i ≡ Some (Ok (Decided cell))
    → answered (log_of k plain (take count calls) (take count answers)) i ≡ Some (shows k plain cell)

-- how many controllers a state's block has, and 0 before there is one
abbrev pub block_size : State → ℕ
block_size Idle = 0
block_size (Waiting b) = b.n
block_size (Seated b s) = b.n

module _ {R : Type 0} (k : Rules) (plain : R → List ℕ) (cells : List (Option R)) (m : Meaning) (calls : List (Call R)) where
  -- the state that calls leave of a new run over these cells
  abbrev pub state_left : State
  state_left = state_after (setting_over k cells) m Idle (map (asked k plain) calls)

  -- the answers are the machine's to these calls
  abbrev pub AreAnswered : List (Result (Answer R) Refusal) → Type 0
  AreAnswered answers = map (said k plain) answers ≡ replies (setting_over k cells) m (map (asked k plain) calls)

  -- at some turn the cells show the state that the calls leave
  abbrev pub ShowStateLeft : (after : List (Option R)) → Type 0
  ShowStateLeft after = (turn : Turn) × (view k plain turn after ≡ state_left)

  -- the cells past those that its block needs are as they were
  abbrev pub StayPastBlock : (after : List (Option R)) → Type 0
  StayPastBlock after = let n = block_size state_left in drop (needed n) after ≡ drop (needed n) cells
