-- Three laws of the machine, in words of the rules. Assumes nothing.
use Rattle.std.specs.Prelude.{◌≡◌, ℕ, suc, ◌<◌, true, List, ◌∷◌, length, Some, slice_index}
use Rattle.values.specs.declared.refusals.Refusal.{Refusal}
use Rattle.models.specs.Sets.{has}
use Rattle.models.specs.Laws.{Meaning}
use Rattle.protocol.specs.Rounds.{blank}
use Rattle.protocol.specs.Machine.{Setting, Block, Seating, State, Idle, Seated, Call, Refused, closed, step}
use Rattle.protocol.specs.Transcripts.{Transcript, Opening, opening, sets, closes, set_of, transcript, state_after}

-- a refused call leaves the state as it was, at every turn and under every model
abbrev pub RefusedChangesNothing : Type 0
RefusedChangesNothing = (x : Setting) (m : Meaning) (s : State) (call : Call) (why : Refusal) → (step x m s call).1 ≡ Refused why → (step x m s call).0 ≡ s

-- a close leaves whoever is seated with all cells empty
abbrev pub SeatedAreEmptied : Type 0
SeatedAreEmptied = (x : Setting) (b : Block) (s : Seating) (i : ℕ) → i < b.n → has s.set i ≡ true → (closed x b s).memory i ≡ blank

-- A round that is seated, by the calls that led to it and their answers. Its n and t are those of the accepted open.
-- Its number tells how many rounds are closed, and one seat more was accepted. Its set is that of the seat with this
-- number, and the last set that of the seat before; in round 0 that is the initial set.
pub record IsRoundOf (log : Transcript) (b : Block) (s : Seating) : Type 0 where
  pub by : Opening
  pub opens : opening log ≡ Some by
  pub n : b.n ≡ by.n
  pub t : b.t ≡ by.t
  pub number : b.round ≡ closes log
  pub seats : length (sets log) ≡ suc (closes log)
  pub set : s.set ≡ set_of log (closes log)
  pub last : b.last ≡ slice_index (by.initial ∷ sets log) (closes log)

-- whatever calls that name one model lead to a seated round, it is the round of those calls
abbrev pub RoundsAreOfTheirCalls : Type 0
RoundsAreOfTheirCalls = (x : Setting) (m : Meaning) (calls : List Call) (b : Block) (s : Seating) → state_after x m Idle calls ≡ Seated b s → IsRoundOf (transcript x m Idle calls) b s
