-- What comes of a transcript: closed rounds, clean coordinators, and whether the filled decisions are equal. Assumes nothing.
use Rattle.std.specs.Prelude.{◌≡◌, ◌≢◌, ℕ, ◌+◌, ◌*◌, ◌<◌, true, ◌↔◌, List, Some}
use Rattle.models.specs.Laws.{Meaning}
use Rattle.models.specs.Sets.{has}
use Rattle.models.specs.declared.sets.TheConstants.{MOST_CONTROLLERS}
use Rattle.protocol.specs.Transcripts.{Transcript, Opening, Clean, Law, opening, closes, answered}
use Rattle.script.specs.Figures.{numbers_of}
use Rattle.transcript.specs.declared.outcomes.Outcome.{Outcome}
use Rattle.transcript.specs.declared.outcomes.Decisions.{Decisions}
use Rattle.transcript.specs.declared.outcomes.Decisions.TheVariants.{Nothing, Equal, Unequal}

-- controller c was a clean coordinator of the block that was opened, and the three rounds of its phase are closed
pub record WasClean (log : Transcript) (c : ℕ) : Type 0 where
  pub o : Opening
  pub opened : opening log ≡ Some o
  pub clean : Clean log o c
  pub closed : 3 * c + 2 < closes log

-- a set has exactly the controllers that were clean coordinators
abbrev pub AreClean : Transcript → (set : ℕ) → Type 0
AreClean log set = (c : ℕ) → c < MOST_CONTROLLERS → (has set c ≡ true) ↔ WasClean log c

-- call number i answered a decision, and it was filled with x
abbrev pub Answers : Transcript → (i : ℕ) → (x : List ℕ) → Type 0
Answers log i x = answered log i ≡ Some (Some x)

-- a filled decision was answered, and each that was is w
pub record Agree (log : Transcript) (w : List ℕ) : Type 0 where
  pub i : ℕ
  pub one : Answers log i w
  pub all : (j : ℕ) (x : List ℕ) → Answers log j x → x ≡ w

-- two filled decisions were answered that differ
pub record Differ (log : Transcript) : Type 0 where
  pub i : ℕ
  pub j : ℕ
  pub x : List ℕ
  pub y : List ℕ
  pub one : Answers log i x
  pub other : Answers log j y
  pub unequal : x ≢ y

-- no filled decision was answered; or there was one, and all are this figure; or two differ
abbrev pub IsDecided : Transcript → Decisions → Type 0
IsDecided log Nothing = (i : ℕ) (x : List ℕ) → Answers log i x → ⊥
IsDecided log (Equal figure) = Agree log (numbers_of figure)
IsDecided log Unequal = Differ log

pub record IsOutcome (log : Transcript) (o : Outcome) : Type 0 where
  pub closed : o.closed ≡ closes log
  pub clean : AreClean log o.clean.0
  pub decided : IsDecided log o.decisions

-- where the law of transcripts holds and somebody was a clean coordinator, no two filled decisions differ
abbrev pub AgreeIfClean : Transcript → Outcome → Type 0
AgreeIfClean log o = (m : Meaning) → Law m log → (c : ℕ) → c < MOST_CONTROLLERS → has o.clean.0 c ≡ true → o.decisions ≢ Unequal
