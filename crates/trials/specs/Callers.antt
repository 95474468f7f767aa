-- What callers of a run conclude, by what they asked and were answered. Assumes nothing.
use Rattle.std.specs.Prelude.{◌≡◌, ℕ, ◌+◌, ◌*◌, ◌<◌, ◌≤◌, false, List, ◌++◌, map, length, Some, None, Option, IsSome, All, slice_index}
use Rattle.values.specs.Rules.{Rules, means}
use Rattle.values.specs.declared.kinds.Kind.{Ghosts}
use Rattle.models.specs.Laws.{Meaning}
use Rattle.models.specs.Sets.{has}
use Rattle.models.specs.declared.sets.Set.{Set}
use Rattle.protocol.specs.Transcripts.{Transcript, opening, sets, closes, answered}
use Rattle.run.specs.declared.calls.Opening.{Opening}
use Rattle.run.specs.declared.run.Run.{Run}
use Rattle.run.specs.Standing.{Continues}
use Rattle.trials.specs.declared.callers.rounds.Plan.{Plan}

-- by the sets of the rounds, controller c of a block of n is a clean coordinator: it is unseated where its own phase collects and decides
pub record Spared (sets : List ℕ) (n c : ℕ) : Type 0 where
  pub controller : c < n
  pub collecting : has (slice_index sets (3 * c + 1)) c ≡ false
  pub deciding : has (slice_index sets (3 * c + 2)) c ≡ false

-- two cells that are filled hold one value
abbrev pub Same : {R : Type 0} → Rules → (R → List ℕ) → (a b : Option R) → Type 0
Same {R = R} k plain a b = (x y : R) → a ≡ Some x → b ≡ Some y → means k plain x ≡ means k plain y

-- with a clean coordinator two cells that are filled hold one value
abbrev pub Agree : {R : Type 0} → Rules → (R → List ℕ) → (sets : List ℕ) (n : ℕ) (a b : Option R) → Type 0
Agree k plain sets n a b = (c : ℕ) → Spared sets n c → Same k plain a b

-- a cell that is filled holds w
abbrev pub Holds : {R : Type 0} → Rules → (R → List ℕ) → (w : List ℕ) → Option R → Type 0
Holds {R = R} k plain w cell = (row : R) → cell ≡ Some row → means k plain row ≡ w

-- What a caller concludes who opened a block of n with these proposals, ran rounds with these sets, and asked two controllers: one after the first so many
-- rounds, and one after all.
pub record Concludes {R : Type 0} (k : Rules) (plain : R → List ℕ) (n : ℕ) (proposals : List R) (sets : List ℕ) (earlier : ℕ) (first second : Option R) : Type 0 where
  -- with a clean coordinator their decisions are one value, if both are filled
  pub equal : Agree k plain sets n first second
  -- and after 3n rounds the second is filled
  pub filled : (c : ℕ) → Spared sets n c → 3 * n ≤ length sets → IsSome second
  -- before that many the first is empty
  pub early : earlier < 3 * n → first ≡ None
  -- where all proposed w, neither is another value
  pub valid : (w : List ℕ) → All (λ row. means k plain row ≡ w) proposals → Holds k plain w first × Holds k plain w second

-- the same where the first was asked after the rounds of earlier sets, and the second after those of later ones too
abbrev pub AskedTwice : {R : Type 0} → Rules → (R → List ℕ) → Opening R → (earlier later : List Set) → (Option R × Option R) → Type 0
AskedTwice k plain o earlier later both = Concludes k plain o.n o.proposals.now (map (λ set. set.0) (earlier ++ later)) (length earlier) both.0 both.1

-- What a caller concludes who ran a vote by plans and then asked two controllers: with a clean coordinator their decisions are one value, if both are filled.
abbrev pub DecidedAlike : {R : Type 0} → Rules → (R → List ℕ) → Opening R → List (Plan R) → (Option R × Option R) → Type 0
DecidedAlike k plain o plans both = Agree k plain (map (λ plan. plan.set.0) plans) o.n both.0 both.1

-- Between two moments of a run the calls seated these sets and closed so many rounds, and nothing was opened or asked.
pub record RunsRounds {V R : Type 0} {kind : Ghosts V R} (m : Meaning) (seated : List ℕ) (closed : ℕ) (before after : Run V R kind) : Type 0 where
  pub log : Transcript
  pub continues : Continues m log before after
  pub unopened : opening log ≡ None
  pub sets_are : sets log ≡ seated
  pub closes_are : closes log ≡ closed
  pub unasked : (i : ℕ) → answered log i ≡ None
