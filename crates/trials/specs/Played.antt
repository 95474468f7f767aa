-- What a caller of `play` concludes of the answers. Assumes nothing.
use Rattle.std.specs.Prelude.{◌≡◌, ℕ, ◌<◌, List, take, Some, Result, Ok, slice_get}
use Rattle.values.specs.Rules.{Rules, means}
use Rattle.values.specs.declared.refusals.Refusal.{Refusal}
use Rattle.models.specs.Laws.{Meaning}
use Rattle.protocol.specs.Transcripts.{Transcript, Opening, Clean, HonestProposed, opening}
use Rattle.run.specs.Promises.{log_of}
use Rattle.run.specs.declared.calls.Call.{Call}
use Rattle.run.specs.declared.calls.Answer.{Answer}
use Rattle.run.specs.declared.calls.Answer.TheVariants.{Decided}

module _ {R : Type 0} (k : Rules) (plain : R → List ℕ) (count : ℕ) (calls : List (Call R)) (answers : List (Result (Answer R) Refusal)) where
  abbrev pub log : Transcript
  log = log_of k plain (take count calls) (take count answers)

  -- the answer at a place is a filled decision
  abbrev pub DecidedAt : ℕ → R → Type 0
  DecidedAt i row = (i < count) × (slice_get answers i ≡ Some (Ok (Decided (Some row))))

  -- with a clean coordinator the filled decisions at any two places are one value
  abbrev pub AllSame : Type 0
  AllSame = (o : Opening) → opening log ≡ Some o → (c : ℕ) → Clean log o c
      → (i j : ℕ) (x y : R) → DecidedAt i x → DecidedAt j y → means k plain x ≡ means k plain y

  -- where everybody who is honest in round 0 proposed w, no decision is filled with another value
  abbrev pub AllProposed : Meaning → Type 0
  AllProposed m = (o : Opening) → opening log ≡ Some o → (w : List ℕ) → HonestProposed m log o w → (i : ℕ) (x : R) → DecidedAt i x → means k plain x ≡ w
