-- What the checks of a call find. Assumes nothing.
use Rattle.std.specs.Prelude.{◌≡◌, ℕ, if◌then◌else◌, nat_lt, List, map, None, Option}
use Rattle.values.specs.declared.refusals.Refusal.{Refusal}
use Rattle.values.specs.Rules.{Rules, means}
use Rattle.models.specs.Laws.{Meaning}
use Rattle.models.specs.declared.classes.Class.TheVariants.{Honest}
use Rattle.protocol.specs.Rounds.{blank}
use Rattle.protocol.specs.Machine.{open_refusal, seat_refusal}
use Rattle.protocol.specs.Machine as machine
use Rattle.run.specs.declared.calls.Opening.{Opening}
use Rattle.run.specs.declared.turns.Block.{Block}
use Rattle.run.specs.declared.turns.Seating.{Seating}
use Rattle.run.specs.Views.{class_in}

-- why a run over so many cells refuses an open, if it does
abbrev pub why_open : {R : Type 0} → Rules → (R → List ℕ) → Meaning → Opening R → (cells : ℕ) → Option Refusal
why_open k plain m o cells = open_refusal (record { cells = cells; fallback = k.fallback }) m o.n o.t (map (means k plain) o.proposals.now) o.initial.0

-- an open that is not refused, and the block that it makes
pub record IsOpened {R : Type 0} (k : Rules) (plain : R → List ℕ) (m : Meaning) (o : Opening R) (cells : ℕ) (b : Block) : Type 0 where
  pub accepted : why_open k plain m o cells ≡ None
  pub n : b.n ≡ o.n
  pub t : b.t ≡ o.t
  pub counts : b.counts ≡ m.counts o.t
  pub round : b.round ≡ 0
  pub last : b.last.0 ≡ o.initial.0

-- a block without what its controllers keep, and a seating without what is forged: checks do not look at these
abbrev pub bare : Block → machine.Block
bare b = record { n = b.n; t = b.t; counts = b.counts; round = b.round; last = b.last.0; memory = λ _. blank }

abbrev pub bare_seating : Block → Seating → machine.Seating
bare_seating b s = record { set = s.set.0; class = class_in b.n s.classes; forged = λ _ _ _. None }

-- a seat that is not refused, and the classes that it fixes
pub record IsSeated (m : Meaning) (b : Block) (set : ℕ) (s : Seating) : Type 0 where
  pub accepted : seat_refusal m (bare b) set ≡ None
  pub set_is : s.set.0 ≡ set
  pub classes : class_in b.n s.classes ≡ (λ i. if nat_lt i b.n then m.class b.last.0 set b.t i else Honest)
