-- What is sent and heard in a round, by the cells that it lies in. Assumes nothing.
use Rattle.std.specs.Prelude.{◌≡◌, ℕ, ◌<◌, ⊤, List, Option, MatchOption}
use Rattle.values.specs.declared.kinds.Kind.{Ghosts}
use Rattle.values.specs.Cells.{Held, seen}
use Rattle.protocol.specs.Rounds.{Memory, sends, heard}
use Rattle.run.specs.declared.hearing.Sent.{Sent}
use Rattle.run.specs.Stores.{Store}
use Rattle.run.specs.Views.{class_in, forged_in, kept_in}

-- a place, if there is one, is below n
abbrev pub IsWithin : ℕ → Option ℕ → Type 0
IsWithin n place = MatchOption place ⊤ (λ i. i < n)

module _ {V R : Type 0} {kind : Ghosts V R} (s : Sent V R kind) where
  abbrev pub store_of : Store R
  store_of = record { forged = s.forged.now; rows = s.rows.now; v = s.v.now; decisions = s.decisions.now }

  -- what each controller kept when the round was sent
  abbrev pub kept_by : (controller : ℕ) → Memory
  kept_by = kept_in kind.rules kind.plain s.n store_of

  abbrev pub hears : (receiver sender column : ℕ) → Held
  hears = heard (class_in s.n s.classes) (λ j. sends s.stage (kept_by j)) (forged_in kind.rules kind.plain s.n store_of)

  -- the cell of each receiver is what is made of all that it hears
  abbrev pub Computes : (made : (heard : (sender column : ℕ) → Held) → Held) → (cells : List (Option R)) → Type 0
  Computes made cells = (i : ℕ) → i < s.n → seen kind.rules kind.plain cells i ≡ made (hears i)
