-- What the rounds leave in the cells is what the rules make of a controller.
use Rattle.std.proofs.Common.{◌≡◌, ℕ, suc, ◌+◌, ◌*◌, ◌/◌, ◌<◌, cond, nat_lt, nat_eq, arith, refl, sym, ap, subst, ◌∙◌, List, Some, None, Option, ⊎_elim, Bool, true, false, replicate}
use Rattle.std.proofs.lemmas.Bool.{cases_lt}
use Rattle.std.proofs.lemmas.Bool.Decides.{nat_tests}
use Rattle.std.proofs.Math.Path.{fun_ext}
use Rattle.values.specs.declared.kinds.Kind.{Ghosts}
use Rattle.values.specs.Rules.{Rules}
use Rattle.models.specs.declared.classes.Class.{Class}
use Rattle.values.specs.Cells.{Held, seen}
use Rattle.protocol.specs.declared.stages.Stage.{Stage}
use Rattle.protocol.specs.declared.stages.Stage.TheVariants.{Proposing, Collecting, Deciding, Maintaining}
use Rattle.protocol.specs.Stages.{stage_of}
use Rattle.protocol.specs.Rounds.{Memory, sends, heard, make, proposed, maintained, decided}
use Rattle.run.specs.declared.turns.Block.{Block}
use Rattle.run.specs.declared.turns.Seating.{Seating}
use Rattle.run.specs.declared.hearing.Sent.{Sent}
use Rattle.run.specs.Stores.{Store, store}
use Rattle.run.specs.Views.{class_in, forged_in, kept_in}
use Rattle.run.specs.Hearing.{store_of, hears}
use Rattle.run.specs.Closing.{terms, renewed, Renews}
use Rattle.run.proofs.Filling.{seen_empty}
use Rattle.run.proofs.Heard.{nothing_heard}

pub memory_is : {v v' decision decision' : Held} {row row' : ℕ → Held} → v ≡ v' → row ≡ row' → decision ≡ decision' → ◌≡◌ {A = Memory} (record { v = v; row = row; decision = decision }) (record { v = v'; row = row'; decision = decision' })
memory_is ev er ed = rw (ev, er, ed) refl

-- a guard that a place passes
pub inside : {A : Type 0} (i n : ℕ) (x y d : A) → i < n → x ≡ y → cond (nat_lt i n) x d ≡ y
inside i n x y d lt e = grind (arith, nat_tests)

-- a guard over an empty cell
pub either_none : (test : Bool) {cell : Held} → cell ≡ None → cond test cell None ≡ None
either_none true e = e
either_none false e = refl

module _ {R : Type 0} (k : Rules) (plain : R → List ℕ) (b : Block) (seating : Seating) (s : Store R) where
  abbrev kept : ℕ → Memory
  kept = kept_in k plain b.n s

  abbrev hears_at : Stage → ℕ → ℕ → ℕ → Held
  hears_at stage = heard (class_in b.n seating.classes) (λ j. sends stage (kept j)) (forged_in k plain b.n s)

  renewed_at : (stage : Stage) → stage_of b.n b.round ≡ stage → (i : ℕ) → renewed k plain b seating s i ≡ make stage (terms k plain b seating s) b.round (kept i) (hears_at stage i)
  renewed_at stage e i = ap (λ stage. make stage (terms k plain b seating s) b.round (kept i) (hears_at stage i)) e

  -- Each stage: what was computed into next (or the rows noted) is copied, and in the early rounds the decisions are emptied.
  module _ (stage : Stage) (is : stage ≡ stage_of b.n b.round) where
    abbrev Kept : (rows v decisions : List (Option R)) → ℕ → Type 0
    Kept rows v decisions i = kept_in k plain b.n (record { forged = s.forged; rows = rows; v = v; decisions = decisions }) i ≡ renewed k plain b seating s i

    shows_all : (cells next : List (Option R)) (f : Stage → ℕ → Held) (now : Stage) → stage ≡ now → cells ≡ next → ((i : ℕ) → i < b.n → seen k plain next i ≡ f stage i) → (i : ℕ) → i < b.n → seen k plain cells i ≡ f now i
    shows_all cells next f now e copied computed i lt = ap (λ cells. seen k plain cells i) copied ∙ computed i lt ∙ ap (λ stage. f stage i) e

    no_decision : (decisions : List (Option R)) (m i : ℕ) → decisions ≡ replicate m None → cond (nat_lt i b.n) (seen k plain decisions i) None ≡ None
    no_decision decisions m i cleared = either_none (nat_lt i b.n) (ap (λ cells. seen k plain cells i) cleared ∙ seen_empty k plain m i)

    pub proposing : (v next decisions : List (Option R)) (m : ℕ) → stage ≡ Proposing → ((i : ℕ) → i < b.n → seen k plain next i ≡ proposed b.n b.counts (λ j. hears_at stage i j 0)) → v ≡ next → decisions ≡ replicate m None
        → (i : ℕ) → i < b.n → Kept s.rows v decisions i
    unfolding make
    proposing v next decisions m now computed copied cleared i lt =
        memory_is
        (inside i b.n _ _ None lt (shows_all v next (λ stage i. proposed b.n b.counts (λ j. hears_at stage i j 0)) Proposing now copied computed i lt))
        refl
        (no_decision decisions m i cleared)
        ∙ sym (renewed_at Proposing (sym is ∙ now) i)

    pub collecting : (rows next decisions : List (Option R)) (m : ℕ) → stage ≡ Collecting → ((i j : ℕ) → i < b.n → j < b.n → seen k plain next (i * b.n + j) ≡ hears_at stage i j 0) → rows ≡ next → decisions ≡ replicate m None
        → (i : ℕ) → i < b.n → Kept rows s.v decisions i
    unfolding make
    collecting rows next decisions m now noted copied cleared i lt =
        memory_is
        refl
        (fun_ext row)
        (no_decision decisions m i cleared)
        ∙ sym (renewed_at Collecting (sym is ∙ now) i)
      where
        row : (j : ℕ) → (kept_in k plain b.n (record { forged = s.forged; rows = rows; v = s.v; decisions = decisions }) i).row j ≡ hears_at Collecting i j 0
        row j = ⊎_elim
            (λ below. let e = ap (λ cells. seen k plain cells (i * b.n + j)) copied ∙ noted i j lt below ∙ ap (λ stage. hears_at stage i j 0) now in grind (arith, nat_tests))
            (λ above. let e = nothing_heard k plain b.n seating.classes s Collecting i j 0 above in grind (arith, nat_tests))
            (cases_lt j b.n)

    module _ (v next decisions : List (Option R)) (now : stage ≡ Deciding) (computed : (i : ℕ) → i < b.n → seen k plain next i ≡ Some (decided (terms k plain b seating s) (b.round / 3) (hears_at stage i))) (copied : v ≡ next) where
      value : (i : ℕ) → i < b.n → seen k plain v i ≡ Some (decided (terms k plain b seating s) (b.round / 3) (hears_at Deciding i))
      value = shows_all v next (λ stage i. Some (decided (terms k plain b seating s) (b.round / 3) (hears_at stage i))) Deciding now copied computed

      deciding : ((i : ℕ) → i < b.n → seen k plain decisions i ≡ cond (nat_eq (suc b.round) (3 * b.n)) (seen k plain v i) None) → (i : ℕ) → i < b.n → Kept s.rows v decisions i
      unfolding make
      deciding last i lt =
          memory_is
          (inside i b.n _ _ None lt (value i lt))
          refl
          (inside i b.n _ _ None lt (last i lt ∙ ap (λ cell. cond (nat_eq (suc b.round) (3 * b.n)) cell None) (value i lt)))
          ∙ sym (renewed_at Deciding (sym is ∙ now) i)

      pub deciding_last : b.round + 1 ≡ 3 * b.n → decisions ≡ next → (i : ℕ) → i < b.n → Kept s.rows v decisions i
      deciding_last last same = deciding (λ i lt. ap (λ cells. seen k plain cells i) (same ∙ sym copied) ∙ ap (λ test. cond test (seen k plain v i) None) (sym last_test))
        where
          last_test : nat_eq (suc b.round) (3 * b.n) ≡ true
          last_test = grind (arith, nat_tests)

      pub deciding_early : (m : ℕ) → ¬ (b.round + 1 ≡ 3 * b.n) → decisions ≡ replicate m None → (i : ℕ) → i < b.n → Kept s.rows v decisions i
      deciding_early m early cleared =
          deciding (λ i lt. ap (λ cells. seen k plain cells i) cleared ∙ seen_empty k plain m i ∙ ap (λ test. cond test (seen k plain v i) None) (sym early_test))
        where
          early_test : nat_eq (suc b.round) (3 * b.n) ≡ false
          early_test = grind (arith, nat_tests)

    pub maintaining : (decisions next : List (Option R)) → stage ≡ Maintaining → ((i : ℕ) → i < b.n → seen k plain next i ≡ maintained b.n b.counts (λ j. hears_at stage i j 0)) → decisions ≡ next
        → (i : ℕ) → i < b.n → Kept s.rows s.v decisions i
    unfolding make
    maintaining decisions next now computed copied i lt =
        memory_is
        refl
        refl
        (inside i b.n _ _ None lt (shows_all decisions next (λ stage i. maintained b.n b.counts (λ j. hears_at stage i j 0)) Maintaining now copied computed i lt))
        ∙ sym (renewed_at Maintaining (sym is ∙ now) i)

-- what was computed of what was sent, as the cells have it
module _ {V R : Type 0} {kind : Ghosts V R} (b : Block) (seating : Seating) (s : Store R) (stage : Stage) (sent : Sent V R kind) (round : (sent.n ≡ b.n) × (sent.stage ≡ stage) × (sent.classes ≡ seating.classes)) (store_is : store_of sent ≡ s) where
  heard_from : (n : ℕ) → Stage → List Class → Store R → ℕ → ℕ → ℕ → Held
  heard_from n stage classes s = heard (class_in n classes) (λ j. sends stage (kept_in kind.rules kind.plain n s j)) (forged_in kind.rules kind.plain n s)

  hears_is : hears sent ≡ hears_at kind.rules kind.plain b seating s stage
  unfolding heard_from
  hears_is =
      ap (λ n. heard_from n sent.stage sent.classes (store_of sent)) round.0
      ∙ ap (λ stage. heard_from b.n stage sent.classes (store_of sent)) round.1
      ∙ ap (λ classes. heard_from b.n stage classes (store_of sent)) round.2
      ∙ ap (heard_from b.n stage seating.classes) store_is

  pub of_sent : (P : ℕ → (ℕ → ℕ → ℕ → Held) → Type 0) → P sent.n (hears sent) → P b.n (hears_at kind.rules kind.plain b seating s stage)
  of_sent P computed = subst (P b.n) hears_is (subst (λ n. P n (hears sent)) round.0 computed)

-- the cells that a close leaves, by what is put into them: rows or v, and then decisions; or decisions alone
module _ {R : Type 0} (k : Rules) (plain : R → List ℕ) (b : Block) (seating : Seating) (before mid after : List (Option R)) where
  abbrev in_block : (rows v decisions : List (Option R)) → Type 0
  in_block rows v decisions = (i : ℕ) → i < b.n → kept_in k plain b.n (record { forged = (store b.n before).forged; rows = rows; v = v; decisions = decisions }) i ≡ renewed k plain b seating (store b.n before) i

  renews : (rows v decisions : List (Option R)) → store b.n after ≡ record { forged = (store b.n before).forged; rows = rows; v = v; decisions = decisions } → in_block rows v decisions → Renews k plain b seating before after
  renews rows v decisions is kept = record { forged = ap (λ (s : Store R). s.forged) is; kept = λ i lt. ap (λ s. kept_in k plain b.n s i) is ∙ kept i lt }

  pub renews_v : (v decisions : List (Option R)) → store b.n mid ≡ record (store b.n before) { v = v } → store b.n after ≡ record (store b.n mid) { decisions = decisions } → in_block (store b.n before).rows v decisions → Renews k plain b seating before after
  renews_v v decisions first then_ = renews (store b.n before).rows v decisions (then_ ∙ ap (λ (s : Store R). record s { decisions = decisions }) first)

  pub renews_rows : (rows decisions : List (Option R)) → store b.n mid ≡ record (store b.n before) { rows = rows } → store b.n after ≡ record (store b.n mid) { decisions = decisions } → in_block rows (store b.n before).v decisions → Renews k plain b seating before after
  renews_rows rows decisions first then_ = renews rows (store b.n before).v decisions (then_ ∙ ap (λ (s : Store R). record s { decisions = decisions }) first)

  pub renews_decisions : (decisions : List (Option R)) → store b.n after ≡ record (store b.n before) { decisions = decisions } → in_block (store b.n before).rows (store b.n before).v decisions → Renews k plain b seating before after
  renews_decisions decisions = renews (store b.n before).rows (store b.n before).v decisions
