-- What a close leaves in the cells. Assumes nothing.
use Rattle.std.specs.Prelude.{◌≡◌, ℕ, ◌<◌, if◌then◌else◌, List, Option}
use Rattle.values.specs.Rules.{Rules}
use Rattle.models.specs.Sets.{has}
use Rattle.protocol.specs.Stages.{stage_of}
use Rattle.protocol.specs.Rounds.{Terms, Memory, blank, make, sent_in, heard, closing}
use Rattle.run.specs.declared.turns.Block.{Block}
use Rattle.run.specs.declared.turns.Seating.{Seating}
use Rattle.run.specs.Stores.{Store, store}
use Rattle.run.specs.Views.{class_in, forged_in, kept_in}

module _ {R : Type 0} (k : Rules) (plain : R → List ℕ) where
  module _ (b : Block) (seating : Seating) (s : Store R) where
    abbrev pub terms : Terms
    terms = record { n = b.n; counts = b.counts; fallback = k.fallback }

    -- what the round makes of a controller, seated or not
    abbrev pub renewed : (controller : ℕ) → Memory
    renewed i =
        let kept = kept_in k plain b.n s in
        make (stage_of b.n b.round) terms b.round (kept i) (heard (class_in b.n seating.classes) (sent_in terms b.round kept) (forged_in k plain b.n s) i)

    -- what a close leaves a controller with, by the rules' own `closing`
    abbrev pub left : (controller : ℕ) → Memory
    left = closing terms b.round (has seating.set.0) (class_in b.n seating.classes) (forged_in k plain b.n s) (kept_in k plain b.n s)

  -- each controller of a block keeps what `made` says, and what is forged stays
  pub record Keeps (n : ℕ) (before after : List (Option R)) (made : (controller : ℕ) → Memory) : Type 0 where
    pub forged : (store n after).forged ≡ (store n before).forged
    pub kept : (i : ℕ) → i < n → kept_in k plain n (store n after) i ≡ made i

  -- every controller keeps what the round makes of it
  abbrev pub Renews : Block → Seating → (before after : List (Option R)) → Type 0
  Renews b seating before after = Keeps b.n before after (renewed b seating (store b.n before))

  -- whoever a set holds keeps nothing, and all others what they kept
  abbrev pub Empties : (n set : ℕ) → (before after : List (Option R)) → Type 0
  Empties n set before after = Keeps n before after (λ i. if has set i then blank else kept_in k plain n (store n before) i)
