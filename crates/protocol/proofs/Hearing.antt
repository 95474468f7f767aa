-- One round of the argument: what controllers make of what they hear. All that it knows of a model is `Behave`.
use Rattle.std.proofs.Common.{◌≡◌, ℕ, ◌+◌, ◌-◌, ◌<◌, ◌≤◌, List, Some, ⊎_elim, sym, arith}
use Rattle.models.specs.declared.classes.Class.{Class}
use Rattle.models.specs.declared.classes.Class.TheVariants.{Honest}
use Rattle.models.specs.declared.classes.Counts.{Counts}
use Rattle.models.specs.Laws.{not_honest, free, forger}
use Rattle.values.specs.Counting.{count}
use Rattle.values.specs.Cells.{Held, holds, differs, holders, others}
use Rattle.values.proofs.Alike.{alike_tells}
use Rattle.protocol.specs.Rounds.{told, proposed, maintained, held_by}
use Rattle.protocol.proofs.Counting.{count_cover, count_all, count_mono, count_witness}
use Rattle.protocol.proofs.Choosing.{chosen_qualifies, chosen_only, held_only}

-- the counts b, e and l bound the classes of the n senders
pub record Behave (n : ℕ) (most : Counts) (class : ℕ → Class) : Type 0 where
  pub faults : count (λ j. not_honest (class j)) n ≤ most.b
  pub frees : count (λ j. free (class j)) n ≤ most.e
  pub forgers : count (λ j. forger (class j)) n ≤ most.l

-- what a receiver hears, by sender: honest ones sent `own`, uniform ones the forged `same`, and free ones the forged
-- `apart`
module _ (n : ℕ) (most : Counts) (big : most.b + most.e + most.l < n) (class : ℕ → Class) (k : Behave n most class) (own same : ℕ → Held) where
  abbrev pub hears : (ℕ → Held) → ℕ → Held
  hears apart j = told (class j) (own j) (same j) (apart j)

  -- a value with more than l holders is an honest sender's
  pub honest_holder : (apart : ℕ → Held) (x : List ℕ) → most.l < holders (hears apart) n x → (j : ℕ) × (j < n) × (class j ≡ Honest) × (own j ≡ Some x)
  unfolding told holds
  honest_holder apart x many =
      let w = count_witness (λ j. holds x (hears apart j)) (λ j. forger (class j)) n (omega (arith, k.forgers)) in
      let f : (class w.0 ≡ Honest) × (own w.0 ≡ Some x) = grind (arith, alike_tells) in
      (w.0, w.1, f.0, f.1)

  -- if y has n - b holders at one receiver and x at most l cells filled otherwise at another, they are one value
  pub meet : (mine yours : ℕ → Held) (x y : List ℕ) → others (hears mine) n x ≤ most.l → n - most.b ≤ holders (hears yours) n y → y ≡ x
  unfolding told holds differs
  meet mine yours x y few many =
      ⊎_elim (λ t. t.1) (λ ne. absurd (omega (
        arith,
        k.frees,
        count_cover (λ j. holds y (hears yours j)) (λ j. differs x (hears mine j)) (λ j. free (class j)) n (λ j lt h. grind (arith, alike_tells)),
      ))) (alike_tells y x)

  -- what two receivers propose is one value
  pub one_proposal : (mine yours : ℕ → Held) (x y : List ℕ) → proposed n most (hears mine) ≡ Some x → proposed n most (hears yours) ≡ Some y → x ≡ y
  one_proposal mine yours x y p q =
      sym (meet mine yours x y (chosen_qualifies (n - most.b) most.l (hears mine) n x p).1 (chosen_qualifies (n - most.b) most.l (hears yours) n y q).0)

  -- where all honest senders sent w
  module _ (apart : ℕ → Held) (w : List ℕ) (all : (j : ℕ) → j < n → class j ≡ Honest → own j ≡ Some w) where
    honest_holders : n - most.b ≤ holders (hears apart) n w
    unfolding told holds
    honest_holders =
        omega (arith, k.faults, count_all (λ j. not_honest (class j)) (λ j. holds w (hears apart j)) n (λ j lt. let a = all j lt in grind (arith, alike_tells)))

    honest_others : others (hears apart) n w ≤ most.l
    unfolding told differs
    honest_others =
        omega (arith, k.forgers, count_mono (λ j. differs w (hears apart j)) (λ j. forger (class j)) n (λ j lt d. let a = all j lt in grind (arith, alike_tells)))

    -- a proposing round keeps it
    pub proposed_kept : proposed n most (hears apart) ≡ Some w
    proposed_kept = chosen_only (n - most.b) most.l (hears apart) n (omega arith) w (honest_holders, honest_others) (λ y q. meet apart apart w y honest_others q.0)

    -- it alone has so many holders, for a number above l and up to n - b
    pub held_kept : (least : ℕ) → most.l < least → least ≤ n - most.b → held_by least (hears apart) n ≡ Some w
    held_kept least lo hi =
        held_only least (hears apart) n (omega arith) w (omega (arith, honest_holders))
        (λ y many. let v = honest_holder apart y (omega arith) in let a = all v.0 v.1 v.2 in grind arith)

    -- a maintaining round keeps it
    pub maintained_kept : maintained n most (hears apart) ≡ Some w
    maintained_kept = held_kept (n - most.b) (omega arith) (omega arith)
