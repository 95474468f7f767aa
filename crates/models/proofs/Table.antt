-- The models of the table are lawful, and reach their counts.
use Rattle.std.proofs.Common.{◌≡◌, ℕ, ◌+◌, ◌*◌, ◌≤◌, min, Bool, true, T, leb, sym, ap, ◌∙◌, subst, ap₂, refl, arith, eqb-true, lit<, le_trans, mul-le-mul_right}
use Rattle.std.proofs.Math.Dec.{lit≤}
use Rattle.std.proofs.lemmas.Bool.Decides.{nat_tests}
use Rattle.values.specs.Counting.{tick, count}
use Rattle.models.specs.declared.classes.Class.{Class}
use Rattle.models.specs.declared.classes.Class.TheVariants.{Honest}
use Rattle.models.specs.declared.standards.Standard.{Standard}
use Rattle.models.specs.declared.standards.Standard.TheVariants.{Aware, Unaware, Buffered, Carried, Fixed}
use Rattle.models.specs.Sets.{has, members}
use Rattle.models.specs.Laws.{Few, Move, Lawful, Reached, not_honest, free, forger}
use Rattle.models.specs.Standards.{entry, class_in, standard}
use Rattle.models.proofs.Bounds.{at_most}

was_not_honest : (s : Standard) (is : Bool) → class_in (entry s) true is ≡ Honest → ⊥
was_not_honest s is e = grind arith

same_allowed : (s : Standard) (set : ℕ) → (entry s).moves set set ≡ true
same_allowed s set = grind (arith, nat_tests)

abbrev Three : Standard → ℕ → ℕ → ℕ → Type 0
Three s before after t =
    let r = (standard s).class before after t in
    let most = (standard s).counts t in
    (count (λ i. not_honest (r i)) 16 ≤ most.b) × (count (λ i. free (r i)) 16 ≤ most.e) × (count (λ i. forger (r i)) 16 ≤ most.l)

-- at most `most` times t controllers have a class that passes q: x for each that was in the set before, and y for each
-- that is in the set after
module _ (c : Bool → Bool → Class) {m : ℕ → ℕ → ℕ → Bool} {before after t : ℕ} (v : Move m before after t) where
  abbrev by : (q : Class → Bool) (x y most : ℕ) → T (leb (x + y) most) → ((was is : Bool) → tick (q (c was is)) ≤ x * tick was + y * tick is)
      → count (λ i. q (c (has before i) (has after i))) 16 ≤ most * min t 15
  by q x y most enough each =
      le_trans (at_most (λ i. q (c (has before i) (has after i))) x y v (λ i _. each (has before i) (has after i))) (mul-le-mul_right (min t 15) (lit≤ enough))

three : (s : Standard) {before after t : ℕ} → Move (standard s).allowed before after t → Three s before after t
three Aware v = let k = by (class_in (entry Aware)) v in (k not_honest 1 1 _ tt (λ a b. grind arith), k free 0 1 _ tt (λ a b. grind arith), k forger 0 1 _ tt (λ a b. grind arith))
three Unaware v = let k = by (class_in (entry Unaware)) v in (k not_honest 1 1 _ tt (λ a b. grind arith), k free 0 1 _ tt (λ a b. grind arith), k forger 1 1 _ tt (λ a b. grind arith))
three Buffered v = let k = by (class_in (entry Buffered)) v in (k not_honest 1 1 _ tt (λ a b. grind arith), k free 1 1 _ tt (λ a b. grind arith), k forger 1 1 _ tt (λ a b. grind arith))
three Carried v = let k = by (class_in (entry Carried)) v in (k not_honest 1 0 _ tt (λ a b. grind arith), k free 1 0 _ tt (λ a b. grind arith), k forger 1 0 _ tt (λ a b. grind arith))
three Fixed {before} {after} {t} v =
    let k = by (λ a _. class_in (entry Fixed) a a) v in
    subst (λ (n : ℕ). Three Fixed before n t) (eqb-true before after v.may) (k not_honest 1 0 _ tt (λ a b. grind arith), k free 1 0 _ tt (λ a b. grind arith), k forger 1 0 _ tt (λ a b. grind arith))

pub table_lawful : (s : Standard) → Lawful (standard s)
table_lawful s = record {
  keeps = λ before after t v. let n = three s v in record {
    seated_before = λ i _ h e. was_not_honest s (has after i) (sym (ap (λ a. class_in (entry s) a (has after i)) h) ∙ e);
    never_seated = λ i _ h k. ap₂ (class_in (entry s)) h k;
    faults = n.0;
    frees = n.1;
    forgers = n.2;
  };
  stays = λ set t _. same_allowed s set;
}

-- what reaches the counts: one fault that moves from controller 0 to controller 1, or stays at 0 where it cannot move
few : Few 1 1 × Few 2 1
unfolding members count
few = (record { bits = lit< tt; few = omega arith }, record { bits = lit< tt; few = omega arith })

moves : {allowed : ℕ → ℕ → ℕ → Bool} → allowed 1 2 1 ≡ true → Move allowed 1 2 1
moves may = record { from = few.0; to = few.1; may = may }

pub reached : (s : Standard) → Reached (standard s)
unfolding count
reached Aware = record { before = 1; after = 2; move = moves refl; faults = refl; frees = refl; forgers = refl }
reached Unaware = record { before = 1; after = 2; move = moves refl; faults = refl; frees = refl; forgers = refl }
reached Buffered = record { before = 1; after = 2; move = moves refl; faults = refl; frees = refl; forgers = refl }
reached Carried = record { before = 1; after = 2; move = moves refl; faults = refl; frees = refl; forgers = refl }
reached Fixed = record { before = 1; after = 1; move = record { from = few.0; to = few.0; may = refl }; faults = refl; frees = refl; forgers = refl }
