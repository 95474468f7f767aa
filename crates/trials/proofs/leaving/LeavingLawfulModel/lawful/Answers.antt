use Rattle.std.proofs.Common.{◌≡◌, ℕ, ◌+◌, ◌*◌, ◌≤◌, Bool, true, false, sym, refl, ap, ◌∙◌, ap₂, arith, eq-eqb, eqb-true}
use lib.Bits.{bit_and, and_self}
use Rattle.std.specs.Int.{bit_at}
use Rattle.std.proofs.lemmas.Bool.Decides.{nat_tests}
use Rattle.std.proofs.lemmas.Nat.Bits.{bit_at_and, bit_at-lt}
use Rattle.values.specs.Counting.{tick}
use Rattle.models.specs.declared.classes.Class.{Class}
use Rattle.models.specs.declared.classes.Class.TheVariants.{Honest}
use Rattle.models.specs.Sets.{has}
use Rattle.models.specs.Laws.{not_honest, free, forger}
use Rattle.models.proofs.Bounds.{at_most}
use Rattle.trials.specs.Leaving.{within, left_class}
use Rattle.trials.proofs.leaving.LeavingLawfulModel.lawful.Goals as goal

-- whoever is in the set after was in it before
was_there : (before after i : ℕ) → within before after ≡ true → tick (has after i) ≤ tick (has before i)
was_there before after i h =
    let b = ap (λ x. bit_at x i) (sym (eqb-true (bit_and before after) after h)) ∙ bit_at_and before after i in
    let was = bit_at-lt before i in
    let is = bit_at-lt after i in
    grind (arith, nat_tests)

was : (is : Bool) → left_class true is ≡ Honest → ⊥
was is e = grind arith

weight : (q : Class → Bool) → q Honest ≡ false → (a b : Bool) → tick b ≤ tick a → tick (q (left_class a b)) ≤ 1 * tick a + 0 * tick b
weight q h a b le = grind arith

pub returns : goal.returns
returns c = record {
  keeps = λ before after t v.
      let k = λ (q : Class → Bool) (h : q Honest ≡ false). at_most (λ i. q (left_class (has before i) (has after i))) 1 0 v (λ i _. weight q h (has before i) (has after i) (was_there before after i v.may)) in record {
        seated_before = λ i _ h e. was (has after i) (sym (ap (λ a. left_class a (has after i)) h) ∙ e);
        never_seated = λ i _ h n. ap₂ left_class h n;
        faults = omega (arith, k not_honest refl);
        frees = omega (arith, k free refl);
        forgers = omega (arith, k forger refl);
      };
  stays = λ set t _. eq-eqb (bit_and set set) set (and_self set);
}
