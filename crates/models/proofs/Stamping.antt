-- Stamps keep the laws.
use Rattle.std.proofs.Common.{◌≡◌, ℕ, Bool, false, ap, arith}
use Rattle.models.specs.declared.classes.Class.{Class}
use Rattle.models.specs.declared.classes.Class.TheVariants.{Honest}
use Rattle.models.specs.Laws.{Meaning, Lawful, not_honest, free, forger}
use Rattle.models.specs.Stamps.{stamp, stamped}
use Rattle.models.proofs.Bounds.{count_weighed}

stamp_honest : (c : Class) → stamp c ≡ Honest → c ≡ Honest
stamp_honest c e = grind arith

pub stamps_lawful : (m : Meaning) → Lawful m → Lawful (stamped m)
stamps_lawful m law = record {
  keeps = λ before after t v.
      let k = law.keeps before after t v in
      let r = m.class before after t in
      let under = λ (q : Class → Bool) (x : ℕ). count_weighed (λ i. q (stamp (r i))) (λ i. q (r i)) (λ _. false) x 0 16 in record {
        seated_before = λ i h s e. k.seated_before i h s (stamp_honest (r i) e);
        never_seated = λ i h s p. ap stamp (k.never_seated i h s p);
        faults = omega (arith, k.faults, under not_honest 1 (λ i _. grind arith));
        frees = omega (arith, under free 0 (λ i _. grind arith));
        forgers = omega (arith, k.forgers, under forger 1 (λ i _. grind arith));
      };
  stays = law.stays;
}
