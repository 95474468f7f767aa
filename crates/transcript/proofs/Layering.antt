-- Any number of stamp layers changes no move, and classes and counts as one layer does.
use Rattle.std.proofs.Common.{◌≡◌, ◌≢◌, ℕ, zero, suc, refl, ap, ◌∙◌, arith}
use Rattle.models.specs.Laws.{Meaning, Lawful}
use Rattle.models.specs.Stamps.{stamp, stamped}
use Rattle.models.specs.Standards.{standard}
use Rattle.models.specs.declared.classes.Class.{Class}
use Rattle.models.specs.declared.classes.Counts.{Counts}
use Rattle.models.proofs.Stamping.{stamps_lawful}
use Rattle.models.proofs.Table.{table_lawful}
use Rattle.transcript.specs.declared.layers.Layered.{Layered}
use Rattle.transcript.specs.Layers.{under_stamps, layered}

stamped_twice : (c : Class) → stamp (stamp c) ≡ stamp c
stamped_twice c = grind arith

pub same_moves : (layers : ℕ) (m : Meaning) (before after t : ℕ) → (under_stamps layers m).allowed before after t ≡ m.allowed before after t
same_moves zero m before after t = refl
same_moves (suc layers) m before after t = same_moves layers m before after t

pub same_class : (layers : ℕ) (m : Meaning) (before after t i : ℕ) → layers ≢ 0 → (under_stamps layers m).class before after t i ≡ stamp (m.class before after t i)
same_class zero m before after t i some = absurd (some refl)
same_class (suc zero) m before after t i some = refl
same_class (suc (suc layers)) m before after t i some = ap stamp (same_class (suc layers) m before after t i (omega arith)) ∙ stamped_twice (m.class before after t i)

pub same_counts : (layers : ℕ) (m : Meaning) (t : ℕ) → layers ≢ 0 → (under_stamps layers m).counts t ≡ (stamped m).counts t
same_counts zero m t some = absurd (some refl)
same_counts (suc zero) m t some = refl
same_counts (suc (suc layers)) m t some = ap (λ (most : Counts). record { b = most.b; e = 0; l = most.l }) (same_counts (suc layers) m t (omega arith))

lawful_under : (layers : ℕ) (m : Meaning) → Lawful m → Lawful (under_stamps layers m)
lawful_under zero m law = law
lawful_under (suc layers) m law = stamps_lawful (under_stamps layers m) (lawful_under layers m law)

pub layers_lawful : (s : Layered) → Lawful (layered s)
layers_lawful s = lawful_under s.layers (standard s.base) (table_lawful s.base)
