-- Laws of the choice of a value among cells.
use Rattle.std.proofs.Common.{◌≡◌, ℕ, ◌+◌, ◌≤◌, true, List, Some, None, is_none, Option, refl, ap, arith}
use Rattle.std.proofs.lemmas.Bool.Decides.{nat_tests}
use Rattle.values.specs.Counting.{count, IsLowest}
use Rattle.values.specs.Cells.{Held, holds, differs, holders, others, passes, qualifying, winning}
use Rattle.values.proofs.Counts.{lowest_is}
use Rattle.values.proofs.Alike.{alike_tells}
use Rattle.protocol.specs.Rounds.{at_place, chosen, held_by}
use Rattle.protocol.proofs.Counting.{count_some, count_three}

pub holds_is : (x : List ℕ) (c : Held) → holds x c ≡ true → c ≡ Some x
unfolding holds
holds_is x c e = grind (arith, alike_tells)

-- a cell holds x, is filled otherwise, or is empty
pub cells_part : (cells : ℕ → Held) (n : ℕ) (x : List ℕ) → holders cells n x + others cells n x + count (λ i. is_none (cells i)) n ≡ n
unfolding holds differs
cells_part cells n x = count_three (λ i. holds x (cells i)) (λ i. differs x (cells i)) (λ i. is_none (cells i)) n (λ i. grind arith)

-- x has holders enough, and not too many cells are filled otherwise
abbrev pub Qualifies : (least most : ℕ) → (ℕ → Held) → ℕ → List ℕ → Type 0
Qualifies least most cells n x = (least ≤ holders cells n x) × (others cells n x ≤ most)

module _ (least most : ℕ) (cells : ℕ → Held) (n : ℕ) where
  sound : (o : Option ℕ) → IsLowest (qualifying least most cells n) n o → (x : List ℕ) → at_place cells o ≡ Some x → Qualifies least most cells n x
  unfolding passes
  sound None law x e = absurd (grind arith)
  sound (Some i) law x e = let q = law.1 in grind (arith, nat_tests)

  -- what is chosen qualifies
  pub chosen_qualifies : (x : List ℕ) → chosen least most cells n ≡ Some x → Qualifies least most cells n x
  unfolding chosen
  chosen_qualifies x e = sound (winning least most cells n) (lowest_is (qualifying least most cells n) n) x e

  complete : (o : Option ℕ) → IsLowest (qualifying least most cells n) n o → at_place cells o ≡ None → (x : List ℕ) → 1 ≤ least → Qualifies least most cells n x → ⊥
  unfolding passes
  complete None law e x pos q =
      let w = count_some (λ i. holds x (cells i)) n (omega (arith, q.0)) in
      let c = holds_is x (cells w.0) w.2 in
      let f = law w.0 w.1 in grind (arith, nat_tests)
  complete (Some i) law e x pos q = let f = law.1 in grind (arith, nat_tests)

  -- where nothing is chosen, nothing qualifies
  pub none_qualifies : 1 ≤ least → chosen least most cells n ≡ None → (x : List ℕ) → Qualifies least most cells n x → ⊥
  unfolding chosen
  none_qualifies pos e x q = complete (winning least most cells n) (lowest_is (qualifying least most cells n) n) e x pos q

  -- where one value alone qualifies, it is chosen
  pub chosen_only : 1 ≤ least → (x : List ℕ) → Qualifies least most cells n x → ((y : List ℕ) → Qualifies least most cells n y → y ≡ x) → chosen least most cells n ≡ Some x
  chosen_only pos x q only = go (chosen least most cells n) refl
    where
      go : (c : Held) → chosen least most cells n ≡ c → c ≡ Some x
      go None e = absurd (none_qualifies pos e x q)
      go (Some y) e = ap {B = Held} Some (only y (chosen_qualifies y e))

-- the same of a choice by holders alone
module _ (least : ℕ) (cells : ℕ → Held) (n : ℕ) where
  enough : (x : List ℕ) → least ≤ holders cells n x → Qualifies least n cells n x
  enough x e = (e, omega (arith, cells_part cells n x))

  pub held_least : (x : List ℕ) → held_by least cells n ≡ Some x → least ≤ holders cells n x
  held_least x e = (chosen_qualifies least n cells n x e).0

  pub held_only : 1 ≤ least → (x : List ℕ) → least ≤ holders cells n x → ((y : List ℕ) → least ≤ holders cells n y → y ≡ x) → held_by least cells n ≡ Some x
  held_only pos x h only = chosen_only least n cells n pos x (enough x h) (λ y q. only y q.0)
