-- Laws of `count` and `lowest`, and the counts over a list.
use Rattle.std.proofs.Common.{◌≡◌, ℕ, zero, suc, ◌+◌, ◌<◌, Bool, true, false, cond, List, [], ◌∷◌, length, get_or, Some, None, count_by, position, Option, ◌≤◌, sym, refl, ◌∙◌, add-one, ap, ⊎_elim, arith}
use Rattle.std.specs.Option.{option_or}
use Rattle.std.specs.List.{position_or_len}
use Rattle.std.proofs.lemmas.Grind.{common_steps}
use Rattle.std.proofs.lemmas.List.Quantifiers.{position-Some}
use Rattle.std.proofs.lemmas.List.Sums.{sum_by-cons, fails_before_first}
use Rattle.std.proofs.lemmas.Bool.{cases_lt}
use Rattle.values.specs.Counting.{tick, count, lowest, IsLowest}

pub count_none : (p : ℕ → Bool) → count p 0 ≡ 0
unfolding count
count_none p = refl

pub count_more : (p : ℕ → Bool) (i : ℕ) → count p (i + 1) ≡ tick (p i) + count p i
unfolding count
count_more p i = rw add-one

-- by the first place instead of the last
count_front : (p : ℕ → Bool) (n : ℕ) → count p (suc n) ≡ tick (p 0) + count (λ i. p (suc i)) n
unfolding count
count_front p zero = refl
count_front p (suc n) = omega (arith, count_front p n)

cond_tick : (b : Bool) → cond b 1 0 ≡ tick b
cond_tick true = refl
cond_tick false = refl

-- a count over a list is a count over its places
pub count_list : {X : Type 0} (p : X → Bool) (d : X) (xs : List X) → count_by p xs ≡ count (λ i. p (get_or xs i d)) (length xs)
unfolding count
count_list p d [] = refl
count_list p d (x ∷ xs) =
    omega (arith, sum_by-cons (λ y. cond (p y) 1 0) x xs, cond_tick (p x), count_list p d xs, count_front (λ i. p (get_or (x ∷ xs) i d)) (length xs))

-- `lowest` obeys its law
pub lowest_is : (p : ℕ → Bool) (n : ℕ) → IsLowest p n (lowest p n)
unfolding lowest
lowest_is p zero = λ i lt. absurd (omega arith)
lowest_is p (suc n) = step (lowest p n) (p n) refl (lowest_is p n)
  where
    below : ((i : ℕ) → i < n → p i ≡ false) → p n ≡ false → (i : ℕ) → i < suc n → p i ≡ false
    below fail here i lt = ⊎_elim (fail i) (λ h. let e : i ≡ n = omega arith in ap p e ∙ here) (cases_lt i n)

    step : (o : Option ℕ) (b : Bool) → p n ≡ b → IsLowest p n o → IsLowest p (suc n) (option_or o (cond b (Some n) None))
    step (Some i) b e law = (omega (arith, law.0), law.1, law.2)
    step None true e law = (omega arith, e, law)
    step None false e law = below law e

-- the law allows one result
lowest_once : (p : ℕ → Bool) (n : ℕ) (r s : Option ℕ) → IsLowest p n r → IsLowest p n s → r ≡ s
lowest_once p n None None a b = refl
lowest_once p n None (Some j) a b = let none = a j b.0 in let here = b.1 in grind arith
lowest_once p n (Some i) None a b = let none = b i a.0 in let here = a.1 in grind arith
lowest_once p n (Some i) (Some j) a b =
    ⊎_elim (λ lt. let none = b.2 i lt in let here = a.1 in grind arith) (λ ge. ⊎_elim (λ lt. let none = a.2 j lt in let here = b.1 in grind arith) (λ le. let e : i ≡ j = omega arith in ap {B = Option ℕ} Some e) (cases_lt j i)) (cases_lt i j)

pub lowest_only : (p : ℕ → Bool) (n : ℕ) (r : Option ℕ) → IsLowest p n r → lowest p n ≡ r
lowest_only p n r law = lowest_once p n (lowest p n) r (lowest_is p n) law

-- the place at which a list first passes obeys the law
module _ {X : Type 0} (q : X → Bool) (d : X) (xs : List X) (p : ℕ → Bool) (same : (i : ℕ) → p i ≡ q (get_or xs i d)) where
  pub position_is : (r : Option ℕ) → r ≡ position q xs → IsLowest p (length xs) r
  position_is (Some i) e = let at = position-Some q xs i d (sym e) in (at.0, same i ∙ at.1, λ j lt. same j ∙ at.2 j lt)
  position_is None e = λ i lt. let past : length xs ≤ position_or_len q xs = grind (arith, common_steps) in same i ∙ fails_before_first q xs i d (omega arith)
