-- How many controllers can pass a test, by how many are in the sets before and after.
use Rattle.std.proofs.Common.{ℕ, zero, suc, ◌+◌, ◌*◌, ◌<◌, ◌≤◌, min, Bool, add-mul, mul-le-mul_left, mul-add, arith}
use Rattle.values.specs.Counting.{tick, count}
use Rattle.models.specs.Sets.{has, members}
use Rattle.models.specs.Laws.{Move}

-- each place that passes f weighs at most x if it passes u, and y if it passes v
pub count_weighed : (f u v : ℕ → Bool) (x y n : ℕ) → ((i : ℕ) → i < n → tick (f i) ≤ x * tick (u i) + y * tick (v i)) → count f n ≤ x * count u n + y * count v n
unfolding count
count_weighed f u v x y zero each = omega arith
count_weighed f u v x y (suc n) each =
    let rest = count_weighed f u v x y n (λ i h. each i (omega arith)) in
    omega (arith, each n (omega arith), mul-add x (tick (u n)) (count u n), mul-add y (tick (v n)) (count v n))

-- so after a move between sets of at most t members, at most (x + y) * t controllers pass f
pub at_most : (f : ℕ → Bool) (x y : ℕ) {allowed : ℕ → ℕ → ℕ → Bool} {before after t : ℕ} → Move allowed before after t
    → ((i : ℕ) → i < 16 → tick (f i) ≤ x * tick (has before i) + y * tick (has after i)) → count f 16 ≤ (x + y) * min t 15
unfolding members
at_most f x y {before = before} {after = after} {t = t} v each =
    omega (arith, count_weighed f (has before) (has after) x y 16 each, mul-le-mul_left x v.from.few, mul-le-mul_left y v.to.few, add-mul x y (min t 15))
