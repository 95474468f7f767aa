-- Laws of counting that compare tests place by place.
use Rattle.std.proofs.Common.{◌≡◌, ℕ, zero, suc, ◌+◌, ◌<◌, ◌≤◌, Bool, true, false, ◌⊎◌, ⊎_elim, refl, arith}
use Rattle.std.proofs.lemmas.Bool.{cases_lt}
use Rattle.values.specs.Counting.{count}

-- each place that passes p passes q or r
pub count_cover : (p q r : ℕ → Bool) (n : ℕ) → ((i : ℕ) → i < n → p i ≡ true → (q i ≡ true) ⊎ (r i ≡ true)) → count p n ≤ count q n + count r n
unfolding count
count_cover p q r zero each = omega arith
count_cover p q r (suc n) each = let rest = count_cover p q r n (λ i lt. each i (omega arith)) in grind arith

-- each place passes one of two tests
pub count_all : (p q : ℕ → Bool) (n : ℕ) → ((i : ℕ) → i < n → (p i ≡ true) ⊎ (q i ≡ true)) → n ≤ count p n + count q n
unfolding count
count_all p q zero each = omega arith
count_all p q (suc n) each = let rest = count_all p q n (λ i lt. each i (omega arith)) in grind arith

-- each place that passes p passes q
pub count_mono : (p q : ℕ → Bool) (n : ℕ) → ((i : ℕ) → i < n → p i ≡ true → q i ≡ true) → count p n ≤ count q n
unfolding count
count_mono p q zero each = omega arith
count_mono p q (suc n) each = let rest = count_mono p q n (λ i lt. each i (omega arith)) in grind arith

-- where two tests say the same of each place, as many pass
pub count_same : (p q : ℕ → Bool) (n : ℕ) → ((i : ℕ) → i < n → p i ≡ q i) → count p n ≡ count q n
unfolding count
count_same p q zero each = refl
count_same p q (suc n) each = let rest = count_same p q n (λ i lt. each i (omega arith)) in let here = each n (omega arith) in grind arith

-- more places pass p than q, so one passes p and not q
pub count_witness : (p q : ℕ → Bool) (n : ℕ) → count q n < count p n → (i : ℕ) × (i < n) × (p i ≡ true) × (q i ≡ false)
unfolding count
count_witness p q zero more = absurd (omega arith)
count_witness p q (suc n) more =
    let k : ((p n ≡ true) × (q n ≡ false)) ⊎ (count q n < count p n) = grind arith in
    ⊎_elim (λ here. (n, omega arith, here.0, here.1)) (λ lt. let w = count_witness p q n lt in (w.0, omega arith, w.2, w.3)) k

-- some places pass p, so one does
pub count_some : (p : ℕ → Bool) (n : ℕ) → 1 ≤ count p n → (i : ℕ) × (i < n) × (p i ≡ true)
unfolding count
count_some p zero some = absurd (omega arith)
count_some p (suc n) some =
    let k : (p n ≡ true) ⊎ (1 ≤ count p n) = grind arith in
    ⊎_elim (λ here. (n, omega arith, here)) (λ lt. let w = count_some p n lt in (w.0, omega arith, w.2)) k

-- of more places no fewer pass
pub count_within : (p : ℕ → Bool) (n m : ℕ) → n ≤ m → count p n ≤ count p m
unfolding count
count_within p n zero le = let e : n ≡ zero = omega arith in grind arith
count_within p n (suc m) le =
    ⊎_elim (λ lt. let e : n ≡ suc m = omega arith in grind arith) (λ ge. omega (arith, count_within p n m ge)) (cases_lt m n)

-- where each place passes exactly one of three tests, the three counts make the number of places
pub count_three : (p q r : ℕ → Bool) (n : ℕ)
    → ((i : ℕ) → ((p i ≡ true) × (q i ≡ false) × (r i ≡ false)) ⊎ (((p i ≡ false) × (q i ≡ true) × (r i ≡ false)) ⊎ ((p i ≡ false) × (q i ≡ false) × (r i ≡ true))))
    → count p n + count q n + count r n ≡ n
unfolding count
count_three p q r zero each = omega arith
count_three p q r (suc n) each = let rest = count_three p q r n each in let here = each n in grind arith
