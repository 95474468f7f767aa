-- A set's bits and their number.
use Rattle.std.proofs.Common.{◌≡◌, ℕ, zero, suc, ◌+◌, ◌*◌, ◌/◌, ◌%◌, ◌^◌, ◌<◌, false, eqb, sym, refl, ap, ◌∙◌, ap₂, mod-lt, mod-eq_of_lt, one-add, arith, lit<, pow_pos}
use Rattle.std.proofs.Math.Nat.{zero-div}
use lib.Count.{ones, ones_cat, ones-le}
use lib.Pow.{mod-pow-add}
use Rattle.values.specs.Counting.{tick, count}
use Rattle.models.specs.Sets.{has, members}

digit : (d : ℕ) → d < 2 → ones d ≡ tick (eqb d 1)
unfolding ones
digit zero h = refl
digit (suc zero) h = refl
digit (suc (suc d)) h = omega arith

-- the low k bits, by the highest of them
counted : (x k : ℕ) → ones (x % 2 ^ k) ≡ count (has x) k
unfolding count
counted x zero = omega (arith, ones-le zero (x % 1) (mod-lt x (lit< tt)))
counted x (suc k) =
    let e : x % 2 ^ suc k ≡ x / 2 ^ k % 2 * 2 ^ k + x % 2 ^ k = ap (λ (j : ℕ). x % 2 ^ j) (sym (one-add k)) ∙ mod-pow-add x 1 k in
    ap ones e ∙ ones_cat k (x / 2 ^ k % 2) (x % 2 ^ k) (mod-lt x (pow_pos k)) ∙ ap₂ (λ (a b : ℕ). a + b) (digit (x / 2 ^ k % 2) (mod-lt (x / 2 ^ k) (lit< tt))) (counted x k)

pub ones-members : (x : ℕ) → x < 2 ^ 16 → ones x ≡ members x
unfolding members
ones-members x h = ap ones (sym (mod-eq_of_lt h)) ∙ counted x 16

-- the empty set has nobody
pub has_none : (i : ℕ) → has 0 i ≡ false
has_none i = rw zero-div
