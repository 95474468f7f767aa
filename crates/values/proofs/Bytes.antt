-- The numbers in bytes, as an array of pairs of them.
use Rattle.std.proofs.Common.{◌≡◌, ℕ, zero, suc, ◌+◌, ◌*◌, ◌<◌, ◌≤◌, List, [], ◌∷◌, map, length, get_or, w16, refl, ap, ◌∙◌, subst, ⊎_elim, arith}
use Rattle.std.proofs.lemmas.Bool.{cases_lt}
use Rattle.std.specs.Int.{from_le_bytes}
use Rattle.std.specs.Simd.{first_chunks}
use Rattle.std.specs.Array.{IsFromFnResultFrom}
use denote.Param.Members.{Mut, Called}
use Rattle.values.specs.Rules.{numbers}

-- twice n bytes hold the numbers of n pairs
pub numbers_pairs : (n : ℕ) (bytes : List ℕ) → length bytes ≡ 2 * n → numbers bytes ≡ map (from_le_bytes w16) (first_chunks 2 n bytes)
numbers_pairs zero [] h = refl
numbers_pairs zero (x ∷ bytes) h = absurd (omega arith)
numbers_pairs (suc n) [] h = absurd (omega arith)
numbers_pairs (suc n) (x ∷ []) h = absurd (omega arith)
numbers_pairs (suc n) (x ∷ y ∷ bytes) h = ap (λ r. (x + y * 256) ∷ r) (numbers_pairs n bytes (omega arith))

-- calls of a closure that stays as it is and gives h of each index
module _ {F B : Type 0} (g : Mut F (ℕ × Unit {0}) B) (f : F) (h : ℕ → B) (pure : (i : ℕ) (y : B) (q : F) → Called g f (i, tt) y q → (y ≡ h i) × (q ≡ f)) where
  pub made_at : (ys : List B) (i n j : ℕ) (d : B) → IsFromFnResultFrom g f ys i n → i ≤ j → j < i + n → get_or ys j d ≡ h j
  made_at ys i zero j d r low high = absurd (omega arith)
  made_at ys i (suc n) j d r low high =
      let call = pure i r.1 r.0 r.3 in
      ⊎_elim (λ lt. made_at ys (i + 1) n j d (subst (λ q. IsFromFnResultFrom g q ys (i + 1) n) call.1 r.4) (omega arith) (omega arith)) (λ ge. let here : i ≡ j = omega arith in subst (λ k. get_or ys k d ≡ h k) here (r.2.1 d ∙ call.0)) (cases_lt i j)
