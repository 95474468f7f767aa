-- The set of the clean coordinators, made controller by controller.
use Rattle.std.proofs.Common.{◌≡◌, ◌≢◌, ℕ, ◌+◌, ◌*◌, ◌%◌, ◌^◌, ◌<◌, ◌≤◌, inl, inr, true, eqb, ap, subst, ◌∙◌, sym, arith, bit_or, w16, refl}
use Rattle.std.specs.Prelude.{◌↔◌}
use Rattle.std.proofs.lemmas.Bool.Decides.{eqb_tells}
use Rattle.std.proofs.lemmas.Nat.Bits.{bit_at_set_same, bit_at_set_other}
use Rattle.models.specs.Sets.{has}
use Rattle.models.specs.declared.sets.TheConstants.{MOST_CONTROLLERS}
use Rattle.protocol.specs.Transcripts.{Transcript}
use Rattle.transcript.specs.Outcomes.{WasClean, AreClean}

-- a set has the controllers below k that were clean coordinators
abbrev pub CleanBelow : Transcript → (set k : ℕ) → Type 0
CleanBelow log set k = (c : ℕ) → c < MOST_CONTROLLERS → (has set c ≡ true) ↔ ((c < k) × WasClean log c)

put_same : (set k : ℕ) → k < 16 → has (bit_or set (1 * 2 ^ k % 2 ^ 16)) k ≡ true
put_same set k lt = ap (λ b. eqb b 1) (bit_at_set_same w16 set k lt)

put_other : (set k c : ℕ) → k < 16 → c ≢ k → has (bit_or set (1 * 2 ^ k % 2 ^ 16)) c ≡ has set c
put_other set k c lt ne = ap (λ b. eqb b 1) (bit_at_set_other w16 set k lt c ne)

-- a set that is right at controller k, and as before at all others
clean_next : (log : Transcript) (set next k : ℕ) → ((has next k ≡ true) ↔ WasClean log k) → ((c : ℕ) → c ≢ k → has next c ≡ has set c) → CleanBelow log set k → CleanBelow log next (k + 1)
clean_next log set next k at others below = λ c small. elim (eqb_tells c k) [
  | inl same ↦ subst (λ j. (has next j ≡ true) ↔ ((j < k + 1) × WasClean log j)) (sym same.1) (λ told. (omega arith, at.0 told), λ w. at.1 w.1)
  | inr other ↦ (λ told. let b = (below c small).0 (sym (others c other.1) ∙ told) in (omega (arith, b.0), b.1), λ w. others c other.1 ∙ (below c small).1 (omega (arith, w.0, other.1), w.1))
]

pub clean_more : (log : Transcript) (set k : ℕ) → k < 16 → WasClean log k → CleanBelow log set k → CleanBelow log (bit_or set (1 * 2 ^ k % 2 ^ 16)) (k + 1)
clean_more log set k small was = clean_next log set (bit_or set (1 * 2 ^ k % 2 ^ 16)) k (λ _. was, λ _. put_same set k small) (λ c. put_other set k c small)

pub clean_still : (log : Transcript) (set k : ℕ) → k < 16 → (WasClean log k → ⊥) → CleanBelow log set k → CleanBelow log set (k + 1)
clean_still log set k small not_clean below = clean_next log set set k (λ told. ((below k small).0 told).1, λ was. absurd (not_clean was)) (λ c _. refl) below

pub all_clean : (log : Transcript) (set k : ℕ) → 16 ≤ k → CleanBelow log set k → AreClean log set
all_clean log set k done below = λ c small. (λ told. ((below c small).0 told).1, λ was. (below c small).1 (omega arith, was))
