-- Forgery lines that are checked: those of a round stand before those of later ones.
use Rattle.std.proofs.Common.{◌≡◌, ℕ, suc, ◌<◌, arith, refl, sym, subst, false, eqb, List, [], ◌∷◌, Some, None, Option}
use Rattle.std.proofs.lemmas.Bool.Decides.{nat_tests}
use Rattle.values.specs.declared.refusals.Refusal.{Refusal}
use Rattle.values.specs.Rules.{Rules}
use Rattle.protocol.specs.Machine.{◌then◌}
use Rattle.run_file.specs.Lines.{Line, faulty, line_refusal, lines_refusal}
use Rattle.run_file.specs.Votes.{lines_of, rounds_from}
use Rattle.run_file.specs.InCode.{Checked}

-- neither of two checks refuses
pub both_none : (a b : Option Refusal) → (a then b) ≡ None → (a ≡ None) × (b ≡ None)
both_none None b e = (refl, e)
both_none (Some why) b e = absurd (grind arith)

either_none : (a b : Option Refusal) → a ≡ None → b ≡ None → (a then b) ≡ None
either_none None b e f = f
either_none (Some why) b e f = absurd (grind arith)

module _ (k : Rules) where
  pub first_checked : (rounds last : ℕ) (x : Line) (xs : List Line) → lines_refusal k rounds last (x ∷ xs) ≡ None → line_refusal k rounds last x ≡ None
  first_checked rounds last x xs e = (both_none (line_refusal k rounds last x) (lines_refusal k rounds x.round xs) e).0

  pub rest_checked : (rounds last : ℕ) (x : Line) (xs : List Line) → lines_refusal k rounds last (x ∷ xs) ≡ None → lines_refusal k rounds x.round xs ≡ None
  rest_checked rounds last x xs e = (both_none (line_refusal k rounds last x) (lines_refusal k rounds x.round xs) e).1

  not_lower : (rounds last : ℕ) (x : Line) → line_refusal k rounds last x ≡ None → faulty rounds last x ≡ false
  not_lower rounds last x e = grind (arith, nat_tests)

  higher : (r rounds : ℕ) (x : Line) → line_refusal k rounds r x ≡ None → eqb x.round r ≡ false → r < x.round
  higher r rounds x e other = let f = not_lower rounds r x e in grind (arith, nat_tests)

  -- a line of a later round may also stand after one of the next round
  later_still : (rounds last : ℕ) (x : Line) → line_refusal k rounds last x ≡ None → last < x.round → line_refusal k rounds (suc last) x ≡ None
  later_still rounds last x e h = grind (arith, nat_tests)

  -- after a line of a later round none is of this one
  none_later : (r rounds last : ℕ) (xs : List Line) → r < last → lines_refusal k rounds last xs ≡ None → lines_of r xs ≡ []
  none_later r rounds last [] h e = refl
  none_later r rounds last (x ∷ xs) h e =
      let other : eqb x.round r ≡ false = let f = not_lower rounds last x (first_checked rounds last x xs e) in grind (arith, nat_tests) in
      rw other (none_later r rounds x.round xs (let f = not_lower rounds last x (first_checked rounds last x xs e) in grind (arith, nat_tests)) (rest_checked rounds last x xs e))

  -- where the next line is not of this round none is, and all stand after a line of the next round too
  pub all_later : (rounds r : ℕ) (all xs : List Line) (x : Line) → all ≡ x ∷ xs → Checked k rounds r all → eqb x.round r ≡ false → (lines_of r all ≡ []) × Checked k rounds (suc r) all
  all_later rounds r all xs x is checked other =
      let first : lines_refusal k rounds r (x ∷ xs) ≡ None = subst (λ ys. lines_refusal k rounds r ys ≡ None) is checked in
      let ok = first_checked rounds r x xs first in
      let later : r < x.round = higher r rounds x ok other in
      let rest = rest_checked rounds r x xs first in
      let none : lines_of r (x ∷ xs) ≡ [] = rw other (none_later r rounds x.round xs later rest) in
      let behind : lines_refusal k rounds (suc r) (x ∷ xs) ≡ None = either_none (line_refusal k rounds (suc r) x) (lines_refusal k rounds x.round xs) (later_still rounds r x ok later) rest in
      subst (λ ys. (lines_of r ys ≡ []) × Checked k rounds (suc r) ys) (sym is) (none, behind)

-- a line of an earlier round is none of those that come
pub round_past : (r : ℕ) (sets : List ℕ) (x : Line) (xs : List Line) → x.round < r → rounds_from r sets (x ∷ xs) ≡ rounds_from r sets xs
round_past r [] x xs h = refl
round_past r (set ∷ sets) x xs h =
    let other : eqb x.round r ≡ false = grind (arith, nat_tests) in
    let rest = round_past (suc r) sets x xs (omega arith) in
    rw (other, rest) refl
