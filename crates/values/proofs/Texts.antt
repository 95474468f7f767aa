-- The text of a list of numbers, one number more at a time.
use Rattle.std.proofs.Common.{◌≡◌, ℕ, ◌+◌, ◌<◌, List, [], ◌∷◌, ◌++◌, length, get_or, take, decimal, sym, refl, ap, ◌∙◌, append_assoc, arith}
use Rattle.std.proofs.lemmas.List.{take_more, length-take-le}
use Rattle.values.specs.Rules.{text}

text_push : (xs : List ℕ) (y : ℕ) → 0 < length xs → text (xs ++ y ∷ []) ≡ text xs ++ (32 ∷ decimal y)
text_push [] y h = absurd (omega arith)
text_push (x ∷ []) y h = refl
text_push (x ∷ z ∷ xs) y h = ap (λ r. decimal x ++ (32 ∷ r)) (text_push (z ∷ xs) y (omega arith)) ∙ sym (append_assoc (decimal x) (32 ∷ text (z ∷ xs)) (32 ∷ decimal y))

pub text_more : (xs : List ℕ) (i : ℕ) → 0 < i → i < length xs → text (take i xs) ++ (32 ∷ decimal (get_or xs i 0)) ≡ text (take (i + 1) xs)
text_more xs i pos h =
    let some : 0 < length (take i xs) = omega (arith, length-take-le i xs (omega arith)) in
    sym (ap text (take_more xs i 0 h) ∙ text_push (take i xs) (get_or xs i 0) some)
