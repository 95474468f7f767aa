-- `alike` tells exactly whether two lists of numbers are equal, in the form that `grind` takes.
use Rattle.std.proofs.Common.{◌≡◌, ℕ, true, false, ◌⊎◌, List, [], ◌∷◌, refl, inl, arith}
use Rattle.std.proofs.lemmas.Bool.Decides.{nat_tests}
use Rattle.values.specs.Cells.{alike}

pub alike_tells : (xs ys : List ℕ) → ((alike xs ys ≡ true) × (xs ≡ ys)) ⊎ ((alike xs ys ≡ false) × (xs ≡ ys → ⊥))
alike_tells [] [] = inl (refl, refl)
alike_tells [] (y ∷ ys) = grind arith
alike_tells (x ∷ xs) [] = grind arith
alike_tells (x ∷ xs) (y ∷ ys) = let ih = alike_tells xs ys in grind (arith, nat_tests)
