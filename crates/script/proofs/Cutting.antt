-- A text that is cut at the first byte that passes a test.
use Rattle.std.proofs.Common.{◌≡◌, ℕ, ◌+◌, ◌<◌, ◌≤◌, Bool, List, [], ◌∷◌, length, take, drop, take_all, Some, None, MatchOption, Option, arith, subst, refl, is_some, true}
use Rattle.std.specs.Prelude.{position}
use Rattle.std.specs.Option.{option_map_or}
use denote.Ref.{Bor}
use Rattle.script.specs.Numbers.{is_slash, figure_in}
use Rattle.std.specs.List.{slice_split, before_first, position_or_len}
use Rattle.std.proofs.lemmas.List.Splits.{slice_split_none, slice_split_first, length-slice_split}
use Rattle.std.proofs.lemmas.List.Sums.{fails_before_first}
use Rattle.std.proofs.lemmas.Bool.Decides.{nat_tests}

-- the two outcomes of a search for the place
abbrev pub CutAt : (ℕ → Bool) → List ℕ → Option ℕ → Type 0
CutAt p xs place = MatchOption place ((before_first p xs ≡ xs) × (slice_split p xs ≡ xs ∷ []))
    (λ i. (take i xs ≡ before_first p xs) × (slice_split p xs ≡ take i xs ∷ slice_split p (drop (i + 1) xs)) × (i < length xs))

at_place : (p : ℕ → Bool) (xs : List ℕ) (i : ℕ) → position p xs ≡ Some i → (position_or_len p xs ≡ i) × (i < length xs)
at_place p xs i e = grind (arith, nat_tests, e)

nowhere : (p : ℕ → Bool) (xs : List ℕ) → position p xs ≡ None → length xs ≤ position_or_len p xs
nowhere p xs e = grind (arith, nat_tests, e)

pub cut_at : (p : ℕ → Bool) (xs : List ℕ) (r : Option ℕ) → position p xs ≡ r → CutAt p xs r
cut_at p xs None e =
    let past = nowhere p xs e in
    (take_all (position_or_len p xs) xs past, slice_split_none p xs (λ k d l. fails_before_first p xs k d (omega (arith, past, l))))
cut_at p xs (Some i) e =
    let h = at_place p xs i e in
    subst (λ j. (take j xs ≡ before_first p xs) × (slice_split p xs ≡ take j xs ∷ slice_split p (drop (j + 1) xs)) × (j < length xs)) h.0 (refl, slice_split_first p xs 0 (omega (arith, h.0, h.1)), omega (arith, h.0, h.1))

-- a word with more than four parts writes no figure
pub too_many : (rest : Option (Bor (List ℕ))) (parts : List (List ℕ)) (a b c d : List ℕ)
    → parts ≡ a ∷ b ∷ c ∷ d ∷ option_map_or (λ text. slice_split is_slash text.now) rest [] → is_some rest ≡ true → figure_in parts ≡ None
too_many None parts a b c d e s = absurd (grind arith)
too_many (Some text) parts a b c d e s = let more = length-slice_split is_slash text.now in grind (arith, more, e)
