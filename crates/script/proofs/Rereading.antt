-- What was written is read again: words, numbers, figures and sets.
use Rattle.std.proofs.Common.{◌≡◌, ℕ, zero, suc, ◌^◌, ◌<◌, ◌≤◌, Bool, true, false, List, [], ◌∷◌, ◌++◌, length, map, decimal, Some, nat_lt, refl, ap, sym, ◌∙◌, rules, arith, append-nil, All, get_or}
use Rattle.std.specs.List.{join_with_byte, slice_split, list_all, AllByRecursion}
use Rattle.std.specs.Str.Parse.{AllDigits}
use Rattle.std.proofs.lemmas.List.Splits.{slice_split_none, slice_split_at}
use Rattle.std.proofs.lemmas.Fmt.{decimal_is_IsNumeral}
use Rattle.std.proofs.lemmas.Str.Parse.{digit_from_value}
use Rattle.std.proofs.lemmas.Bool.{and_parts}
use Rattle.std.proofs.lemmas.Bool.Decides.{nat_tests}
use Rattle.script.specs.Numbers.{number_below, numbers_below}
use Rattle.script.specs.Written.{behind_blanks}
use Rattle.script.proofs.Numbering.{own}

-- the words behind the first one, each behind a blank
pub join_is : (w : List ℕ) (ws : List (List ℕ)) → join_with_byte 32 (w ∷ ws) ≡ w ++ behind_blanks ws
join_is w [] = sym (append-nil w)
join_is w (x ∷ ws) = ap (λ rest. w ++ (32 ∷ rest)) (join_is x ws)

-- every byte of a text is above k
abbrev pub above : ℕ → List ℕ → Bool
above k bs = list_all (nat_lt k) bs

above_at : (k : ℕ) (bs : List ℕ) → above k bs ≡ true → (i d : ℕ) → i < length bs → k < get_or bs i d
above_at k [] h i d l = absurd (omega (arith, l))
above_at k (b ∷ bs) h zero d l = grind (arith, nat_tests, h)
above_at k (b ∷ bs) h (suc i) d l = above_at k bs (and_parts _ _ h).1 i d (omega (arith, l))

-- no byte of a text above k passes a test that only bytes up to k pass
lacks : (p : ℕ → Bool) (k : ℕ) (bs : List ℕ) → ((b : ℕ) → k < b → p b ≡ false) → above k bs ≡ true → All (λ b. p b ≡ false) bs
lacks p k bs q h i d l = q (get_or bs i d) (above_at k bs h i d l)

-- words that are joined by a byte that cuts, and have none in them, are cut as they were
pub cut_again : (p : ℕ → Bool) (c k : ℕ) (w : List ℕ) (ws : List (List ℕ)) → p c ≡ true → ((b : ℕ) → k < b → p b ≡ false) → list_all (above k) (w ∷ ws) ≡ true
    → slice_split p (join_with_byte c (w ∷ ws)) ≡ w ∷ ws
cut_again p c k w [] cuts q h = slice_split_none p w (lacks p k w q (and_parts _ _ h).0)
cut_again p c k w (x ∷ ws) cuts q h = slice_split_at p w c _ (lacks p k w q (and_parts _ _ h).0) cuts ∙ ap (λ rest. w ∷ rest) (cut_again p c k x ws cuts q (and_parts _ _ h).1)

digits_above : (ds : List ℕ) → AllDigits 10 ds → above 47 ds ≡ true
digits_above [] h = refl
digits_above (d ∷ ds) h = let r = digit_from_value d h.0 in let rest = digits_above ds h.1 in grind (arith, nat_tests, r, rest)

pub decimal_above : (n : ℕ) → n < 2 ^ 64 → above 47 (decimal n) ≡ true
decimal_above n small = digits_above (decimal n) (decimal_is_IsNumeral n small).0.1

pub number_again : (limit n : ℕ) → n < limit → limit ≤ 2 ^ 64 → number_below limit (decimal n) ≡ Some n
number_again limit n small fits =
    let d = decimal_is_IsNumeral n (omega (arith, small, fits)) in
    let all = own.from (decimal n) d.0.1 in
    let some = d.0.0 in
    let value = d.1 in
    grind (arith, nat_tests, all, some, value)

pub numbers_again : (limit : ℕ) → limit ≤ 2 ^ 64 → (xs : List ℕ) → AllByRecursion (λ x. x < limit) xs → numbers_below limit (map decimal xs) ≡ Some xs
numbers_again limit fits [] h = refl
numbers_again limit fits (x ∷ xs) h = let first = number_again limit x h.0 fits in let rest = numbers_again limit fits xs h.1 in search (rules, first, rest)
