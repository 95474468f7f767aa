-- A call that was written is read again.
use Rattle.std.proofs.Common.{◌≡◌, ℕ, zero, suc, ◌+◌, ◌^◌, ◌<◌, ◌≤◌, Bool, true, false, if◌then◌else◌, ◌⊎◌, List, [], ◌∷◌, ◌++◌, length, map, filter, decimal, fold, replicate, codes, Some, None, Ok, ◌==◌, ◌≢◌, ◌&&◌, not, nat_lt, slice_index, refl, ap, sym, ◌∙◌, rules, arith, subst, length-append, take, take_all, take_at, add-one}
use Rattle.std.specs.List.{join_with_byte, between, slice_split, before_first, position_or_len, prefix_len, list_all, AllByRecursion}
use Rattle.std.specs.Option.{option_map, option_and_then, ok_or}
use Rattle.std.proofs.lemmas.Bool.{and_parts, and_from, cond-true}
use Rattle.std.proofs.lemmas.Slice.Eq.{bytes_eq-Decides}
use Rattle.std.specs.Str.{bytes_eq}
use Rattle.std.proofs.lemmas.Bool.Decides.{nat_tests}
use Rattle.std.proofs.lemmas.List.{length-map, get_or_at}
use Rattle.std.proofs.lemmas.Fmt.{decimal_nonempty}
use Rattle.std.proofs.lemmas.List.Sums.{fold-append}
use Rattle.std.specs.Int.{bit_at}
use Rattle.std.proofs.lemmas.Nat.Bits.{bit_at-zero, bit_at_or, bit_at-pow_same, bit_at-pow_other, bit_at_above, bit_at-lt, same_from_bits}
use mathlib.Core.Logic.{inl, inr}
use Rattle.values.specs.Cells.{Held}
use Rattle.values.specs.Counting.{tick}
use Rattle.models.specs.declared.sets.TheConstants.{MOST_CONTROLLERS}
use Rattle.models.specs.Sets.{has}
use Rattle.protocol.specs.Machine as machine
use Rattle.script.specs.Words.{is_blank, is_hash, is_some_text, words_of}
use Rattle.script.specs.Numbers.{numbers_below, is_slash, is_comma, figure_of, figure_in, set_of, set_in, set_with, with_member, members_of, braced}
use Rattle.script.specs.Lines.{◌and_then◌, first, kind_of, model_of, stamps_in, house_in, number_first, set_first, cell_first, figures_in, call_in}
use Rattle.script.specs.declared.flaws.Expected.TheVariants as expected
use Rattle.script.specs.Written.{written_figure, written_set, written_cell, members_below, words_for, written, IsFigure, IsSet, IsCell, IsNumber, IsWritable, kind_word, model_word, written_house}
use Rattle.models.specs.declared.standards.Standard.{Standard}
use Rattle.models.specs.declared.standards.Standard.TheVariants.{Aware, Unaware, Buffered, Carried, Fixed}
use Rattle.script.specs.declared.scripts.House.{House}
use Rattle.script.specs.declared.scripts.ValueKind.{ValueKind}
use Rattle.script.specs.declared.scripts.ValueKind.TheVariants.{Setpoint, Sheet}
use Rattle.script.proofs.Rereading.{above, cut_again, decimal_above, number_again, numbers_again}

all_digits : (xs : List ℕ) → AllByRecursion (λ x. x < 2 ^ 64) xs → list_all (above 47) (map decimal xs) ≡ true
all_digits [] h = refl
all_digits (x ∷ xs) h = and_from _ _ (decimal_above x h.0) (all_digits xs h.1)

wider : (limit : ℕ) → limit ≤ 2 ^ 64 → (xs : List ℕ) → AllByRecursion (λ x. x < limit) xs → AllByRecursion (λ x. x < 2 ^ 64) xs
wider limit fits [] h = h
wider limit fits (x ∷ xs) h = (omega (arith, h.0, fits), wider limit fits xs h.1)

sized : (xs : List ℕ) → ((length xs ≡ 1) ⊎ (length xs ≡ 4)) → numbers_below (2 ^ 16) (map decimal xs) ≡ Some xs → figure_in (map decimal xs) ≡ Some xs
sized xs h e = let len = length-map xs decimal in grind (arith, nat_tests, len, h, e)

is_above : (k c b : ℕ) → c ≤ k → k < b → (b == c) ≡ false
is_above k c b low high = grind (arith, nat_tests, low, high)

pub figure_again : (xs : List ℕ) → IsFigure xs → figure_of (written_figure xs) ≡ Some xs
figure_again [] (inl h, _) = absurd (omega (arith, h))
figure_again [] (inr h, _) = absurd (omega (arith, h))
figure_again (x ∷ xs) h =
    let wide = wider (2 ^ 16) (omega arith) (x ∷ xs) h.1 in
    ap figure_in (cut_again is_slash 47 47 (decimal x) (map decimal xs) refl (λ b l. is_above 47 47 b (omega arith) l) (all_digits (x ∷ xs) wide)) ∙ sized (x ∷ xs) h.0 (numbers_again (2 ^ 16) (omega arith) (x ∷ xs) h.1)

all_more : {X : Type 0} (P : X → Type 0) (xs : List X) (x : X) (b : Bool) → AllByRecursion P xs → P x → AllByRecursion P (xs ++ (if b then x ∷ [] else []))
all_more P [] x true h p = (p, tt)
all_more P [] x false h p = tt
all_more P (y ∷ xs) x b h p = (h.0, all_more P xs x b h.1 p)

below : (n set : ℕ) → n ≤ 16 → AllByRecursion (λ x. x < 16) (members_below n set)
unfolding members_below
below zero set h = tt
below (suc n) set h = all_more (λ x. x < 16) (members_below n set) n (has set n) (below n set (omega (arith, h))) (omega (arith, h))

-- the members of a set below n have its bits below n, and no others
bit_if : (n set i : ℕ) → ℕ
bit_if n set i = if nat_lt i n then bit_at set i else 0

one_bit : (set n : ℕ) (b : Bool) → has set n ≡ b → bit_at set n ≡ tick b
one_bit set n true h = grind (arith, nat_tests, h)
one_bit set n false h = let two = bit_at-lt set n in grind (arith, nat_tests, h, two)

-- one more member to look at: its own bit, and every other
own_bit : (set n s : ℕ) (b : Bool) → has set n ≡ b → bit_at s n ≡ bit_if n set n → bit_at (fold with_member s (if b then n ∷ [] else [])) n ≡ bit_if (suc n) set n
unfolding bit_if
own_bit set n s true h e =
    let set_bit = one_bit set n true h in
    let joined = bit_at_or s (2 ^ n) n in
    let new = bit_at-pow_same n in
    grind (arith, nat_tests, set_bit, joined, new, e)
own_bit set n s false h e = let set_bit = one_bit set n false h in grind (arith, nat_tests, set_bit, e)

other_bit : (set n i s : ℕ) (b : Bool) → i ≢ n → bit_at s i ≡ bit_if n set i → bit_at (fold with_member s (if b then n ∷ [] else [])) i ≡ bit_if (suc n) set i
unfolding bit_if
other_bit set n i s true d e =
    let joined = bit_at_or s (2 ^ n) i in
    let new = bit_at-pow_other n i d in
    grind (arith, nat_tests, joined, new, e, d)
other_bit set n i s false d e = grind (arith, nat_tests, e, d)

added : (set n i s : ℕ) → bit_at s i ≡ bit_if n set i → ((i ≡ n) ⊎ (i ≢ n)) → bit_at (fold with_member s (if has set n then n ∷ [] else [])) i ≡ bit_if (suc n) set i
added set n i s e (inl same) = subst (λ j. bit_at (fold with_member s (if has set n then n ∷ [] else [])) j ≡ bit_if (suc n) set j) (sym same) (own_bit set n s (has set n) refl (subst (λ j. bit_at s j ≡ bit_if n set j) same e))
added set n i s e (inr other) = other_bit set n i s (has set n) other e

same_or_not : (i n : ℕ) → (i ≡ n) ⊎ (i ≢ n)
same_or_not i n = by (i == n) refl
  where
    by : (b : Bool) → (i == n) ≡ b → (i ≡ n) ⊎ (i ≢ n)
    by true e = inl (grind (arith, nat_tests, e))
    by false e = inr (grind (arith, nat_tests, e))

bits : (n set i : ℕ) → bit_at (set_with (members_below n set)) i ≡ bit_if n set i
unfolding members_below bit_if
bits zero set i = bit_at-zero i ∙ grind (arith, nat_tests)
bits (suc n) set i = ap (λ s. bit_at s i) (fold-append with_member 0 (members_below n set) (if has set n then n ∷ [] else [])) ∙ added set n i (set_with (members_below n set)) (bits n set i) (same_or_not i n)

whole : (set i : ℕ) → IsSet set → bit_if 16 set i ≡ bit_at set i
unfolding bit_if
whole set i h = let past = bit_at_above set 16 i h in grind (arith, nat_tests, past)

pub made_up : (set : ℕ) → IsSet set → set_with (members_below 16 set) ≡ set
unfolding bit_if
made_up set h = same_from_bits _ set (λ i. bits 16 set i ∙ whole set i h)

joined_some : (w : List ℕ) (ws : List (List ℕ)) → 0 < length w → 0 < length (join_with_byte 44 (w ∷ ws))
joined_some w [] h = h
joined_some w (x ∷ ws) h = omega (arith, h, length-append w (44 ∷ join_with_byte 44 (x ∷ ws)))

of_parts : (text inside : List ℕ) (n : ℕ) → length text ≡ n + 2 → slice_index text (n + 1) ≡ 125 → between 1 (n + 1) text ≡ inside → slice_index text 0 ≡ 123 → braced text ≡ Some inside
of_parts text inside n len last mid first = grind (arith, nat_tests, len, last, mid, first)

-- the text between braces
braced_again : (inside : List ℕ) → braced (codes "{" ++ (inside ++ codes "}")) ≡ Some inside
braced_again inside =
    let text = 123 ∷ (inside ++ 125 ∷ []) in
    let len : length text ≡ length inside + 2 = omega (arith, length-append inside (125 ∷ [])) in
    let last : slice_index text (length inside + 1) ≡ 125 = ap (slice_index text) (add-one (length inside)) ∙ get_or_at inside 125 [] 0 (length inside) refl in
    let mid : between 1 (length inside + 1) text ≡ inside = ap (λ n. take n (inside ++ 125 ∷ [])) (omega arith) ∙ take_at inside (125 ∷ []) (length inside) refl in
    of_parts text inside (length inside) len last mid refl

some_members : (inside : List ℕ) → 0 < length inside → members_of inside ≡ numbers_below MOST_CONTROLLERS (slice_split is_comma inside)
some_members inside h = grind (arith, nat_tests, h)

members_again : (xs : List ℕ) → AllByRecursion (λ x. x < 16) xs → members_of (join_with_byte 44 (map decimal xs)) ≡ Some xs
members_again [] h = refl
members_again (x ∷ xs) h =
    let inside = join_with_byte 44 (decimal x ∷ map decimal xs) in
    let wide = wider 16 (omega arith) (x ∷ xs) h in
    let some = joined_some (decimal x) (map decimal xs) (decimal_nonempty x (omega (arith, h.0))) in
    let cut = cut_again is_comma 44 47 (decimal x) (map decimal xs) refl (λ b l. is_above 47 44 b (omega arith) l) (all_digits (x ∷ xs) wide) in
    let numbers = numbers_again 16 (omega arith) (x ∷ xs) h in
    some_members inside some ∙ ap (numbers_below 16) cut ∙ numbers

pub set_again : (set : ℕ) → IsSet set → set_of (written_set set) ≡ Some set
set_again set h =
    let inside = join_with_byte 44 (map decimal (members_below 16 set)) in
    ap (option_and_then set_in) (braced_again inside)
    ∙ ap (option_map set_with) (members_again (members_below 16 set) (below 16 set (omega arith)))
    ∙ ap Some (made_up set h)

-- Words: none is empty, and none has a blank or a # in it.
abbrev is_word : List ℕ → Bool
is_word w = is_some_text w && above 43 w

above_more : (k : ℕ) (xs ys : List ℕ) → above k xs ≡ true → above k ys ≡ true → above k (xs ++ ys) ≡ true
above_more k [] ys h g = g
above_more k (x ∷ xs) ys h g = and_from _ _ (and_parts _ _ h).0 (above_more k xs ys (and_parts _ _ h).1 g)

lower_byte : (k j x : ℕ) → j ≤ k → nat_lt k x ≡ true → nat_lt j x ≡ true
lower_byte k j x l h = grind (arith, nat_tests, l, h)

is_less : (k c : ℕ) → k < c → nat_lt k c ≡ true
is_less k c l = grind (arith, nat_tests, l)

lower : (k j : ℕ) (xs : List ℕ) → j ≤ k → above k xs ≡ true → above j xs ≡ true
lower k j [] l h = refl
lower k j (x ∷ xs) l h = and_from _ _ (lower_byte k j x l (and_parts _ _ h).0) (lower k j xs l (and_parts _ _ h).1)

join_above : (k c : ℕ) (w : List ℕ) (ws : List (List ℕ)) → k < c → list_all (above k) (w ∷ ws) ≡ true → above k (join_with_byte c (w ∷ ws)) ≡ true
join_above k c w [] l h = (and_parts _ _ h).0
join_above k c w (x ∷ ws) l h = above_more k w (c ∷ join_with_byte c (x ∷ ws)) (and_parts _ _ h).0 (and_from _ _ (is_less k c l) (join_above k c x ws l (and_parts _ _ h).1))

all_lower : (ws : List (List ℕ)) → list_all (above 47) ws ≡ true → list_all (above 43) ws ≡ true
all_lower [] h = refl
all_lower (w ∷ ws) h = and_from _ _ (lower 47 43 w (omega arith) (and_parts _ _ h).0) (all_lower ws (and_parts _ _ h).1)

some_text : (w : List ℕ) → 0 < length w → is_some_text w ≡ true
some_text w h = grind (arith, nat_tests, h)

is_word_number : (n : ℕ) → n < 2 ^ 64 → is_word (decimal n) ≡ true
is_word_number n h = and_from _ _ (some_text (decimal n) (decimal_nonempty n h)) (lower 47 43 (decimal n) (omega arith) (decimal_above n h))

inside_set : (xs : List ℕ) → AllByRecursion (λ x. x < 2 ^ 64) xs → above 43 (join_with_byte 44 (map decimal xs)) ≡ true
inside_set [] h = refl
inside_set (x ∷ xs) h = join_above 43 44 (decimal x) (map decimal xs) (omega arith) (all_lower (map decimal (x ∷ xs)) (all_digits (x ∷ xs) h))

is_word_set : (set : ℕ) → is_word (written_set set) ≡ true
is_word_set set = and_from _ _ (some_text (written_set set) (omega arith)) (above_more 43 (join_with_byte 44 (map decimal (members_below 16 set))) (codes "}") (inside_set (members_below 16 set) (wider 16 (omega arith) (members_below 16 set) (below 16 set (omega arith)))) refl)

joined_figure : (w : List ℕ) (ws : List (List ℕ)) → 0 < length w → 0 < length (join_with_byte 47 (w ∷ ws))
joined_figure w [] h = h
joined_figure w (x ∷ ws) h = omega (arith, h, length-append w (47 ∷ join_with_byte 47 (x ∷ ws)))

is_word_figure : (xs : List ℕ) → IsFigure xs → is_word (written_figure xs) ≡ true
is_word_figure [] (inl h, _) = absurd (omega (arith, h))
is_word_figure [] (inr h, _) = absurd (omega (arith, h))
is_word_figure (x ∷ xs) h =
    let wide = wider (2 ^ 16) (omega arith) (x ∷ xs) h.1 in
    and_from _ _ (some_text (written_figure (x ∷ xs)) (joined_figure (decimal x) (map decimal xs) (decimal_nonempty x wide.0)))
    (join_above 43 47 (decimal x) (map decimal xs) (omega arith) (all_lower (map decimal (x ∷ xs)) (all_digits (x ∷ xs) wide)))

is_word_cell : (cell : Held) → IsCell cell → is_word (written_cell cell) ≡ true
is_word_cell None h = refl
is_word_cell (Some xs) h = is_word_figure xs h

are_words : (xss : List (List ℕ)) → AllByRecursion IsFigure xss → list_all is_word (map written_figure xss) ≡ true
are_words [] h = refl
are_words (xs ∷ xss) h = and_from _ _ (is_word_figure xs h.0) (are_words xss h.1)

-- The words of a call that is written are found again.
all_pass : {X : Type 0} (p : X → Bool) (xs : List X) → list_all p xs ≡ true → filter p xs ≡ xs
all_pass p [] h = refl
all_pass p (x ∷ xs) h = cond-true (p x) (x ∷ filter p xs) (filter p xs) (and_parts _ _ h).0 ∙ ap (λ rest. x ∷ rest) (all_pass p xs (and_parts _ _ h).1)

not_hash : ℕ → Bool
not_hash b = not (is_hash b)

whole_prefix : (q : ℕ → Bool) (xs : List ℕ) → list_all q xs ≡ true → length xs ≤ prefix_len q xs
whole_prefix q [] h = omega arith
whole_prefix q (x ∷ xs) h = let first = (and_parts (q x) (list_all q xs) h).0 in let rest = whole_prefix q xs (and_parts (q x) (list_all q xs) h).1 in grind (arith, first, rest)

no_comment : (text : List ℕ) → list_all not_hash text ≡ true → before_first is_hash text ≡ text
unfolding not_hash
no_comment text h = take_all (position_or_len is_hash text) text (whole_prefix not_hash text h)

parts_of : (ws : List (List ℕ)) → list_all is_word ws ≡ true → (list_all is_some_text ws ≡ true) × (list_all (above 43) ws ≡ true)
parts_of [] h = (refl, refl)
parts_of (w ∷ ws) h =
    let first = and_parts _ _ (and_parts _ _ h).0 in
    let rest = parts_of ws (and_parts _ _ h).1 in
    (and_from _ _ first.0 rest.0, and_from _ _ first.1 rest.1)

no_hash : (b : ℕ) → nat_lt 43 b ≡ true → not_hash b ≡ true
unfolding not_hash
no_hash b h = grind (arith, nat_tests, h)

no_blank : (b : ℕ) → 43 < b → is_blank b ≡ false
no_blank b h = grind (arith, nat_tests, h)

unhashed_more : (xs ys : List ℕ) → list_all not_hash xs ≡ true → list_all not_hash ys ≡ true → list_all not_hash (xs ++ ys) ≡ true
unhashed_more [] ys h g = g
unhashed_more (x ∷ xs) ys h g = and_from _ _ (and_parts _ _ h).0 (unhashed_more xs ys (and_parts _ _ h).1 g)

unhashed : (text : List ℕ) → above 43 text ≡ true → list_all not_hash text ≡ true
unfolding not_hash
unhashed [] h = refl
unhashed (b ∷ text) h = and_from _ _ (no_hash b (and_parts _ _ h).0) (unhashed text (and_parts _ _ h).1)

unhashed_join : (w : List ℕ) (ws : List (List ℕ)) → list_all (above 43) (w ∷ ws) ≡ true → list_all not_hash (join_with_byte 32 (w ∷ ws)) ≡ true
unfolding not_hash
unhashed_join w [] h = unhashed w (and_parts _ _ h).0
unhashed_join w (x ∷ ws) h = unhashed_more w (32 ∷ join_with_byte 32 (x ∷ ws)) (unhashed w (and_parts _ _ h).0) (and_from _ _ refl (unhashed_join x ws (and_parts _ _ h).1))

pub words_again : (w : List ℕ) (ws : List (List ℕ)) → list_all is_word (w ∷ ws) ≡ true → words_of (join_with_byte 32 (w ∷ ws)) ≡ w ∷ ws
words_again w ws h =
    let parts = parts_of (w ∷ ws) h in
    let text = join_with_byte 32 (w ∷ ws) in
    ap (λ said. filter is_some_text (slice_split is_blank said)) (no_comment text (unhashed_join w ws parts.1))
    ∙ ap (filter is_some_text) (cut_again is_blank 32 43 w ws refl no_blank parts.1)
    ∙ all_pass is_some_text (w ∷ ws) parts.0

call_words : (call : machine.Call) → IsWritable call → words_of (written call) ≡ words_for call
call_words (machine.Open n t proposals initial) h =
    words_again (codes "open") (decimal n ∷ decimal t ∷ written_set initial ∷ map written_figure proposals)
    (and_from _ _ (is_word_number n h.0) (and_from _ _ (is_word_number t h.1) (and_from _ _ (is_word_set initial) (are_words proposals h.3))))
call_words (machine.Seat set) h = words_again (codes "seat") (written_set set ∷ []) (and_from _ _ (is_word_set set) refl)
call_words (machine.Forge sender receiver column cell) h =
    words_again (codes "forge") (decimal sender ∷ decimal receiver ∷ decimal column ∷ written_cell cell ∷ [])
    (and_from _ _ (is_word_number sender h.0) (and_from _ _ (is_word_number receiver h.1) (and_from _ _ (is_word_number column h.2) (and_from _ _ (is_word_cell cell h.3) refl))))
call_words machine.Close h = words_again (codes "close") [] refl
call_words (machine.Decision controller) h = words_again (codes "decision") (decimal controller ∷ []) (and_from _ _ (is_word_number controller h) refl)

number_first_again : (n : ℕ) (ws : List (List ℕ)) → IsNumber n → number_first (decimal n ∷ ws) ≡ Ok (n, ws)
number_first_again n ws h = ap (λ r. ok_or (option_map (λ x. (x, ws)) r) expected.Number) (number_again (2 ^ 64) n h (omega arith))

set_first_again : (set : ℕ) (ws : List (List ℕ)) → IsSet set → set_first (written_set set ∷ ws) ≡ Ok (set, ws)
set_first_again set ws h = ap (λ r. ok_or (option_map (λ x. (x, ws)) r) expected.Set) (set_again set h)

figures_again : (xss : List (List ℕ)) → AllByRecursion IsFigure xss → figures_in (map written_figure xss) ≡ Ok xss
figures_again [] h = refl
figures_again (xs ∷ xss) h = let first = figure_again xs h.0 in let rest = figures_again xss h.1 in search (rules, first, rest)

no_figure : figure_of (codes "empty") ≡ None
no_figure = refl

not_empty : (xs : List ℕ) → IsFigure xs → (b : Bool) → bytes_eq (written_figure xs) (codes "empty") ≡ b → bytes_eq (written_figure xs) (codes "empty") ≡ false
not_empty xs h false e = e
not_empty xs h true e =
    let same = (bytes_eq-Decides (written_figure xs) (codes "empty")).0 e in
    let clash : Some xs ≡ None = sym (figure_again xs h) ∙ ap figure_of same ∙ no_figure in
    absurd (grind (arith, clash))

cell_first_again : (cell : Held) (ws : List (List ℕ)) → IsCell cell → cell_first (written_cell cell ∷ ws) ≡ Ok (cell, ws)
cell_first_again None ws h = refl
cell_first_again (Some xs) ws h = let word = not_empty xs h (bytes_eq (written_figure xs) (codes "empty")) refl in let cell = figure_again xs h in search (rules, word, cell)

pub call_again : (call : machine.Call) → IsWritable call → call_in (words_of (written call)) ≡ Ok call
call_again (machine.Open n t proposals initial) h =
    let a = number_first_again n (decimal t ∷ written_set initial ∷ map written_figure proposals) h.0 in
    let b = number_first_again t (written_set initial ∷ map written_figure proposals) h.1 in
    let c = set_first_again initial (map written_figure proposals) h.2 in
    let d = figures_again proposals h.3 in
    ap call_in (call_words (machine.Open n t proposals initial) h) ∙ search (rules, a, b, c, d)
call_again (machine.Seat set) h = let a = set_first_again set [] h in ap call_in (call_words (machine.Seat set) h) ∙ search (rules, a)
call_again (machine.Forge sender receiver column cell) h =
    let a = number_first_again sender (decimal receiver ∷ decimal column ∷ written_cell cell ∷ []) h.0 in
    let b = number_first_again receiver (decimal column ∷ written_cell cell ∷ []) h.1 in
    let c = number_first_again column (written_cell cell ∷ []) h.2 in
    let d = cell_first_again cell [] h.3 in
    ap call_in (call_words (machine.Forge sender receiver column cell) h) ∙ search (rules, a, b, c, d)
call_again machine.Close h = ap call_in (call_words machine.Close h)
call_again (machine.Decision controller) h = let a = number_first_again controller [] h in ap call_in (call_words (machine.Decision controller) h) ∙ search (rules, a)

-- A first line.
stamped_words : (n : ℕ) → list_all is_word (replicate n (codes "stamped")) ≡ true
stamped_words zero = refl
stamped_words (suc n) = stamped_words n

stamps_again : (n : ℕ) → stamps_in (replicate n (codes "stamped")) ≡ Ok n
stamps_again zero = refl
stamps_again (suc n) = ap (λ r. r and_then λ layers. Ok (suc layers)) (stamps_again n)

kind_again : (kind : ValueKind) → (kind_of (kind_word kind) ≡ Some kind) × (is_word (kind_word kind) ≡ true)
kind_again Setpoint = (refl, refl)
kind_again Sheet = (refl, refl)

model_again : (model : Standard) → (model_of (model_word model) ≡ Some model) × (is_word (model_word model) ≡ true)
model_again Aware = (refl, refl)
model_again Unaware = (refl, refl)
model_again Buffered = (refl, refl)
model_again Carried = (refl, refl)
model_again Fixed = (refl, refl)

pub house_again : (h : House) → house_in (words_of (written_house h)) ≡ Ok h
house_again h =
    let kind = kind_again h.kind in
    let model = model_again h.base in
    let stamps = stamps_again h.stamps in
    let word = kind.0 in
    let name = model.0 in
    ap house_in (words_again (kind_word h.kind) (model_word h.base ∷ replicate h.stamps (codes "stamped")) (and_from _ _ kind.1 (and_from _ _ model.1 (stamped_words h.stamps))))
    ∙ search (rules, word, name, stamps)
