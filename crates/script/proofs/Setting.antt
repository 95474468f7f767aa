-- The text of a set, member by member.
use Rattle.std.proofs.Common.{◌≡◌, ℕ, ◌+◌, Bool, true, false, if◌then◌else◌, List, [], ◌∷◌, ◌++◌, length, map, decimal, ◌==◌, refl, ap, sym, ◌∙◌, arith, append_assoc, append-nil, add-one}
use Rattle.std.specs.List.{join_with_byte}
use Rattle.models.specs.Sets.{has}
use Rattle.script.specs.Written.{members_below}

-- the numbers of a list with a comma between two
abbrev pub joined : List ℕ → List ℕ
joined xs = join_with_byte 44 (map decimal xs)

abbrev pub behind : (first : Bool) → ℕ → List ℕ
behind first x = (if first then [] else 44 ∷ []) ++ decimal x

not_none : (x : ℕ) (xs : List ℕ) → (length (x ∷ xs) == 0) ≡ false
not_none x xs = grind arith

one_more : (xs : List ℕ) (x : ℕ) → joined (xs ++ x ∷ []) ≡ joined xs ++ behind (length xs == 0) x
one_more [] x = refl
one_more (y ∷ []) x = refl
one_more (y ∷ z ∷ xs) x =
    ap (λ rest. decimal y ++ (44 ∷ rest)) (one_more (z ∷ xs) x ∙ ap (λ first. joined (z ∷ xs) ++ behind first x) (not_none z xs ∙ sym (not_none y (z ∷ xs))))
    ∙ sym (append_assoc (decimal y) (44 ∷ joined (z ∷ xs)) (behind (length (y ∷ z ∷ xs) == 0) x))

grown : (set n : ℕ) (b : Bool) → has set n ≡ b → members_below (n + 1) set ≡ members_below n set ++ (if b then n ∷ [] else [])
unfolding members_below
grown set n b h = ap (λ m. members_below m set) (add-one n) ∙ ap (λ b. members_below n set ++ (if b then n ∷ [] else [])) h

pub with_member : (set n : ℕ) (old was now : List ℕ) (first : Bool) → has set n ≡ true → first ≡ (length (members_below n set) == 0)
    → was ≡ old ++ (123 ∷ joined (members_below n set)) → now ≡ was ++ behind first n → now ≡ old ++ (123 ∷ joined (members_below (n + 1) set))
with_member set n old was now first h e w k =
    let ms = members_below n set in
    k ∙ (λ i. w i ++ behind (e i) n) ∙ append_assoc old (123 ∷ joined ms) (behind (length ms == 0) n)
    ∙ ap (λ text. old ++ (123 ∷ text)) (sym (one_more ms n) ∙ ap joined (sym (grown set n true h)))

some : (xs : List ℕ) (x : ℕ) → (length (xs ++ x ∷ []) == 0) ≡ false
some [] x = not_none x []
some (y ∷ xs) x = not_none y (xs ++ x ∷ [])

pub not_first : (set n : ℕ) → has set n ≡ true → false ≡ (length (members_below (n + 1) set) == 0)
not_first set n h = sym (ap (λ ms. length ms == 0) (grown set n true h) ∙ some (members_below n set) n)

pub without_member : (set n : ℕ) → has set n ≡ false → members_below (n + 1) set ≡ members_below n set
without_member set n h = grown set n false h ∙ append-nil _

pub no_members : (set : ℕ) → members_below 0 set ≡ []
unfolding members_below
no_members set = refl
