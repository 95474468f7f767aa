-- The chains and the loop of a poll.
use Rattle.std.proofs.Common.{◌≡◌, ℕ, ◌+◌, ◌/◌, ◌%◌, ◌<◌, min, List, [], ◌∷◌, ◌++◌, map, length, get_or, take, None, Some, Option, Bor, sym, refl, ap, ◌∙◌, subst, ap₂, add-one, arith}
use mathlib.Core.List.{map-append}
use Rattle.std.specs.Option.{option_to_list}
use Rattle.std.specs.Slice.Iter.{chunks_rest, chunks_size, chunks_steps}
use Rattle.std.proofs.Math.ListN.{get_or-map}
use Rattle.std.proofs.lemmas.List.{nil_from_length, length-append, take-map}
use Rattle.std.proofs.lemmas.Iterator.{YieldsList}
use Rattle.std.proofs.lemmas.Iterator.Splits.{YieldsList-from_shown_while}
use Rattle.values.specs.Cells.{Held}
use Rattle.poll.specs.declared.polls.Standing.{Standing}
use Rattle.poll.specs.Polls.{pieces, shown, unseen, first_shown, distinct, counted, told}

-- a piece for each two bytes, and for the odd one
pub length-pieces : (input : List ℕ) → length (pieces input) ≡ length input / 2 + min 1 (length input % 2)
length-pieces [] = refl
length-pieces (a ∷ []) = refl
length-pieces (a ∷ b ∷ rest) = omega (arith, length-pieces rest)

-- two bytes, or the one that is left, are a piece
pieces_split : (piece rest : List ℕ) → length piece ≡ min 2 (length piece + length rest) → 0 < length piece + length rest → pieces (piece ++ rest) ≡ piece ∷ pieces rest
pieces_split [] rest e some = absurd (omega arith)
pieces_split (a ∷ []) rest e some = let none = nil_from_length rest (omega arith) in ap (λ r. pieces (a ∷ r)) none ∙ ap (λ r. (a ∷ []) ∷ pieces r) (sym none)
pieces_split (a ∷ b ∷ []) rest e some = refl
pieces_split (a ∷ b ∷ c ∷ more) rest e some = absurd (omega arith)

-- what `chunks` gives
pub pieces_yielded : (s : _) (input : List ℕ) → chunks_rest s ≡ input → chunks_size s ≡ 2 → YieldsList (chunks_steps {A = ℕ}) (λ x. x.now) s (pieces input)
pieces_yielded s input rest size = subst (λ xs. YieldsList chunks_steps (λ x. x.now) s (pieces xs)) rest (YieldsList-from_shown_while chunks_steps (λ x. x.now) (λ t. pieces (chunks_rest t)) (λ t. chunks_size t ≡ 2) none some s size)
  where
    none : (t u : _) → chunks_size t ≡ 2 → chunks_steps {A = ℕ} t None u → length (pieces (chunks_rest t)) ≡ 0
    none t u two h = ap (λ xs. length (pieces xs)) (nil_from_length (chunks_rest t) h.1.0)

    some : (t : _) (x : Bor (List ℕ)) (u : _) → chunks_size t ≡ 2 → chunks_steps {A = ℕ} t (Some x) u → (chunks_size u ≡ 2) × (pieces (chunks_rest t) ≡ x.now ∷ pieces (chunks_rest u))
    some t x u two h =
        let long : length (chunks_rest t) ≡ length x.now + length (chunks_rest u) = ap length h.1.0 ∙ length-append x.now (chunks_rest u) in
        (h.0 ∙ two, ap pieces h.1.0 ∙ pieces_split x.now (chunks_rest u) (h.1.1 ∙ ap (λ k. min k (length (chunks_rest t))) two ∙ ap (min 2) long) (omega (arith, h.1.2)))

-- the value that appears first at a place, by the cell there and the cells before it
pub shown_at : (cells : List (Option ℕ)) (i : ℕ) → unseen (map shown (take i cells)) (shown (get_or cells i None)) ≡ first_shown (map shown cells) i
shown_at cells i = sym (ap₂ unseen (take-map shown i cells) (get_or-map shown cells i None))

-- one turn more of the loop over cells
pub standings_more : (cells : List Held) (old new : List Standing) (o : Option Standing) (i : ℕ) → new ≡ old ++ option_to_list o → map told (option_to_list o) ≡ map (counted cells) (first_shown cells i)
    → map told old ≡ map (counted cells) (distinct cells i) → map told new ≡ map (counted cells) (distinct cells (i + 1))
standings_more cells old new o i e is before =
    ap (map told) e ∙ map-append told old (option_to_list o) ∙ ap (λ vs. vs ++ map told (option_to_list o)) before ∙ ap (λ vs. map (counted cells) (distinct cells i) ++ vs) is
    ∙ sym (ap (λ k. map (counted cells) (distinct cells k)) (add-one i) ∙ map-append (counted cells) (distinct cells i) (first_shown cells i))
