-- A value has one standing if some cell holds it, and else none.
use Rattle.std.proofs.Common.{◌≡◌, ℕ, zero, suc, ◌+◌, ◌<◌, ◌≤◌, min, cond, List, [], ◌∷◌, map, length, get_or, take, Some, None, count_by, sym, refl, ap, ◌∙◌, add-one, arith, take_all}
use Rattle.std.proofs.lemmas.List.Sums.{sum_by-cons, sum_by-append, sum_by_more}
use Rattle.std.proofs.lemmas.Bool.Decides.{nat_tests}
use Rattle.values.specs.Cells.{Held, alike, holds, holders_in}
use Rattle.values.proofs.Alike.{alike_tells}
use Rattle.poll.specs.Polls.{unseen, first_shown, distinct, counted, standings_of, Once}

module _ (v : List ℕ) where
  -- one cell more
  step : (before : List Held) (c : Held) (d : ℕ) → d ≡ min 1 (holders_in before v) → d + count_by (λ w. alike w v) (unseen before c) ≡ min 1 (holders_in before v + cond (holds v c) 1 0)
  unfolding holds
  step before None d e = omega arith
  step before (Some w) d e = let t = alike_tells w v in grind (arith, nat_tests)

  among : (cells : List Held) (n : ℕ) → n ≤ length cells → count_by (λ w. alike w v) (distinct cells n) ≡ min 1 (holders_in (take n cells) v)
  among cells zero le = refl
  among cells (suc n) le =
      let lt : n < length cells = omega arith in
      sum_by-append (λ w. cond (alike w v) 1 0) (distinct cells n) (first_shown cells n)
      ∙ step (take n cells) (get_or cells n None) (count_by (λ w. alike w v) (distinct cells n)) (among cells n (omega arith))
      ∙ ap (min 1) (sym (sum_by_more (λ c. cond (holds v c) 1 0) cells n None lt))
      ∙ ap (λ k. min 1 (holders_in (take k cells) v)) (add-one n)

  same_values : (cells : List Held) (ds : List (List ℕ)) → count_by (λ s. alike s.0 v) (map (counted cells) ds) ≡ count_by (λ w. alike w v) ds
  same_values cells [] = refl
  same_values cells (d ∷ ds) =
      sum_by-cons (λ s. cond (alike s.0 v) 1 0) (counted cells d) (map (counted cells) ds)
      ∙ ap (λ k. cond (alike d v) 1 0 + k) (same_values cells ds)
      ∙ sym (sum_by-cons (λ w. cond (alike w v) 1 0) d ds)

pub once : (cells : List Held) → Once cells (standings_of cells)
once cells v =
    same_values v cells (distinct cells (length cells))
    ∙ among v cells (length cells) (omega arith)
    ∙ ap (λ cs. min 1 (holders_in cs v)) (take_all (length cells) cells (omega arith))
