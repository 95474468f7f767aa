-- What the cells of a list show, place by place and as a list.
use Rattle.std.proofs.Common.{◌≡◌, ℕ, ◌<◌, List, map, Bool, length, get_or, None, Option, count_by, sym, ap, ◌∙◌}
use Rattle.std.proofs.lemmas.List.{get_or-map, length-map}
use Rattle.std.proofs.Math.ListN.{get_or-map as get_or-map-past}
use Rattle.values.specs.Rules.{Rules}
use Rattle.values.specs.Counting.{count}
use Rattle.values.specs.Cells.{Held, shows, seen, holds, differs, holders, others, holders_in, others_in}
use Rattle.values.proofs.Counts.{count_list}

pub seen_at : {R : Type 0} (k : Rules) (plain : R → List ℕ) (cells : List (Option R)) (i : ℕ) (c : Option R) → i < length cells → c ≡ get_or cells i c → seen k plain cells i ≡ shows k plain c
seen_at k plain cells i c lt e = get_or-map (shows k plain) cells i c None lt ∙ ap (shows k plain) (sym e)

pub seen_is : {R : Type 0} (k : Rules) (plain : R → List ℕ) (cells : List (Option R)) (i : ℕ) → seen k plain cells i ≡ shows k plain (get_or cells i None)
seen_is k plain cells i = get_or-map-past (shows k plain) cells i None

-- counting by place and counting in the list give one number
module _ {R : Type 0} (k : Rules) (plain : R → List ℕ) (cells : List (Option R)) where
  count_seen : (q : Held → Bool) → count (λ i. q (seen k plain cells i)) (length cells) ≡ count_by q (map (shows k plain) cells)
  count_seen q = ap (count (λ i. q (seen k plain cells i))) (sym (length-map cells (shows k plain))) ∙ sym (count_list q None (map (shows k plain) cells))

  pub holders_list : (v : List ℕ) → holders (seen k plain cells) (length cells) v ≡ holders_in (map (shows k plain) cells) v
  holders_list v = count_seen (holds v)

  pub others_list : (v : List ℕ) → others (seen k plain cells) (length cells) v ≡ others_in (map (shows k plain) cells) v
  others_list v = count_seen (differs v)
