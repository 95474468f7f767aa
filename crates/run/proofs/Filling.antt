-- Cells that are written one by one, in order.
use Rattle.std.proofs.Common.{◌≡◌, ℕ, ◌+◌, ◌<◌, ◌≤◌, arith, sym, ap, ◌∙◌, List, None, Option, length, set, replicate, ⊎_elim, subst, get_or}
use Rattle.std.proofs.lemmas.Bool.{cases_lt, cases_eq}
use Rattle.std.proofs.lemmas.List.{get_or-set_same, get_or-set_other, get_or_past, get_or-replicate, length-replicate}
use Rattle.std.proofs.Math.Path.{fun_ext}
use Rattle.values.specs.Rules.{Rules}
use Rattle.values.specs.Cells.{Held, shows, seen}
use Rattle.values.proofs.Seen.{seen_is}

module _ {R : Type 0} (k : Rules) (plain : R → List ℕ) where
  pub seen_past : (cells : List (Option R)) (i : ℕ) → length cells ≤ i → seen k plain cells i ≡ None
  seen_past cells i le = seen_is k plain cells i ∙ ap (shows k plain) (get_or_past cells i None le)

  pub seen_empty : (n i : ℕ) → seen k plain (replicate n None) i ≡ None
  seen_empty n i = ⊎_elim (λ lt. seen_is k plain (replicate n None) i ∙ ap (shows k plain) (get_or-replicate n i None None lt)) (λ ge. seen_past (replicate n None) i (omega (arith, length-replicate {A = Option R} n None))) (cases_lt i n)

  pub seen_written : (cells : List (Option R)) (i : ℕ) (cell : Option R) → i < length cells → seen k plain (set cells i cell) i ≡ shows k plain cell
  seen_written cells i cell lt = seen_is k plain (set cells i cell) i ∙ ap (shows k plain) (get_or-set_same cells i cell None lt)

  pub seen_elsewhere : (cells : List (Option R)) (i j : ℕ) (cell : Option R) → ¬ (j ≡ i) → seen k plain (set cells i cell) j ≡ seen k plain cells j
  seen_elsewhere cells i j cell ne = seen_is k plain (set cells i cell) j ∙ ap (shows k plain) (get_or-set_other cells i j cell None ne) ∙ sym (seen_is k plain cells j)

  -- the first i cells show what f says
  abbrev pub Filled : (ℕ → Held) → List (Option R) → ℕ → Type 0
  Filled f cells i = (j : ℕ) → j < i → seen k plain cells j ≡ f j

  pub fill_more : (f : ℕ → Held) (cells : List (Option R)) (i : ℕ) (cell : Option R) → i < length cells → shows k plain cell ≡ f i → Filled f cells i → Filled f (set cells i cell) (i + 1)
  fill_more f cells i cell lt e filled j below = ⊎_elim here other (cases_eq j i)
    where
      here : j ≡ i → seen k plain (set cells i cell) j ≡ f j
      here same = ap (seen k plain (set cells i cell)) same ∙ seen_written cells i cell lt ∙ e ∙ sym (ap f same)

      other : ¬ (j ≡ i) → seen k plain (set cells i cell) j ≡ f j
      other ne = seen_elsewhere cells i j cell ne ∙ filled j (omega arith)

  pub filled_all : (f : ℕ → Held) (cells : List (Option R)) (n : ℕ) → length cells ≡ n → ((j : ℕ) → n ≤ j → f j ≡ None) → Filled f cells n → seen k plain cells ≡ f
  filled_all f cells n size past filled = fun_ext at
    where
      at : (j : ℕ) → seen k plain cells j ≡ f j
      at j = ⊎_elim (filled j) (λ ge. seen_past cells j (omega arith) ∙ sym (past j ge)) (cases_lt j n)

-- what depends on what n cells show, and on their number
pub by_cells : {A : Type 0} (F : (ℕ → Held) → ℕ → A) (x : A) (seen f : ℕ → Held) (size n : ℕ) → x ≡ F seen size → seen ≡ f → size ≡ n → x ≡ F f n
by_cells F x seen f size n is e l = is ∙ ap (λ (cells : ℕ → Held). F cells size) e ∙ ap (F f) l

-- optional places that are written one by one
abbrev pub Placed : (ℕ → Option ℕ → Type 0) → List (Option ℕ) → ℕ → Type 0
Placed P places i = (k : ℕ) → k < i → P k (get_or places k None)

pub place_more : (P : ℕ → Option ℕ → Type 0) (places : List (Option ℕ)) (i : ℕ) (place : Option ℕ) → i < length places → P i place → Placed P places i → Placed P (set places i place) (i + 1)
place_more P places i place lt here placed k below = ⊎_elim same other (cases_eq k i)
  where
    same : k ≡ i → P k (get_or (set places i place) k None)
    same e = subst (λ k. P k (get_or (set places i place) k None)) (sym e) (subst (P i) (sym (get_or-set_same places i place None lt)) here)

    other : ¬ (k ≡ i) → P k (get_or (set places i place) k None)
    other ne = subst (P k) (sym (get_or-set_other places i k place None ne)) (placed k (omega arith))
