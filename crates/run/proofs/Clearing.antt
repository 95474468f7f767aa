-- One row of several is emptied.
use Rattle.std.proofs.Common.{rules, ◌≡◌, ℕ, ◌+◌, ◌-◌, ◌*◌, ◌<◌, ◌≤◌, Bool, true, false, nat_eq, cond, arith, refl, sym, ap, ◌∙◌, List, None, Option, length, get_or, replicate, ⊎_elim}
use Rattle.std.proofs.lemmas.Bool.{cases_lt, cases_eq}
use Rattle.std.proofs.lemmas.Bool.Decides.{nat_tests}
use Rattle.std.proofs.lemmas.List.{places}
use Rattle.std.proofs.lemmas.Nat.{row_fits}
use Rattle.values.specs.Rules.{Rules}
use Rattle.values.specs.Cells.{shows, seen}
use Rattle.values.proofs.Seen.{seen_is}
use borrow.Rule.Slice.PartMut.{put_mid}

-- the rows when one of them was written
abbrev pub after : {R : Type 0} (n controller : ℕ) (rows cleared : List (Option R)) → List (Option R)
after n controller rows cleared = put_mid (controller * n) (controller * n + n - controller * n) rows cleared

module _ {R : Type 0} (n controller : ℕ) (rows cleared : List (Option R)) (in_block : controller < n) (size : length rows ≡ n * n) (empty : cleared ≡ replicate n None) where
  abbrev now : ℕ → Option R
  now place = get_or (after n controller rows cleared) place None

  abbrev was : ℕ → Option R
  was place = get_or rows place None

  fits : controller * n + n ≤ n * n
  fits = row_fits controller n n n in_block (omega arith)

  in_row : (j : ℕ) → j < n → now (controller * n + j) ≡ None
  in_row j lt = rw empty (search (rules, places))

  row_cleared : (i j : ℕ) → i < n → j < n → now (i * n + j) ≡ cond (nat_eq i controller) None (was (i * n + j))
  row_cleared i j i_below j_below = ⊎_elim here (λ ne. ⊎_elim (below ne) (above ne) (cases_lt i controller)) (cases_eq i controller)
    where
      here : i ≡ controller → now (i * n + j) ≡ cond (nat_eq i controller) None (was (i * n + j))
      here e = let at = in_row j j_below in grind (arith, nat_tests)

      below : ¬ (i ≡ controller) → i < controller → now (i * n + j) ≡ cond (nat_eq i controller) None (was (i * n + j))
      below ne lt =
          let before : i * n + n ≤ controller * n = row_fits i n controller n lt (omega arith) in
          let at : now (i * n + j) ≡ was (i * n + j) = search (rules, places) in
          grind (arith, nat_tests)

      above : ¬ (i ≡ controller) → controller ≤ i → now (i * n + j) ≡ cond (nat_eq i controller) None (was (i * n + j))
      above ne ge =
          let behind : controller * n + n ≤ i * n = row_fits controller n i n (omega arith) (omega arith) in
          let at : now (i * n + j) ≡ was (i * n + j) = search (rules, places) in
          grind (arith, nat_tests)

shown_unless : {R : Type 0} (k : Rules) (plain : R → List ℕ) (test : Bool) (cells : List (Option R)) (i : ℕ) → shows k plain (cond test None (get_or cells i None)) ≡ cond test None (seen k plain cells i)
shown_unless k plain true cells i = refl
shown_unless k plain false cells i = sym (seen_is k plain cells i)

-- the same of what the cells show
pub row_shown : {R : Type 0} (k : Rules) (plain : R → List ℕ) (n controller m : ℕ) (rows cleared : List (Option R)) → controller < n → length rows ≡ n * n → cleared ≡ replicate m None → m ≡ n
    → (i j : ℕ) → i < n → j < n → seen k plain (after n controller rows cleared) (i * n + j) ≡ cond (nat_eq i controller) None (seen k plain rows (i * n + j))
row_shown k plain n controller m rows cleared in_block size empty m_is i j i_below j_below =
    seen_is k plain (after n controller rows cleared) (i * n + j)
    ∙ ap (shows k plain) (row_cleared n controller rows cleared in_block size (empty ∙ ap (λ m. replicate m None) m_is) i j i_below j_below)
    ∙ shown_unless k plain (nat_eq i controller) rows (i * n + j)
