-- The parts that the cells are cut into are those of the store.
use Rattle.std.proofs.Common.{◌≡◌, ℕ, ◌+◌, ◌*◌, ◌<◌, ◌≤◌, Bool, true, false, not, nat_lt, cond, ◌&&◌, arith, refl, sym, ap, ◌∙◌, List, ◌++◌, Option, length, get_or, take, drop, ⊎_elim}
use Rattle.std.proofs.Math.Nat.{mul-le-mul_left}
use Rattle.std.proofs.Math.Seq.{drop-append-add}
use Rattle.std.proofs.lemmas.Bool.{cases_lt}
use Rattle.std.proofs.lemmas.Bool.Decides.{nat_tests}
use Rattle.std.proofs.lemmas.List.{take_at, drop_at, take-append-le, drop-append-le, length-drop, get_or_default}
use Rattle.std.proofs.Math.Path.{fun_ext}
use Rattle.values.specs.Rules.{Rules}
use Rattle.values.specs.Cells.{shows, seen}
use Rattle.values.proofs.Seen.{seen_is}
use Rattle.models.specs.Sets.{has}
use Rattle.protocol.specs.Rounds.{blank}
use Rattle.protocol.specs.Machine.{needed}
use Rattle.run.specs.declared.turns.Block.{Block}
use Rattle.run.specs.declared.turns.Seating.{Seating}
use Rattle.run.specs.Stores.{Store, store}
use Rattle.run.specs.Views.{kept_in}
use Rattle.run.specs.Closing.{renewed, left, Renews, Empties}
use Rattle.run.proofs.Renewing.{memory_is, inside}

-- no block needs more cells than the largest
pub most_cells : (n : ℕ) → n ≤ 16 → n * n * n + n * n + 2 * n + (n * n + 3 * n) ≤ 4688
most_cells n le =
    let square : n * n ≤ n * 16 = mul-le-mul_left n le in
    let cube : n * n * n ≤ n * n * 16 = mul-le-mul_left (n * n) le in
    omega arith

skip : {A : Type 0} (m k : ℕ) (xs ys : List A) → length xs ≡ m → drop (m + k) (xs ++ ys) ≡ drop k ys
skip m k xs ys size = ap (λ m. drop (m + k) (xs ++ ys)) (sym size) ∙ drop-append-add xs ys k

-- past the needed cells lies what comes past the work cells after the parts
past_parts : {A : Type 0} (n : ℕ) (forged rows v decisions behind : List A) → length forged ≡ n * n * n → length rows ≡ n * n → length v ≡ n → length decisions ≡ n
    → drop (needed n) (forged ++ (rows ++ (v ++ (decisions ++ behind)))) ≡ drop (n * n + 3 * n) behind
past_parts n forged rows v decisions behind forged_size rows_size v_size decisions_size =
    let work = n * n + 3 * n in
    let sum : needed n ≡ n * n * n + (n * n + (n + (n + work))) = omega arith in
    ap (λ m. drop m (forged ++ (rows ++ (v ++ (decisions ++ behind))))) sum
    ∙ skip (n * n * n) (n * n + (n + (n + work))) forged _ forged_size
    ∙ skip (n * n) (n + (n + work)) rows _ rows_size
    ∙ skip n (n + work) v _ v_size
    ∙ skip n work decisions behind decisions_size

-- cells that are cut into parts
module _ {R : Type 0} (n : ℕ) (forged rows v decisions behind : List (Option R)) {cells behind1 behind2 behind3 : List (Option R)} (cut1 : cells ≡ forged ++ behind1) (cut2 : behind1 ≡ rows ++ behind2) (cut3 : behind2 ≡ v ++ behind3) (cut4 : behind3 ≡ decisions ++ behind)
    (forged_size : length forged ≡ n * n * n) (rows_size : length rows ≡ n * n) (v_size : length v ≡ n) (decisions_size : length decisions ≡ n) where
  behind1_is : drop (n * n * n) cells ≡ behind1
  behind1_is = ap (drop (n * n * n)) cut1 ∙ drop_at forged behind1 (n * n * n) forged_size

  behind2_is : drop (n * n) (drop (n * n * n) cells) ≡ behind2
  behind2_is = ap (drop (n * n)) (behind1_is ∙ cut2) ∙ drop_at rows behind2 (n * n) rows_size

  behind3_is : drop n (drop (n * n) (drop (n * n * n) cells)) ≡ behind3
  behind3_is = ap (drop n) (behind2_is ∙ cut3) ∙ drop_at v behind3 n v_size

  pub store_is : store n cells ≡ record { forged = forged; rows = rows; v = v; decisions = decisions }
  store_is =
      rw (
        ap (take (n * n * n)) cut1 ∙ take_at forged behind1 (n * n * n) forged_size,
        ap (take (n * n)) (behind1_is ∙ cut2) ∙ take_at rows behind2 (n * n) rows_size,
        ap (take n) (behind2_is ∙ cut3) ∙ take_at v behind3 n v_size,
        ap (take n) (behind3_is ∙ cut4) ∙ take_at decisions behind n decisions_size,
      ) refl

  joined : cells ≡ forged ++ (rows ++ (v ++ (decisions ++ behind)))
  joined = cut1 ∙ ap (forged ++◌) (cut2 ∙ ap (rows ++◌) (cut3 ∙ ap (v ++◌) cut4))

  -- what lies past the needed cells stays when parts are written
  pub past_stays : (forged' rows' v' decisions' : List (Option R)) → length forged' ≡ n * n * n → length rows' ≡ n * n → length v' ≡ n → length decisions' ≡ n
      → drop (needed n) (forged' ++ (rows' ++ (v' ++ (decisions' ++ behind)))) ≡ drop (needed n) cells
  past_stays forged' rows' v' decisions' forged_size' rows_size' v_size' decisions_size' =
      past_parts n forged' rows' v' decisions' behind forged_size' rows_size' v_size' decisions_size'
      ∙ sym (past_parts n forged rows v decisions behind forged_size rows_size v_size decisions_size)
      ∙ sym (ap (drop (needed n)) joined)

-- a guard that is passed, and one that is not
passed : {A : Type 0} (test seated : Bool) (x y : A) → test ≡ true → cond seated y x ≡ cond (test && not seated) x y
passed test true x y e = rw e refl
passed test false x y e = rw e refl

not_passed : {A : Type 0} (test seated : Bool) (x y : A) → test ≡ false → y ≡ cond (test && not seated) x y
not_passed test seated x y e = rw e refl

module _ {R : Type 0} (k : Rules) (plain : R → List ℕ) (b : Block) (seating : Seating) (old new : Store R)
    (in_block : (i : ℕ) → i < b.n → kept_in k plain b.n new i ≡ cond (has seating.set.0 i) blank (renewed k plain b seating old i)) where
  pub left_is : kept_in k plain b.n new ≡ left k plain b seating old
  left_is = fun_ext at
    where
      beyond : (i : ℕ) → b.n ≤ i → kept_in k plain b.n new i ≡ blank
      beyond i ge = memory_is (grind (arith, nat_tests)) (fun_ext (λ column. grind (arith, nat_tests))) (grind (arith, nat_tests))

      at : (i : ℕ) → kept_in k plain b.n new i ≡ left k plain b seating old i
      at i = ⊎_elim
          (λ lt. in_block i lt ∙ passed (nat_lt i b.n) (has seating.set.0 i) (renewed k plain b seating old i) blank (grind (arith, nat_tests)))
          (λ ge. beyond i ge ∙ not_passed (nat_lt i b.n) (has seating.set.0 i) (renewed k plain b seating old i) blank (grind (arith, nat_tests)))
          (cases_lt i b.n)

-- a decision is read where the decisions lie
pub decision_is : {R : Type 0} (k : Rules) (plain : R → List ℕ) (n i : ℕ) (cells decisions : List (Option R)) (cell : Option R) → i < n → (store n cells).decisions ≡ decisions → i < length decisions → cell ≡ get_or decisions i cell
    → shows k plain cell ≡ (kept_in k plain n (store n cells) i).decision
decision_is k plain n i cells decisions cell lt is in_cells e =
    sym (inside i n _ _ _ lt (ap (λ cells. seen k plain cells i) is ∙ seen_is k plain decisions i ∙ ap (shows k plain) (get_or_default decisions i _ cell in_cells ∙ sym e)))

-- the parts lie in the cells that are kept, whatever comes after them
module _ {R : Type 0} (n : ℕ) (kept work : List (Option R)) (size : length kept ≡ n * n * n + n * n + 2 * n) where
  store_front : store n (kept ++ work) ≡ store n kept
  store_front =
      let after1 : drop (n * n * n) (kept ++ work) ≡ drop (n * n * n) kept ++ work = drop-append-le (n * n * n) kept work (omega arith) in
      let left1 : length (drop (n * n * n) kept) ≡ n * n + 2 * n = omega (arith, length-drop (n * n * n) kept) in
      let after2 : drop (n * n) (drop (n * n * n) (kept ++ work)) ≡ drop (n * n) (drop (n * n * n) kept) ++ work = ap (drop (n * n)) after1 ∙ drop-append-le (n * n) (drop (n * n * n) kept) work (omega arith) in
      let left2 : length (drop (n * n) (drop (n * n * n) kept)) ≡ 2 * n = omega (arith, length-drop (n * n) (drop (n * n * n) kept)) in
      let after3 : drop n (drop (n * n) (drop (n * n * n) (kept ++ work))) ≡ drop n (drop (n * n) (drop (n * n * n) kept)) ++ work = ap (drop n) after2 ∙ drop-append-le n (drop (n * n) (drop (n * n * n) kept)) work (omega arith) in
      let left3 : length (drop n (drop (n * n) (drop (n * n * n) kept))) ≡ n = omega (arith, length-drop n (drop (n * n) (drop (n * n * n) kept))) in
      rw (
        take-append-le (n * n * n) kept work (omega arith),
        ap (take (n * n)) after1 ∙ take-append-le (n * n) (drop (n * n * n) kept) work (omega arith),
        ap (take n) after2 ∙ take-append-le n (drop (n * n) (drop (n * n * n) kept)) work (omega arith),
        ap (take n) after3 ∙ take-append-le n (drop n (drop (n * n) (drop (n * n * n) kept))) work (omega arith),
      ) refl

  past_front : (k : ℕ) → needed n ≡ n * n * n + n * n + 2 * n + k → drop (needed n) (kept ++ work) ≡ drop k work
  past_front k sum = ap (λ m. drop m (kept ++ work)) sum ∙ skip (n * n * n + n * n + 2 * n) k kept work size

-- a close: what was computed, and then emptied
module _ {R : Type 0} (k : Rules) (plain : R → List ℕ) (b : Block) (seating : Seating) (work rest work' : List (Option R)) {cells kept mid new behind : List (Option R)} (cut1 : cells ≡ kept ++ behind) (cut2 : behind ≡ work ++ rest)
    (kept_size : length kept ≡ b.n * b.n * b.n + b.n * b.n + 2 * b.n) (work_size : length work ≡ b.n * b.n + 3 * b.n) (work_size' : length work' ≡ b.n * b.n + 3 * b.n)
    (new_size : length new ≡ b.n * b.n * b.n + b.n * b.n + 2 * b.n) (renews : Renews k plain b seating kept mid) (empties : Empties k plain b.n seating.set.0 mid new) where
  was : store b.n cells ≡ store b.n kept
  was = ap (store b.n) cut1 ∙ store_front b.n kept behind kept_size

  pub close_forged : (store b.n (new ++ (work' ++ rest))).forged ≡ (store b.n cells).forged
  close_forged = ap (λ (s : Store R). s.forged) (store_front b.n new (work' ++ rest) new_size) ∙ empties.forged ∙ renews.forged ∙ sym (ap (λ (s : Store R). s.forged) was)

  pub close_kept : kept_in k plain b.n (store b.n (new ++ (work' ++ rest))) ≡ left k plain b seating (store b.n cells)
  close_kept =
      ap (kept_in k plain b.n) (store_front b.n new (work' ++ rest) new_size)
      ∙ left_is k plain b seating (store b.n kept) (store b.n new) (λ i lt. empties.kept i lt ∙ ap (cond (has seating.set.0 i) blank) (renews.kept i lt))
      ∙ sym (ap (left k plain b seating) was)

  -- what comes after the work cells lies past the needed ones
  behind_work : (xs : List (Option R)) → length xs ≡ b.n * b.n + 3 * b.n → drop (b.n * b.n + 3 * b.n + 0) (xs ++ rest) ≡ rest
  behind_work xs size = skip (b.n * b.n + 3 * b.n) 0 xs rest size

  pub close_past : drop (needed b.n) (new ++ (work' ++ rest)) ≡ drop (needed b.n) cells
  close_past =
      let sum : needed b.n ≡ b.n * b.n * b.n + b.n * b.n + 2 * b.n + (b.n * b.n + 3 * b.n + 0) = omega arith in
      past_front b.n new (work' ++ rest) new_size (b.n * b.n + 3 * b.n + 0) sum
      ∙ behind_work work' work_size'
      ∙ sym (behind_work work work_size)
      ∙ sym (ap (drop (b.n * b.n + 3 * b.n + 0)) cut2)
      ∙ sym (past_front b.n kept behind kept_size (b.n * b.n + 3 * b.n + 0) sum)
      ∙ sym (ap (drop (needed b.n)) cut1)
