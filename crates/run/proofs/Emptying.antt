-- What the members of a set keep is emptied.
use Rattle.std.proofs.Common.{◌≡◌, ℕ, ◌+◌, ◌*◌, ◌<◌, Bool, true, false, nat_eq, nat_lt, cond, ◌&&◌, arith, refl, ap, ◌∙◌, List, [], None, Option, length, set, ⊎_elim, sym}
use Rattle.std.proofs.lemmas.Bool.{cases_lt, cases_eq}
use Rattle.std.proofs.lemmas.Bool.Decides.{nat_tests}
use Rattle.std.proofs.Math.Path.{fun_ext}
use Rattle.values.specs.Rules.{Rules}
use Rattle.values.specs.Cells.{seen}
use Rattle.models.specs.Sets.{has}
use Rattle.protocol.specs.Rounds.{Memory, blank}
use Rattle.run.specs.Stores.{Store, store}
use Rattle.run.specs.Views.{kept_in}
use Rattle.run.specs.Closing.{Empties}
use Rattle.run.proofs.Filling.{seen_written, seen_elsewhere}
use Rattle.run.proofs.Renewing.{memory_is, inside}

module _ {A : Type 0} (p : ℕ → Bool) (i c : ℕ) (x y : A) where
  one_more : p c ≡ true → cond (nat_eq i c) x (cond (nat_lt i c && p i) x y) ≡ cond (nat_lt i (c + 1) && p i) x y
  one_more e = ⊎_elim
      (λ same. let at : p i ≡ true = ap p same ∙ e in grind (arith, nat_tests))
      (λ other. ⊎_elim (λ lt. grind (arith, nat_tests)) (λ ge. grind (arith, nat_tests)) (cases_lt i c))
      (cases_eq i c)

  none_more : p c ≡ false → cond (nat_lt i c && p i) x y ≡ cond (nat_lt i (c + 1) && p i) x y
  none_more e = ⊎_elim
      (λ same. let at : p i ≡ false = ap p same ∙ e in grind (arith, nat_tests))
      (λ other. ⊎_elim (λ lt. grind (arith, nat_tests)) (λ ge. grind (arith, nat_tests)) (cases_lt i c))
      (cases_eq i c)

module _ {R : Type 0} (k : Rules) (plain : R → List ℕ) (n : ℕ) where
  abbrev pub kept : (rows v decisions : List (Option R)) → ℕ → Memory
  kept rows v decisions = kept_in k plain n (record { forged = []; rows = rows; v = v; decisions = decisions })

  module _ (c : ℕ) (in_block : c < n) (rows rows' v decisions : List (Option R)) (v_size : length v ≡ n) (decisions_size : length decisions ≡ n)
      (cleared : (i j : ℕ) → i < n → j < n → seen k plain rows' (i * n + j) ≡ cond (nat_eq i c) None (seen k plain rows (i * n + j))) where
    one_cleared : (i : ℕ) → i < n → (cells : List (Option R)) → length cells ≡ n → seen k plain (set cells c None) i ≡ cond (nat_eq i c) None (seen k plain cells i)
    one_cleared i lt cells size = ⊎_elim
        (λ same. let at = seen_written k plain cells c None (omega arith) in grind (arith, nat_tests))
        (λ other. let at = seen_elsewhere k plain cells c i None other in grind (arith, nat_tests))
        (cases_eq i c)

    emptied : (i : ℕ) → i < n → kept rows' (set v c None) (set decisions c None) i ≡ cond (nat_eq i c) blank (kept rows v decisions i)
    emptied i lt = go (nat_eq i c) refl
      where
        row_is : (b : Bool) → nat_eq i c ≡ b → (j : ℕ) → (kept rows' (set v c None) (set decisions c None) i).row j ≡ (cond b blank (kept rows v decisions i)).row j
        row_is true e j = ⊎_elim (λ below. let at = cleared i j lt below in grind (arith, nat_tests)) (λ above. grind (arith, nat_tests)) (cases_lt j n)
        row_is false e j = ⊎_elim (λ below. let at = cleared i j lt below in grind (arith, nat_tests)) (λ above. grind (arith, nat_tests)) (cases_lt j n)

        cell_is : (b : Bool) → nat_eq i c ≡ b → (cells : List (Option R)) → length cells ≡ n → seen k plain (set cells c None) i ≡ cond b None (seen k plain cells i)
        cell_is b e cells size = one_cleared i lt cells size ∙ ap (λ test. cond test None (seen k plain cells i)) e

        go : (b : Bool) → nat_eq i c ≡ b → kept rows' (set v c None) (set decisions c None) i ≡ cond b blank (kept rows v decisions i)
        go true e = memory_is (inside i n _ _ None lt (cell_is true e v v_size)) (fun_ext (row_is true e)) (inside i n _ _ None lt (cell_is true e decisions decisions_size))
        go false e = memory_is (let at = cell_is false e v v_size in grind (arith, nat_tests)) (fun_ext (row_is false e)) (let at = cell_is false e decisions decisions_size in grind (arith, nat_tests))

  -- the first controllers are done, and those not held by the set stay
  abbrev pub Emptied : (set : ℕ) (rows v decisions rows' v' decisions' : List (Option R)) (done : ℕ) → Type 0
  Emptied members rows v decisions rows' v' decisions' done =
      (i : ℕ) → i < n → kept rows' v' decisions' i ≡ cond (nat_lt i done && has members i) blank (kept rows v decisions i)

  -- one controller more: it is emptied if the set holds it
  module _ (members done : ℕ) (rows0 v0 decisions0 rows v decisions : List (Option R)) (so_far : Emptied members rows0 v0 decisions0 rows v decisions done) (rows' v' decisions' : List (Option R)) (test : Bool) (asked : test ≡ has members done) where
    pub held_more : done < n → length v ≡ n → length decisions ≡ n → test ≡ true
        → ((i j : ℕ) → i < n → j < n → seen k plain rows' (i * n + j) ≡ cond (nat_eq i done) None (seen k plain rows (i * n + j))) → v' ≡ set v done None → decisions' ≡ set decisions done None
        → Emptied members rows0 v0 decisions0 rows' v' decisions' (done + 1)
    held_more in_block v_size decisions_size held cleared v_is decisions_is i lt =
        rw (v_is, decisions_is) (
        emptied done in_block rows rows' v decisions v_size decisions_size cleared i lt
        ∙ ap (cond (nat_eq i done) blank) (so_far i lt)
        ∙ one_more (has members) i done blank (kept rows0 v0 decisions0 i) (sym asked ∙ held))

    pub free_more : test ≡ false → rows' ≡ rows → v' ≡ v → decisions' ≡ decisions → Emptied members rows0 v0 decisions0 rows' v' decisions' (done + 1)
    free_more held rows_are v_is decisions_is i lt = rw (rows_are, v_is, decisions_is) (so_far i lt ∙ none_more (has members) i done blank (kept rows0 v0 decisions0 i) (sym asked ∙ held))

  -- at the end, in the cells
  pub all_emptied : (members done : ℕ) (before after forged rows v decisions rows' v' decisions' : List (Option R)) → store n before ≡ record { forged = forged; rows = rows; v = v; decisions = decisions }
      → store n after ≡ record { forged = forged; rows = rows'; v = v'; decisions = decisions' } → done ≡ n → Emptied members rows v decisions rows' v' decisions' done → Empties k plain n members before after
  all_emptied members done before after forged rows v decisions rows' v' decisions' was is all so_far = record {
    forged = ap (λ (s : Store R). s.forged) is ∙ sym (ap (λ (s : Store R). s.forged) was);
    kept = λ i lt.
        let below : nat_lt i done ≡ true = grind (arith, nat_tests) in
        ap (λ s. kept_in k plain n s i) is ∙ so_far i lt ∙ ap (λ test. cond (test && has members i) blank (kept rows v decisions i)) below ∙ sym (ap (λ s. cond (has members i) blank (kept_in k plain n s i)) was);
  }
