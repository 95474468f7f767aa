-- The cells of a block that is opened.
use Rattle.std.proofs.Common.{◌≡◌, ℕ, ◌+◌, ◌*◌, ◌<◌, ◌≤◌, Bool, true, false, cond, nat_lt, ◌&&◌, arith, refl, sym, ap, ◌∙◌, List, [], ◌∷◌, map, Some, None, Option, length, get_or, ⊎_elim, replicate}
use Rattle.std.proofs.lemmas.Bool.{cases_lt}
use Rattle.std.proofs.lemmas.Bool.Decides.{nat_tests}
use Rattle.std.proofs.lemmas.List.{length-map, get_or-map as get_or-map_in, get_or_past}
use Rattle.std.proofs.Math.Path.{fun_ext}
use Rattle.values.specs.Rules.{Rules, means}
use Rattle.values.specs.Cells.{Held, seen, shows}
use Rattle.models.specs.Sets.{has}
use Rattle.run.specs.Stores.{Store, store}
use Rattle.protocol.specs.Machine.{started}
use Rattle.run.specs.Views.{kept_in}
use Rattle.run.proofs.Filling.{Filled, seen_empty}
use Rattle.run.proofs.Renewing.{memory_is, inside, either_none}

module _ {R : Type 0} (k : Rules) (plain : R → List ℕ) (proposals : List R) where
  abbrev proposed : ℕ → Held
  proposed i = get_or (map Some (map (means k plain) proposals)) i None

  proposal_is : (i : ℕ) → proposed i ≡ get_or (map (λ row. Some (means k plain row)) proposals) i None
  proposal_is i = ap (λ cells. get_or cells i None) (map-map proposals)
    where
      map-map : (rows : List _) → map (λ x. Some x) (map (means k plain) rows) ≡ map (λ row. Some (means k plain row)) rows
      map-map [] = refl
      map-map (x ∷ rows) = ap (◌∷◌ (Some (means k plain x))) (map-map rows)

  proposal_at : (i : ℕ) (row : R) → i < length proposals → row ≡ get_or proposals i row → proposed i ≡ Some (means k plain row)
  proposal_at i row lt e = proposal_is i ∙ get_or-map_in (λ row. Some (means k plain row)) proposals i row None lt ∙ ap (λ row. Some (means k plain row)) (sym e)

  no_proposal : (i : ℕ) → length proposals ≤ i → proposed i ≡ None
  no_proposal i ge = get_or_past _ i None (omega (arith, length-map (map (means k plain) proposals) (λ (x : List ℕ). Some x), length-map proposals (means k plain)))

  not_started : (initial i : ℕ) → length proposals ≤ i → (started (map (means k plain) proposals) initial i).v ≡ None
  not_started initial i ge = go (has initial i)
    where
      go : (member : Bool) → cond member None (proposed i) ≡ None
      go true = refl
      go false = no_proposal i ge

  started_is : (n initial : ℕ) (forged rows v decisions : List (Option R)) → length proposals ≡ n
      → Filled k plain (λ i. (started (map (means k plain) proposals) initial i).v) v n
      → ((i : ℕ) → seen k plain rows i ≡ None) → ((i : ℕ) → seen k plain decisions i ≡ None)
      → kept_in k plain n (record { forged = forged; rows = rows; v = v; decisions = decisions }) ≡ started (map (means k plain) proposals) initial
  started_is n initial forged rows v decisions size filled no_rows no_decisions = fun_ext at
    where
      at : (c : ℕ) → kept_in k plain n (record { forged = forged; rows = rows; v = v; decisions = decisions }) c ≡ started (map (means k plain) proposals) initial c
      at c = memory_is
          (⊎_elim (λ lt. inside c n _ _ None lt (filled c lt)) (λ ge. let past = not_started initial c (omega arith) in grind (arith, nat_tests)) (cases_lt c n))
          (fun_ext (λ column. either_none (nat_lt c n && nat_lt column n) (no_rows (c * n + column))))
          (either_none (nat_lt c n) (no_decisions c))

  -- the cells of a block that is opened, as its store has them
  pub opens : (n initial : ℕ) (next : List (Option R)) (new : Store R) (i j : ℕ) → store n next ≡ new → length proposals ≡ n
      → Filled k plain (λ i. (started (map (means k plain) proposals) initial i).v) new.v n → new.rows ≡ replicate i None → new.decisions ≡ replicate j None
      → kept_in k plain n (store n next) ≡ started (map (means k plain) proposals) initial
  opens n initial next new i j is size filled no_rows no_decisions =
      ap (kept_in k plain n) is
      ∙ started_is n initial new.forged new.rows new.v new.decisions size filled
      (λ c. ap (λ cells. seen k plain cells c) no_rows ∙ seen_empty k plain i c)
      (λ c. ap (λ cells. seen k plain cells c) no_decisions ∙ seen_empty k plain j c)

  -- what is written into v for a member of the initial set, and for another
  pub member_started : (initial i : ℕ) (cell : Option R) (test : Bool) → cell ≡ None → test ≡ has initial i → test ≡ true → shows k plain cell ≡ (started (map (means k plain) proposals) initial i).v
  member_started initial i cell test is asked member = ap (shows k plain) is ∙ ap (λ member. cond member None (proposed i)) (sym member ∙ asked)

  pub other_started : (initial i : ℕ) (cell : Option R) (row : R) (test : Bool) → cell ≡ Some row → test ≡ has initial i → test ≡ false → i < length proposals → row ≡ get_or proposals i row → shows k plain cell ≡ (started (map (means k plain) proposals) initial i).v
  other_started initial i cell row test is asked other lt e = ap (shows k plain) is ∙ sym (proposal_at i row lt e) ∙ ap (λ member. cond member None (proposed i)) (sym other ∙ asked)
