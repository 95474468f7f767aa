-- A collecting round and the deciding round after it, whatever the coordinator's number.
use Rattle.std.proofs.Common.{◌≡◌, ℕ, suc, ◌+◌, ◌<◌, true, List, Some, None, ◌⊎◌, refl, ap, arith}
use Rattle.std.proofs.Math.Path.{fun_ext}
use Rattle.std.specs.Option.{unwrap_or}
use Rattle.models.specs.declared.classes.Class.{Class}
use Rattle.models.specs.declared.classes.Class.TheVariants.{Honest}
use Rattle.models.specs.declared.classes.Counts.{Counts}
use Rattle.models.specs.Laws.{not_honest, free, forger}
use Rattle.values.specs.Cells.{Held, holds, holders}
use Rattle.values.proofs.Alike.{alike_tells}
use Rattle.protocol.specs.Rounds.{told, held_by, candidate, settled}
use Rattle.protocol.proofs.Counting.{count_cover, count_all, count_witness}
use Rattle.protocol.proofs.Choosing.{holds_is, held_least, held_only}
use Rattle.protocol.proofs.Hearing.{Behave, honest_holder, held_kept}

-- In the collecting round honest senders sent `v`, uniform ones the forged `same1`, and free ones the forged `apart1`,
-- which goes by receiver and sender. In the deciding round that is `row`, `same2` and, for one receiver, `apart`; and
-- whoever is honest in it noted down as its row what it heard in the collecting round.
module _ (n : ℕ) (most : Counts) (big : most.b + most.e + most.l < n) (class1 class2 : ℕ → Class) (k1 : Behave n most class1) (k2 : Behave n most class2)
    (v same1 : ℕ → Held) (apart1 row same2 : ℕ → ℕ → Held)
    (noted : (j : ℕ) → j < n → class2 j ≡ Honest → (k : ℕ) → row j k ≡ told (class1 k) (v k) (same1 k) (apart1 j k)) where
  abbrev pub grid : (ℕ → ℕ → Held) → ℕ → ℕ → Held
  grid apart j k = told (class2 j) (row j k) (same2 j k) (apart j k)

  abbrev pub candidates : (ℕ → ℕ → Held) → ℕ → Held
  candidates apart = candidate n most (grid apart)

  -- a candidate is a value in the row of an honest sender
  in_a_row : (apart : ℕ → ℕ → Held) (k : ℕ) (x : List ℕ) → candidates apart k ≡ Some x → (j : ℕ) × (j < n) × (class2 j ≡ Honest) × (row j k ≡ Some x)
  in_a_row apart k x e =
      honest_holder n most big class2 k2 (λ j. row j k) (λ j. same2 j k) (λ j. apart j k) x (held_least (suc most.l) (λ j. grid apart j k) n x e)

  -- a value that more than l columns hold, each in an honest sender's row, was sent by an honest one when collecting
  held_before : (cells : ℕ → Held) (x : List ℕ) → ((k : ℕ) → cells k ≡ Some x → (j : ℕ) × (j < n) × (class2 j ≡ Honest) × (row j k ≡ Some x))
      → most.l < holders cells n x → (k : ℕ) × (k < n) × (class1 k ≡ Honest) × (v k ≡ Some x)
  unfolding told
  held_before cells x each many =
      let w = count_witness (λ k. holds x (cells k)) (λ k. forger (class1 k)) n (omega (arith, k1.forgers)) in
      let s = each w.0 (holds_is x (cells w.0) w.2) in
      let r = noted s.0 s.1 s.2 w.0 in
      let f : (class1 w.0 ≡ Honest) × (v w.0 ≡ Some x) = grind arith in
      (w.0, w.1, f.0, f.1)

  -- the coordinator c is honest in the deciding round; and before the collecting round, all who are honest in that
  -- round held one value at most
  module _ (c : ℕ) (c_in : c < n) (c_honest : class2 c ≡ Honest)
      (one : (j k : ℕ) → j < n → k < n → class1 j ≡ Honest → class1 k ≡ Honest → (x y : List ℕ) → v j ≡ Some x → v k ≡ Some y → x ≡ y) where
    -- who is not free told two receivers the same
    told_both : (r s : Held) (x : List ℕ) (m : Class) (own same f g : Held) → r ≡ told m own same f → s ≡ told m own same g → r ≡ Some x → (holds x s ≡ true) ⊎ (free m ≡ true)
    unfolding told holds
    told_both r s x m own same f g e1 e2 e3 = grind (arith, alike_tells)

    -- what anybody takes from the candidates, the coordinator's row gives as well
    row_gives : (apart : ℕ → ℕ → Held) (x : List ℕ) → held_by (suc (most.l + most.e)) (candidates apart) n ≡ Some x → held_by (suc most.l) (row c) n ≡ Some x
    row_gives apart x e =
        let many = held_least (suc (most.l + most.e)) (candidates apart) n x e in
        held_only (suc most.l) (row c) n (omega arith) x
        (omega (
          arith,
          k1.frees,
          count_cover (λ k. holds x (candidates apart k)) (λ k. holds x (row c k)) (λ k. free (class1 k)) n (λ k lt t.
              let s = in_a_row apart k x (holds_is x (candidates apart k) t) in
              told_both (row s.0 k) (row c k) x (class1 k) (v k) (same1 k) (apart1 s.0 k) (apart1 c k) (noted s.0 s.1 s.2 k) (noted c c_in c_honest k) s.3),
        ))
        (λ y more.
        let p = held_before (row c) y (λ k s. (c, c_in, c_honest, s)) more in
        let q = held_before (candidates apart) x (λ k s. in_a_row apart k x s) (omega arith) in
        one p.0 q.0 p.1 q.1 p.2 q.2 y x p.3 q.3)

    -- so everybody settles on what the coordinator's row gives, or on the fallback
    pub coordinated : (fallback : List ℕ) (apart : ℕ → ℕ → Held)
        → settled n most fallback (candidates apart) (grid apart c) ≡ unwrap_or (held_by (suc most.l) (row c) n) fallback
    unfolding told
    coordinated fallback apart = go (held_by (suc (most.l + most.e)) (candidates apart) n) refl
      where
        heard_row : grid apart c ≡ row c
        heard_row = fun_ext (λ k. rw c_honest)

        go : (a : Held) → held_by (suc (most.l + most.e)) (candidates apart) n ≡ a
            → unwrap_or a (unwrap_or (held_by (suc most.l) (grid apart c) n) fallback) ≡ unwrap_or (held_by (suc most.l) (row c) n) fallback
        go (Some x) e = let s = row_gives apart x e in rw s
        go None e = ap (λ (r : ℕ → Held). unwrap_or (held_by (suc most.l) r n) fallback) heard_row

  -- what all who were honest in the collecting round held before it
  module _ (w : List ℕ) (all : (k : ℕ) → k < n → class1 k ≡ Honest → v k ≡ Some w) where
    candidate_kept : (apart : ℕ → ℕ → Held) (k : ℕ) → k < n → class1 k ≡ Honest → candidates apart k ≡ Some w
    unfolding told
    candidate_kept apart k lt h =
        held_kept n most big class2 k2 (λ j. row j k) (λ j. same2 j k) (λ j. apart j k) w
        (λ j lt' h'. let r = noted j lt' h' k in let a = all k lt h in grind arith) (suc most.l) (omega arith) (omega arith)

    -- everybody settles on it, whoever coordinates
    pub settled_kept : (fallback : List ℕ) (apart : ℕ → ℕ → Held) (coordinator_row : ℕ → Held) → settled n most fallback (candidates apart) coordinator_row ≡ w
    unfolding holds
    settled_kept fallback apart coordinator_row =
        let d : held_by (suc (most.l + most.e)) (candidates apart) n ≡ Some w = held_only (suc (most.l + most.e)) (candidates apart) n (omega arith) w
        (omega (
          arith,
          k1.faults,
          count_all (λ k. not_honest (class1 k)) (λ k. holds w (candidates apart k)) n (λ k lt. let f = candidate_kept apart k lt in grind (arith, alike_tells)),
        ))
        (λ y many.
        let p = held_before (candidates apart) y (λ k s. in_a_row apart k y s) (omega arith) in
        let a = all p.0 p.1 p.2 in grind arith) in
        rw d
