-- A course of rounds. Whoever is seated, and whatever is forged, one value is kept from the phase of a clean
-- coordinator on, and a value that all honest controllers begin with is kept from the start. Nothing here names a
-- model: `Obeys` is all that is known of one.
use Rattle.std.proofs.Common.{◌≡◌, ℕ, zero, suc, ◌+◌, ◌-◌, ◌*◌, ◌/◌, ◌%◌, ◌<◌, ◌≤◌, Bool, false, List, Some, None, refl, sym, ap, ◌∙◌, subst, ⊎_elim, arith}
use Rattle.std.proofs.lemmas.Bool.{cases_lt}
use Rattle.std.proofs.lemmas.Bool.Decides.{nat_tests}
use Rattle.std.specs.Option.{unwrap_or}
use Rattle.models.specs.declared.classes.Class.{Class}
use Rattle.models.specs.declared.classes.Class.TheVariants.{Honest}
use Rattle.values.specs.Cells.{Held}
use Rattle.protocol.specs.declared.stages.Stage.{Stage}
use Rattle.protocol.specs.declared.stages.Stage.TheVariants.{Proposing, Collecting, Deciding, Maintaining}
use Rattle.protocol.specs.Stages.{in_phase, stage_of, coordinator_of}
use Rattle.protocol.specs.Rounds.{Terms, Memory, heard, sends, make, closing, held_by, decided}
use Rattle.protocol.proofs.Hearing.{Behave, one_proposal, proposed_kept, maintained_kept}
use Rattle.protocol.proofs.Phase.{coordinated, settled_kept}

-- rounds of one block, each with its seated controllers, classes and forgeries
pub record Course : Type 0 where
  pub terms : Terms
  -- what each controller keeps before round 0
  pub start : ℕ → Memory
  -- how many rounds there are
  pub rounds : ℕ
  -- by round and controller
  pub seated : ℕ → ℕ → Bool
  pub class : ℕ → ℕ → Class
  -- by round, sender, receiver and column
  pub forged : ℕ → ℕ → ℕ → ℕ → Held

-- what is known of the block and its model: n is large enough, few enough misbehave in each round, and who is honest
-- goes by the sets
pub record Obeys (w : Course) : Type 0 where
  pub big : w.terms.counts.b + w.terms.counts.e + w.terms.counts.l < w.terms.n
  pub behave : (r : ℕ) → r < w.rounds → Behave w.terms.n w.terms.counts (w.class r)
  pub left : (r i : ℕ) → suc r < w.rounds → i < w.terms.n → w.class (suc r) i ≡ Honest → w.seated r i ≡ false
  pub stays : (r i : ℕ) → suc r < w.rounds → i < w.terms.n → w.seated r i ≡ false → w.seated (suc r) i ≡ false → w.class (suc r) i ≡ Honest

-- what each controller keeps before round r
unfoldable pub kept : Course → ℕ → ℕ → Memory
kept w zero = w.start
kept w (suc r) = closing w.terms r (w.seated r) (w.class r) (w.forged r) (kept w r)

-- after round r all who are unseated in it hold x as v
abbrev pub Hold : Course → ℕ → List ℕ → Type 0
Hold w r x = (i : ℕ) → i < w.terms.n → w.seated r i ≡ false → (kept w (suc r) i).v ≡ Some x

-- after round r all who are unseated in it have the decision x
abbrev pub Decide : Course → ℕ → List ℕ → Type 0
Decide w r x = (i : ℕ) → i < w.terms.n → w.seated r i ≡ false → (kept w (suc r) i).decision ≡ Some x

-- before round r all who are honest in it hold x as v
abbrev pub Ready : Course → ℕ → List ℕ → Type 0
Ready w r x = (i : ℕ) → i < w.terms.n → w.class r i ≡ Honest → (kept w r i).v ≡ Some x

pub stage_is : (n r k : ℕ) → r < 3 * n → r % 3 ≡ k → stage_of n r ≡ in_phase k
unfolding stage_of
stage_is n r k lt e = grind (arith, nat_tests)

pub stage_late : (n r : ℕ) → 3 * n ≤ r → stage_of n r ≡ Maintaining
unfolding stage_of
stage_late n r ge = grind (arith, nat_tests)

-- what an unseated controller is left with
abbrev made : Course → ℕ → ℕ → Stage → Memory
made w r i stage = make stage w.terms r (kept w r i) (heard (w.class r) (λ j. sends stage (kept w r j)) (w.forged r) i)

next : (w : Course) (r i : ℕ) (stage : Stage) → stage_of w.terms.n r ≡ stage → i < w.terms.n → w.seated r i ≡ false → kept w (suc r) i ≡ made w r i stage
unfolding kept
next w r i stage e lt unseated = grind (arith, nat_tests)

module _ (w : Course) (rules : Obeys w) where
  ready : (r : ℕ) (x : List ℕ) → suc r < w.rounds → Hold w r x → Ready w (suc r) x
  ready r x in_time hold i lt h = hold i lt (rules.left r i in_time lt h)

  -- the phase s, of the rounds r, r + 1 and r + 2
  module _ (s r : ℕ) (s_in : s < w.terms.n) (r_is : r ≡ 3 * s) (in_time : suc (suc r) < w.rounds) where
    next_v : (i : ℕ) → i < w.terms.n → w.seated r i ≡ false → (kept w (suc r) i).v ≡ (made w r i Proposing).v
    next_v i lt unseated = ap (λ (m : Memory). m.v) (next w r i Proposing (stage_is w.terms.n r 0 (omega arith) (omega arith)) lt unseated)

    rows : (j : ℕ) → j < w.terms.n → w.class (suc (suc r)) j ≡ Honest → (k : ℕ) → (kept w (suc (suc r)) j).row k ≡ (made w (suc r) j Collecting).row k
    unfolding make
    rows j lt h k =
        ap (λ (m : Memory). m.row k) (next w (suc r) j Collecting (stage_is w.terms.n (suc r) 1 (omega arith) (omega arith)) lt (rules.left (suc r) j in_time lt h))

    last_v : (i : ℕ) → i < w.terms.n → w.seated (suc (suc r)) i ≡ false
        → (kept w (suc (suc (suc r))) i).v ≡ Some (decided w.terms s (heard (w.class (suc (suc r))) (λ j. (kept w (suc (suc r)) j).row) (w.forged (suc (suc r))) i))
    unfolding make
    last_v i lt unseated =
        let q : suc (suc r) / 3 ≡ s = omega arith in
        rw q at (ap (λ (m : Memory). m.v) (next w (suc (suc r)) i Deciding (stage_is w.terms.n (suc (suc r)) 2 (omega arith) (omega arith)) lt unseated))

    -- after the proposing round all who are honest next hold one value at most
    proposals : (i j : ℕ) → i < w.terms.n → j < w.terms.n → w.class (suc r) i ≡ Honest → w.class (suc r) j ≡ Honest
        → (x y : List ℕ) → (kept w (suc r) i).v ≡ Some x → (kept w (suc r) j).v ≡ Some y → x ≡ y
    unfolding make
    proposals i j lt lt' h h' x y p q =
        one_proposal w.terms.n w.terms.counts rules.big (w.class r) (rules.behave r (omega arith)) (λ k. (kept w r k).v) (λ k. w.forged r k 0 0)
        (λ k. w.forged r k i 0) (λ k. w.forged r k j 0) x y
        (sym (next_v i lt (rules.left r i (omega arith) lt h)) ∙ p) (sym (next_v j lt' (rules.left r j (omega arith) lt' h')) ∙ q)

    -- where the phase's coordinator is unseated in its last two rounds, all who are unseated after it hold one value
    phase_agrees : coordinator_of s < w.terms.n → w.seated (suc r) (coordinator_of s) ≡ false → w.seated (suc (suc r)) (coordinator_of s) ≡ false
        → (x : List ℕ) × Hold w (suc (suc r)) x
    unfolding make
    phase_agrees c_in out1 out2 = (
      unwrap_or (held_by (suc w.terms.counts.l) (kept w (suc (suc r)) (coordinator_of s)).row w.terms.n) w.terms.fallback,
      λ i lt unseated. last_v i lt unseated
          ∙ ap {B = Held} Some (coordinated w.terms.n w.terms.counts rules.big (w.class (suc r)) (w.class (suc (suc r)))
          (rules.behave (suc r) (omega arith)) (rules.behave (suc (suc r)) in_time)
          (λ k. (kept w (suc r) k).v) (λ k. w.forged (suc r) k 0 0) (λ j k. w.forged (suc r) k j 0)
          (λ j. (kept w (suc (suc r)) j).row) (λ j k. w.forged (suc (suc r)) j 0 k) rows
          (coordinator_of s) c_in (rules.stays (suc r) (coordinator_of s) in_time c_in out1 out2) proposals w.terms.fallback (λ j k. w.forged (suc (suc r)) j i k)),
    )

    -- a value that all who are honest begin the phase with, all who are unseated end it with
    phase_keeps : (x : List ℕ) → Ready w r x → Hold w (suc (suc r)) x
    unfolding make
    phase_keeps x all i lt unseated =
        last_v i lt unseated
        ∙ ap {B = Held} Some (settled_kept w.terms.n w.terms.counts rules.big (w.class (suc r)) (w.class (suc (suc r)))
        (rules.behave (suc r) (omega arith)) (rules.behave (suc (suc r)) in_time)
        (λ k. (kept w (suc r) k).v) (λ k. w.forged (suc r) k 0 0) (λ j k. w.forged (suc r) k j 0)
        (λ j. (kept w (suc (suc r)) j).row) (λ j k. w.forged (suc (suc r)) j 0 k) rows
        x proposed_all w.terms.fallback (λ j k. w.forged (suc (suc r)) j i k)
        (heard (w.class (suc (suc r))) (λ j. (kept w (suc (suc r)) j).row) (w.forged (suc (suc r))) i (coordinator_of s)))
      where
        proposed_all : Ready w (suc r) x
        proposed_all k lt' h = next_v k lt' (rules.left r k (omega arith) lt' h)
            ∙ proposed_kept w.terms.n w.terms.counts rules.big (w.class r) (rules.behave r (omega arith)) (λ j. (kept w r j).v) (λ j. w.forged r j 0 0)
            (λ j. w.forged r j k 0) x all

  -- a maintaining round keeps the decision
  lasts : (r : ℕ) (x : List ℕ) → suc r < w.rounds → 3 * w.terms.n ≤ suc r → Decide w r x → Decide w (suc r) x
  unfolding make
  lasts r x in_time late all i lt unseated =
      ap (λ (m : Memory). m.decision) (next w (suc r) i Maintaining (stage_late w.terms.n (suc r) late) lt unseated)
      ∙ maintained_kept w.terms.n w.terms.counts rules.big (w.class (suc r)) (rules.behave (suc r) in_time) (λ j. (kept w (suc r) j).decision) (λ j. w.forged (suc r) j 0 0)
      (λ j. w.forged (suc r) j i 0) x (λ j lt' h. all j lt' (rules.left r j in_time lt' h))

-- the last deciding round copies v into the decision
decides : (w : Course) (r : ℕ) (x : List ℕ) → suc r ≡ 3 * w.terms.n → Hold w r x → Decide w r x
unfolding make
decides w r x end hold i lt unseated =
    let m = next w r i Deciding (stage_is w.terms.n r 2 (omega arith) (omega arith)) lt unseated in
    let h = hold i lt unseated in
    grind (arith, nat_tests)

by_three : ℕ → ℕ → ℕ
by_three zero p = p
by_three (suc d) p = suc (suc (suc (by_three d p)))

by_three_is : (d p : ℕ) → by_three d p ≡ p + 3 * d
unfolding by_three
by_three_is zero p = omega arith
by_three_is (suc d) p = omega (arith, by_three_is d p)

by_one : ℕ → ℕ → ℕ
by_one zero p = p
by_one (suc d) p = suc (by_one d p)

by_one_is : (d p : ℕ) → by_one d p ≡ p + d
unfolding by_one
by_one_is zero p = omega arith
by_one_is (suc d) p = omega (arith, by_one_is d p)

module _ (w : Course) (rules : Obeys w) where
  -- what all who are unseated hold after phase s they hold after each later one
  holds_on : (d s p : ℕ) (x : List ℕ) → p ≡ 3 * s + 2 → s + d < w.terms.n → by_three d p < w.rounds → Hold w p x → Hold w (by_three d p) x
  unfolding by_three
  holds_on zero s p x e lt in_time hold = hold
  holds_on (suc d) s p x e lt in_time hold =
      phase_keeps w rules (s + suc d) (suc (by_three d p)) lt (omega (arith, by_three_is d p)) in_time x
      (ready w rules (by_three d p) x (omega arith) (holds_on d s p x e (omega arith) (omega arith) hold))

  -- and once it is decided, it stays so
  lasts_on : (d p : ℕ) (x : List ℕ) → 3 * w.terms.n ≤ suc p → by_one d p < w.rounds → Decide w p x → Decide w (by_one d p) x
  unfolding by_one
  lasts_on zero p x late in_time all = all
  lasts_on (suc d) p x late in_time all = lasts w rules (by_one d p) x in_time (omega (arith, by_one_is d p)) (lasts_on d p x late (omega arith) all)

  -- so what all who are unseated hold after a phase is the decision, from round 3n - 1 on
  pub ends : (s p : ℕ) (x : List ℕ) → p ≡ 3 * s + 2 → s < w.terms.n → Hold w p x → (r : ℕ) → 3 * w.terms.n ≤ suc r → r < w.rounds → Decide w r x
  ends s p x e lt hold r late in_time =
      let d : ℕ = w.terms.n - suc s in
      let q : ℕ = by_three d p in
      let q_is : suc q ≡ 3 * w.terms.n = omega (arith, by_three_is d p) in
      subst (λ (m : ℕ). Decide w m x) (by_one_is (r - q) q ∙ omega arith)
      (lasts_on (r - q) q x (omega arith) (omega (arith, by_one_is (r - q) q)) (decides w q x q_is (holds_on d s p x e (omega arith) (omega arith) hold)))

  -- with a clean coordinator there is one decision for ever
  pub agreed : (s : ℕ) → coordinator_of s < w.terms.n → s < w.terms.n → w.seated (3 * s + 1) (coordinator_of s) ≡ false → w.seated (3 * s + 2) (coordinator_of s) ≡ false
      → (x : List ℕ) × ((r : ℕ) → 3 * w.terms.n ≤ suc r → r < w.rounds → Decide w r x)
  agreed s c_in lt out1 out2 = ⊎_elim reached (λ short. (w.terms.fallback, λ r late in_time. absurd (omega arith))) (cases_lt (suc (suc (3 * s))) w.rounds)
    where
      reached : suc (suc (3 * s)) < w.rounds → (x : List ℕ) × ((r : ℕ) → 3 * w.terms.n ≤ suc r → r < w.rounds → Decide w r x)
      reached in_time =
          let f1 : w.seated (suc (3 * s)) (coordinator_of s) ≡ false = subst (λ (m : ℕ). w.seated m (coordinator_of s) ≡ false) (omega arith) out1 in
          let f2 : w.seated (suc (suc (3 * s))) (coordinator_of s) ≡ false = subst (λ (m : ℕ). w.seated m (coordinator_of s) ≡ false) (omega arith) out2 in
          let a = phase_agrees w rules s (3 * s) lt refl in_time c_in f1 f2 in
          (a.0, ends s (suc (suc (3 * s))) a.0 (omega arith) lt a.1)

  -- what all who are honest in round 0 begin with is the decision
  pub kept_from_start : (x : List ℕ) → Ready w 0 x → (r : ℕ) → 3 * w.terms.n ≤ suc r → r < w.rounds → Decide w r x
  unfolding kept
  kept_from_start x all r late in_time =
      ends 0 2 x refl (omega (arith, rules.big)) (phase_keeps w rules 0 0 (omega (arith, rules.big)) refl (omega (arith, rules.big)) x all) r late in_time

-- before the last deciding round is closed, every decision is empty
pub early : (w : Course) → ((i : ℕ) → (w.start i).decision ≡ None) → (r i : ℕ) → r < 3 * w.terms.n → (kept w r i).decision ≡ None
unfolding kept make
early w fresh zero i lt = fresh i
early w fresh (suc r) i lt = nothing (r % 3) refl
  where
    nothing : (k : ℕ) → r % 3 ≡ k → (kept w (suc r) i).decision ≡ None
    nothing zero e = let s = stage_is w.terms.n r zero (omega arith) e in grind (arith, nat_tests)
    nothing (suc zero) e = let s = stage_is w.terms.n r 1 (omega arith) e in grind (arith, nat_tests)
    nothing (suc (suc k)) e = let s = stage_is w.terms.n r (suc (suc k)) (omega arith) e in grind (arith, nat_tests)
