-- The law of transcripts, from the argument about a course of rounds: an opened block makes one with its rounds.
use Rattle.std.proofs.Common.{◌≡◌, ℕ, zero, suc, ◌*◌, ◌<◌, ◌≤◌, Bool, true, false, cond, List, length, take, Some, None, nat_lt, ⊎_elim, refl, sym, ap, ◌∙◌, subst, arith}
use Rattle.std.proofs.lemmas.Bool.{cases_lt}
use Rattle.std.proofs.lemmas.Bool.Decides.{nat_tests}
use Rattle.values.specs.Cells.{Held}
use Rattle.models.specs.declared.classes.Class.TheVariants.{Honest}
use Rattle.models.specs.Sets.{has}
use Rattle.models.specs.Laws.{Meaning, Few, Move, Kept, Lawful}
use Rattle.protocol.specs.Stages.{coordinator_of}
use Rattle.protocol.specs.Machine.{Setting, Block, Idle, seat_refusal, opened, closed, terms_of}
use Rattle.protocol.specs.Transcripts.{Transcript, Opening, sets, closes, answered, set_of, Clean, HonestProposed, Filled, Agrees, transcript, Agreement}
use Rattle.protocol.proofs.Course.{Course, Obeys, kept, Decide, Ready, early, agreed, kept_from_start}
use Rattle.protocol.proofs.Accepted.{Opens, open_accepted, seat_accepted, decision_accepted, behaves}
use Rattle.protocol.proofs.Calls.{Forged, during, later, Asked, Started, from_idle, quiet}

-- one round more at the end
later_end : (x : Setting) (m : Meaning) (b : Block) (all : ℕ → ℕ) (forged : ℕ → Forged) (k : ℕ)
    → later x m b all forged (suc k) ≡ closed x (later x m b all forged k) (during m (later x m b all forged k) (all k) (forged k))
unfolding later
later_end x m b all forged zero = refl
later_end x m b all forged (suc k) = later_end x m (closed x b (during m b (all 0) (forged 0))) (λ j. all (suc j)) (λ j. forged (suc j)) k

module _ (x : Setting) (m : Meaning) (o : Opening) (all : ℕ → ℕ) (rounds : ℕ) (forged : ℕ → Forged) where
  -- the set of the round before
  abbrev set_before : ℕ → ℕ
  set_before zero = o.initial
  set_before (suc r) = all r

  abbrev start : Block
  start = opened m o.n o.t o.proposals o.initial

  abbrev course : Course
  course = record {
    terms = terms_of x start;
    start = start.memory;
    rounds = rounds;
    seated = λ r. has (all r);
    class = λ r i. cond (nat_lt i o.n) (m.class (set_before r) (all r) o.t i) Honest;
    forged = forged;
  }

  -- the block before round r
  abbrev block : ℕ → Block
  block r = record { n = o.n; t = o.t; counts = m.counts o.t; round = r; last = set_before r; memory = kept course r }

  block_is : (r : ℕ) → later x m start all forged r ≡ block r
  unfolding later kept
  block_is zero = refl
  block_is (suc r) = later_end x m start all forged r ∙ ap (λ (b : Block). closed x b (during m b (all r) (forged r))) (block_is r)

module _ (x : Setting) (m : Meaning) (law : Lawful m) (o : Opening) (calls : Transcript) (started : Started x m o calls) where
  opens : Opens x m o.n o.t o.proposals o.initial
  opens = open_accepted x m o.n o.t o.proposals o.initial started.accepted_open

  abbrev rounds : ℕ
  rounds = length (sets calls)

  abbrev this : Course
  this = course x m o (set_of calls) rounds started.rounds.forged

  abbrev at : ℕ → Block
  at r = block x m o (set_of calls) rounds started.rounds.forged r

  legal : (r : ℕ) → r < rounds → seat_refusal m (at r) (set_of calls r) ≡ None
  legal r lt = subst (λ (b : Block). seat_refusal m b (set_of calls r) ≡ None) (block_is x m o (set_of calls) rounds started.rounds.forged r) (started.rounds.legal r lt)

  -- every set is one of at most t controllers, and every move is allowed
  few : (r : ℕ) → r ≤ rounds → Few (at r).last o.t
  few zero le = opens.initial_few
  few (suc r) le = (seat_accepted m (at r) (set_of calls r) opens.small opens.faults (legal r (omega arith)) (few r (omega arith))).to

  move : (r : ℕ) → r < rounds → Move m.allowed (at r).last (set_of calls r) o.t
  move r lt = seat_accepted m (at r) (set_of calls r) opens.small opens.faults (legal r lt) (few r (omega arith))

  keeps : (r : ℕ) → r < rounds → Kept (m.class (at r).last (set_of calls r) o.t) (m.counts o.t) (at r).last (set_of calls r)
  keeps r lt = law.keeps (at r).last (set_of calls r) o.t (move r lt)

  class_is : (r i : ℕ) → i < o.n → this.class r i ≡ m.class (at r).last (set_of calls r) o.t i
  class_is r i lt = grind (arith, nat_tests)

  was_unseated : (r i : ℕ) → r < rounds → i < o.n → this.class r i ≡ Honest → has (at r).last i ≡ false
  was_unseated r i in_time lt h = go (has (at r).last i) refl
    where
      go : (b : Bool) → has (at r).last i ≡ b → b ≡ false
      go false e = refl
      go true e = absurd ((keeps r in_time).seated_before i (omega (arith, opens.small)) e (sym (class_is r i lt) ∙ h))

  rules : Obeys this
  rules = record {
    big = opens.big;
    behave = λ r lt. behaves o.n (m.counts o.t) (this.class r) (m.class (at r).last (set_of calls r) o.t) (at r).last (set_of calls r) opens.small (class_is r) (keeps r lt);
    left = λ r i in_time lt h. was_unseated (suc r) i in_time lt h;
    stays = λ r i in_time lt out1 out2. class_is (suc r) i lt ∙ (keeps (suc r) in_time).never_seated i (omega (arith, opens.small)) out1 out2;
  }

  fresh : (i : ℕ) → (this.start i).decision ≡ None
  fresh i = refl

  -- a decision that was answered is that of a controller that may be asked
  answer : (i : ℕ) (cell : Held) → answered calls i ≡ Some cell → Asked (at (closes (take i calls))) cell
  answer i cell e = subst (λ (b : Block). Asked b cell) (block_is x m o (set_of calls) rounds started.rounds.forged (closes (take i calls))) (started.rounds.asked i cell e)

  -- where w is the decision of all from round 3n - 1 on, it is what was answered
  module _ (w : List ℕ) (all : (r : ℕ) → 3 * o.n ≤ suc r → r < rounds → Decide this r w) where
    late : (r : ℕ) (cell : Held) → 3 * o.n ≤ r → r ≤ rounds → Asked (at r) cell → cell ≡ Some w
    late zero cell ge le a = absurd (omega (arith, opens.some))
    late (suc r) cell ge le a =
        let d = decision_accepted (at (suc r)) a.controller a.free in
        a.is ∙ all r ge (omega arith) a.controller d.0 d.1

    one : (r : ℕ) (cell : Held) (v : List ℕ) → r ≤ rounds → Asked (at r) cell → cell ≡ Some v → v ≡ w
    one r cell v le a e = ⊎_elim before_then after_then (cases_lt r (3 * o.n))
      where
        before_then : r < 3 * o.n → v ≡ w
        before_then lt = let n = early this fresh r a.controller lt in let i = a.is in absurd (grind arith)

        after_then : 3 * o.n ≤ r → v ≡ w
        after_then ge = let l = late r cell ge le a in grind arith

  one_decision : (w : List ℕ) → ((r : ℕ) → 3 * o.n ≤ suc r → r < rounds → Decide this r w) → (i : ℕ) (v : List ℕ) → answered calls i ≡ Some (Some v) → v ≡ w
  one_decision w all i v e = one w all (closes (take i calls)) (Some v) v (started.rounds.within i) (answer i (Some v) e) refl

  agrees : Agrees m calls o
  unfolding coordinator_of kept
  agrees = record { equal = equal; filled = filled; early = empty; valid = valid }
    where
      by_coordinator : (c : ℕ) → Clean calls o c → (w : List ℕ) × ((r : ℕ) → 3 * o.n ≤ suc r → r < rounds → Decide this r w)
      by_coordinator c clean = agreed this rules c clean.controller clean.controller clean.collecting clean.deciding

      equal : (c : ℕ) → Clean calls o c → (i j : ℕ) (v w : List ℕ) → answered calls i ≡ Some (Some v) → answered calls j ≡ Some (Some w) → v ≡ w
      equal c clean i j v w e f = let a = by_coordinator c clean in one_decision a.0 a.1 i v e ∙ sym (one_decision a.0 a.1 j w f)

      filled : (c : ℕ) → Clean calls o c → (i : ℕ) (cell : Held) → answered calls i ≡ Some cell → 3 * o.n ≤ closes (take i calls) → Filled cell
      filled c clean i cell e ge =
          let a = by_coordinator c clean in (a.0, late a.0 a.1 (closes (take i calls)) cell ge (started.rounds.within i) (answer i cell e))

      empty : (i : ℕ) (cell : Held) → answered calls i ≡ Some cell → closes (take i calls) < 3 * o.n → cell ≡ None
      empty i cell e lt = let a = answer i cell e in a.is ∙ early this fresh (closes (take i calls)) a.controller lt

      valid : (w : List ℕ) → HonestProposed m calls o w → (i : ℕ) (v : List ℕ) → answered calls i ≡ Some (Some v) → v ≡ w
      valid w proposed i v e = ⊎_elim begun unbegun (cases_lt 0 rounds)
        where
          begun : 0 < rounds → v ≡ w
          begun some = one_decision w (kept_from_start this rules w ready) i v e
            where
              ready : Ready this 0 w
              ready j lt h =
                  let out = was_unseated 0 j some lt h in
                  let p = proposed j lt (record { reached = some; honest = sym (class_is 0 j lt) ∙ h }) in grind (arith, nat_tests)

          unbegun : rounds ≤ 0 → v ≡ w
          unbegun none = one_decision w (λ r ge lt. absurd (omega arith)) i v e

pub agreement : Agreement
agreement x m law calls = record {
  opened = λ o e. agrees x m law o (transcript x m Idle calls) (from_idle x m calls o e);
  unopened = quiet x m calls;
}
