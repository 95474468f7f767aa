-- What calls that all name one model leave: blocks with its counts, and rounds with its classes. So what is compared of
-- single rounds holds of whole lists of calls.
use Rattle.std.proofs.Common.{◌≡◌, ℕ, List, [], ◌∷◌, Some, None, Option, refl, ap, ◌∙◌, subst, arith}
use Rattle.std.proofs.lemmas.Bool.Decides.{nat_tests}
use Rattle.values.specs.declared.refusals.Refusal.{Refusal}
use Rattle.models.specs.declared.classes.Class.{Class}
use Rattle.models.specs.declared.standards.Standard.TheVariants.{Carried}
use Rattle.models.specs.Laws.{Meaning}
use Rattle.models.specs.Standards.{standard}
use Rattle.models.specs.Stamps.{stamped}
use Rattle.protocol.specs.Rounds.{Memory}
use Rattle.protocol.specs.Machine.{
  Setting,
  Block,
  Seating,
  State,
  Idle,
  Waiting,
  Seated,
  Call,
  Open,
  Seat,
  Forge,
  Close,
  Decision,
  Answer,
  open_refusal,
  seat_refusal,
  forge_refusal,
  decision_refusal,
  seating,
  closed,
  unless,
  step,
}
use Rattle.protocol.specs.Publications.{Algorithm, Sending, Correct}
use Rattle.protocol.specs.AnyCounts.{process2}
use Rattle.protocol.specs.Compared.{
  sending,
  hearing,
  Sized,
  Runs,
  BlocksAreSized,
  SendsAs,
  SendsInAlgorithm1,
  SendsInAlgorithm2,
  SendsInAlgorithm3,
  RunsAfterCalls,
  Sends2,
  SendsAfterCalls,
}
use Rattle.protocol.specs.Transcripts.{state_after}
use Rattle.protocol.proofs.Accepted.{open_accepted}
use Rattle.protocol.proofs.AnyRounds.{sends_line}

-- an open takes no other sizes, and a close keeps size and counts
pub blocks_are_sized : (m : Meaning) → BlocksAreSized m
blocks_are_sized m = record {
  opens = λ x n t proposals initial e. let o = open_accepted x m n t proposals initial e in record { size = o.small; faults = o.faults; counts = refl; resilient = o.big };
  closes = λ x b s z. record { size = z.size; faults = z.faults; counts = z.counts; resilient = z.resilient };
}

-- an unseated controller was in the set before and has the class that the model gives those, or it is honest
pub sends_in_algorithm_1 : SendsInAlgorithm1
sends_in_algorithm_1 b set i i_in out = grind (arith, nat_tests)

pub sends_in_algorithm_2 : SendsInAlgorithm2
sends_in_algorithm_2 b set i i_in out = grind (arith, nat_tests)

pub sends_in_algorithm_3 : SendsInAlgorithm3
sends_in_algorithm_3 b set i i_in out = grind (arith, nat_tests)

-- what holds before a call that was refused, and after one that was not
either : (P : State → Type 0) (why : Option Refusal) (before after : State) (a : Answer) → P before → (why ≡ None → P after) → P (unless why before after a).0
either P None before after a p q = q refl
either P (Some refusal) before after a p q = p

module _ (x : Setting) (m : Meaning) where
  -- what the calls leave
  abbrev Left : State → Type 0
  Left Idle = Unit {0}
  Left (Waiting b) = Sized m b
  Left (Seated b s) = Sized m b × (s.class ≡ (seating m b s.set).class)

  after_one : (s : State) (c : Call) → Left s → Left (step x m s c).0
  after_one Idle (Open n t proposals initial) p =
      either Left (open_refusal x m n t proposals initial) Idle _ _ p ((blocks_are_sized m).opens x n t proposals initial)
  after_one (Waiting b) (Seat set) p = either Left (seat_refusal m b set) (Waiting b) (Seated b (seating m b set)) _ p (λ _. (p, refl))
  after_one (Waiting b) (Decision i) p = either Left (decision_refusal b i) (Waiting b) (Waiting b) _ p (λ _. p)
  after_one (Seated b s) (Forge j i k cell) p = either Left (forge_refusal b s j i k) (Seated b s) _ _ p (λ _. p)
  after_one (Seated b s) Close p = (blocks_are_sized m).closes x b s p.0
  after_one (Seated b s) (Decision i) p = either Left (decision_refusal b i) (Seated b s) (Seated b s) _ p (λ _. p)
  after_one s c p = p

  after_all : (calls : List Call) (s : State) → Left s → Left (state_after x m s calls)
  after_all [] s p = p
  after_all (c ∷ calls) s p = after_all calls (step x m s c).0 (after_one s c p)

  module _ (calls : List Call) (b : Block) (s : Seating) (left : state_after x m Idle calls ≡ Seated b s) where
    is_left : Sized m b × (s.class ≡ (seating m b s.set).class)
    is_left = subst Left left (after_all calls Idle tt)

    -- a class of the round is the model's
    class_is : (i : ℕ) → sending (s.class i) ≡ sending ((seating m b s.set).class i)
    class_is i = ap (λ (class : ℕ → Class). sending (class i)) is_left.1

pub runs_after_calls : {P : Type 0} (m : Meaning) (process : Memory → P)
    → (algorithm : Algorithm P) (cured : Sending)
    → Runs m process algorithm → SendsAs m cured → RunsAfterCalls m process algorithm cured
runs_after_calls m process algorithm cured runs sends x calls b s left i i_in out =
    subst (λ (p : Sending). algorithm b.n b.t b.round x.fallback p (process (b.memory i)) (λ receiver. hearing x b s receiver i) (hearing x b s i) (process ((closed x b s).memory i)))
    (class_is x m calls b s left i ∙ sends b s.set i i_in out) (runs x b s (is_left x m calls b s left).0 i i_in out)

-- under stamped carried a controller that is not in the last set is honest
pub sends_after_calls : SendsAfterCalls (stamped (standard Carried))
sends_after_calls x calls b s left i i_in out =
    subst (λ (p : Sending). Sends2 b.n b.round p (process2 (b.memory i)) (λ receiver. hearing x b s receiver i))
    (class_is x (stamped (standard Carried)) calls b s left i ∙ honest) (sends_line x b s i)
  where
    honest : sending ((seating (stamped (standard Carried)) b s.set).class i) ≡ Correct
    honest = grind (arith, nat_tests)
