-- Every close is the round under the counts of its block.
use Rattle.std.proofs.Common.{◌≡◌, ℕ, zero, suc, ◌+◌, ◌-◌, ◌*◌, ◌/◌, ◌%◌, ◌<◌, ◌≤◌, false, ⊎_elim, refl, ap, subst, arith}
use Rattle.std.proofs.lemmas.Bool.{cases_lt}
use Rattle.std.proofs.lemmas.Bool.Decides.{nat_tests}
use Rattle.values.specs.Cells.{Held}
use Rattle.models.specs.Sets.{has}
use Rattle.protocol.specs.declared.stages.Stage.{Stage}
use Rattle.protocol.specs.declared.stages.Stage.TheVariants.{Proposing, Collecting, Deciding, Maintaining}
use Rattle.protocol.specs.Stages.{stage_of, coordinator_of}
use Rattle.protocol.specs.Rounds.{Memory, sends, make, candidate, decided}
use Rattle.protocol.specs.Machine.{Setting, Block, Seating, terms_of, closed}
use Rattle.protocol.specs.Publications.{#, SendTuple}
use Rattle.protocol.specs.AnyCounts.{#≢, process2, Decides, AnyRound, Proposes, Collects, Settles, SettlesLast, Maintains}
use Rattle.protocol.specs.Compared.{sending, hearing, Sends2, Line4, Line9, Line12, Line26, RunsAnyRound}
use Rattle.protocol.proofs.Course.{stage_is, stage_late}
use Rattle.protocol.proofs.Comparing.{if_chosen, at_least, more_than, settled_is, sends_value, sends_tuple}

-- what is heard from a controller, seated or not, is what a process of its class sends in a round of this number
module _ (x : Setting) (b : Block) (s : Seating) (i : ℕ) where
  abbrev Line : Type 0
  Line = Sends2 b.n b.round (sending (s.class i)) (process2 (b.memory i)) (λ receiver. hearing x b s receiver i)

  -- column 0 of what an honest sender sends at this stage
  at : (stage : Stage) → stage_of b.n b.round ≡ stage → sends (stage_of b.n b.round) (b.memory i) 0 ≡ sends stage (b.memory i) 0
  at stage e = ap (λ (st : Stage). sends st (b.memory i) 0) e

  pub sends_line : Line
  sends_line = ⊎_elim (λ lt. early lt (b.round % 3) refl) late (cases_lt b.round (3 * b.n))
    where
      late : 3 * b.n ≤ b.round → Line
      late ge = Line26 ge (sends_value x b s i (b.memory i).decision (at Maintaining (stage_late b.n b.round ge)))

      early : b.round < 3 * b.n → (k : ℕ) → b.round % 3 ≡ k → Line
      early lt zero e = Line4 (b.round / 3) (omega arith) (omega arith) (sends_value x b s i (b.memory i).v (at Proposing (stage_is b.n b.round 0 lt e)))
      early lt (suc zero) e = Line9 (b.round / 3) (omega arith) (omega arith) (sends_value x b s i (b.memory i).v (at Collecting (stage_is b.n b.round 1 lt e)))
      early lt (suc (suc k)) e = Line12 (b.round / 3) (omega arith) (omega arith)
          (sends_tuple x b s i b.n (b.memory i).row (λ c _. ap (λ (st : Stage). sends st (b.memory i) c) (stage_is b.n b.round (suc (suc k)) lt e)))

-- a controller that is unseated in a round of a block that is large enough
module _ (x : Setting) (b : Block) (s : Seating) (big : b.counts.b + b.counts.e + b.counts.l < b.n) (i : ℕ) (i_in : i < b.n) (out : has s.set i ≡ false) where
  abbrev heard : ℕ → ℕ → Held
  heard = hearing x b s i

  abbrev sent : ℕ → ℕ → Held
  sent receiver = hearing x b s receiver i

  abbrev phase : ℕ
  phase = b.round / 3

  abbrev Is : Memory → Type 0
  Is m = AnyRound b.n b.counts b.round x.fallback (sending (s.class i)) (b.memory i) sent heard m

  -- what holds of what it would be left with in a round of this stage holds of what it is left with
  by_stage : (stage : Stage) → stage_of b.n b.round ≡ stage → Is (make stage (terms_of x b) b.round (b.memory i) heard) → Is ((closed x b s).memory i)
  by_stage stage e = subst Is (grind (arith, nat_tests))

  settles : SendTuple (sending (s.class i)) b.n (b.memory i).row sent
      → Decides b.n b.counts phase x.fallback (sending (s.class i)) (b.memory i).row sent heard (decided (terms_of x b) phase heard)
  unfolding coordinator_of
  settles send = record {
    candidates = candidate b.n b.counts heard;
    sends = send;
    candidate = λ k _. more_than b.counts.l b.n (λ j. heard j k);
    settles = settled_is b.n b.counts x.fallback (candidate b.n b.counts heard) (heard phase);
  }

  by_line : Line x b s i → Is ((closed x b s).memory i)
  unfolding make
  by_line (Line4 p p_in r_is send) =
      by_stage Proposing (stage_is b.n b.round 0 (omega arith) (omega arith)) (Proposes p p_in r_is send
      (if_chosen (λ w. (b.n - b.counts.b ≤ # b.n w (λ j. heard j 0)) × (#≢ b.n w (λ j. heard j 0) ≤ b.counts.l))
      (b.n - b.counts.b) b.counts.l b.n (λ j. heard j 0) (omega arith) (λ w q. q) (λ w q. q)) refl refl)
  by_line (Line9 p p_in r_is send) =
      by_stage Collecting (stage_is b.n b.round 1 (omega arith) (omega arith)) (Collects p p_in r_is send (λ _ _. refl) refl refl)
  by_line (Line12 p p_in r_is send) =
      by_stage Deciding (stage_is b.n b.round 2 (omega arith) (omega arith)) (⊎_elim
      (λ more. Settles phase more (omega arith) (decided (terms_of x b) phase heard) (settles send) refl refl (grind (arith, nat_tests)))
      (λ last. SettlesLast phase (omega arith) (omega arith) (decided (terms_of x b) phase heard) (settles send) refl refl (grind (arith, nat_tests)))
      (cases_lt (suc phase) b.n))
  by_line (Line26 late send) =
      by_stage Maintaining (stage_late b.n b.round late) (Maintains late send (at_least (b.n - b.counts.b) b.n (λ j. heard j 0) (omega arith)) refl refl)

pub runs_any_round : RunsAnyRound
runs_any_round x b s big i i_in out = by_line x b s big i i_in out (sends_line x b s i)
