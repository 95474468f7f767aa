-- Two lists of calls about which the law says something, by running them.
use Rattle.std.proofs.Common.{◌≡◌, ℕ, zero, suc, ◌*◌, ◌<◌, true, List, [], ◌∷◌, Some, None, Option, is_some, take, refl, ap, ◌∙◌, arith}
use Rattle.values.specs.Counting.{count}
use Rattle.values.specs.Cells.{Held}
use Rattle.models.specs.declared.standards.Standard.TheVariants.{Carried}
use Rattle.models.specs.Sets.{members}
use Rattle.models.specs.Laws.{Lawful}
use Rattle.models.specs.Standards.{standard}
use Rattle.protocol.specs.Stages.{stage_of}
use Rattle.protocol.specs.Transcripts.{Filled, Opening, HonestProposed, Agrees, closes, answered}
use Rattle.protocol.specs.Example.{Example, WholeVote, parted, alike, calls, called, last_call}
use Rattle.protocol.specs.Votes.{ample, setting}
use Rattle.protocol.proofs.Agreeing.{agreement}

there : (o : Option Held) → is_some o ≡ true → (cell : Held) × (o ≡ Some cell)
there None e = absurd (grind arith)
there (Some cell) e = (cell, refl)

whole_parted : WholeVote parted
unfolding count members stage_of
whole_parted = record { accepted = refl; opens = refl; clean = record { controller = omega arith; collecting = refl; deciding = refl }; closed = refl }

whole_alike : WholeVote alike
unfolding count members stage_of
whole_alike = record { accepted = refl; opens = refl; clean = record { controller = omega arith; collecting = refl; deciding = refl }; closed = refl }

asked_parted : (cell : Held) × (answered (called parted) last_call ≡ Some cell)
unfolding count members stage_of
asked_parted = there (answered (called parted) last_call) refl

asked_alike : (cell : Held) × (answered (called alike) last_call ≡ Some cell)
unfolding count members stage_of
asked_alike = there (answered (called alike) last_call) refl

late_parted : closes (take last_call (called parted)) ≡ 3 * 4
unfolding count members stage_of
late_parted = refl

late_alike : closes (take last_call (called alike)) ≡ 3 * 4
unfolding count members stage_of
late_alike = refl

-- controller 3 proposed something else, but is in the initial set, and so not honest in round 0
honest_propose_500 : HonestProposed (standard Carried) (called alike) alike (500 ∷ [])
unfolding count members stage_of
honest_propose_500 zero lt h = refl
honest_propose_500 (suc zero) lt h = refl
honest_propose_500 (suc (suc zero)) lt h = refl
honest_propose_500 (suc (suc (suc zero))) lt h = let e = h.honest in absurd (grind arith)
honest_propose_500 (suc (suc (suc (suc i)))) lt h = absurd (omega arith)

module _ (law : Lawful (standard Carried)) (o : Opening) (whole : WholeVote o) (asked : (cell : Held) × (answered (called o) last_call ≡ Some cell))
    (late : closes (take last_call (called o)) ≡ 3 * o.n) where
  agrees : Agrees (standard Carried) (called o) o
  agrees = (agreement (setting ample) (standard Carried) law (calls o)).opened o whole.opens

  filled : Filled asked.0
  filled = agrees.filled 0 whole.clean last_call asked.0 asked.1 (omega (arith, late))

  answered_filled : answered (called o) last_call ≡ Some (Some filled.0)
  answered_filled = asked.1 ∙ ap {B = Option Held} Some filled.1

pub example : Lawful (standard Carried) → Example
example law =
    let f = filled law parted whole_parted asked_parted late_parted in
    let g = filled law alike whole_alike asked_alike late_alike in
    let a = answered_filled law alike whole_alike asked_alike late_alike in
    let v = (agrees law alike whole_alike asked_alike late_alike).valid (500 ∷ []) honest_propose_500 last_call g.0 a in record {
      lawful = law;
      parted_vote = whole_parted;
      value = f.0;
      filled = answered_filled law parted whole_parted asked_parted late_parted;
      alike_vote = whole_alike;
      is_500 = a ∙ ap {B = Option Held} (λ (w : List ℕ). Some (Some w)) v;
    }
