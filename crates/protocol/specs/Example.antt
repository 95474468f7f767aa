-- Two lists of calls about which the law says something. In each one fault wanders through a block of four for twelve
-- rounds and tells two receivers different things; controller 0 is a clean coordinator. Assumes nothing.
use Rattle.std.specs.Prelude.{◌≡◌, ℕ, ◌*◌, Bool, true, ◌&&◌, List, [], ◌∷◌, Some}
use Rattle.models.specs.declared.standards.Standard.TheVariants.{Carried}
use Rattle.models.specs.Laws.{Lawful}
use Rattle.models.specs.Standards.{standard}
use Rattle.protocol.specs.Machine.{Call, Open, Seat, Forge, Close, Decision, Idle}
use Rattle.protocol.specs.Transcripts.{Transcript, accepted, Opening, opening, closes, answered, Clean, transcript}
use Rattle.protocol.specs.Votes.{ample, setting, full, only}

-- a block of four with one fault, and controller 3 in the initial set
abbrev pub opened_with : (proposals : List (List ℕ)) → Opening
opened_with proposals = record { n = 4; t = 1; proposals = proposals; initial = only 3 }

-- two controllers propose 500, and two 610
abbrev pub parted : Opening
parted = opened_with ((500 ∷ []) ∷ (500 ∷ []) ∷ (610 ∷ []) ∷ (610 ∷ []) ∷ [])

-- controllers 0 to 2, which are honest in round 0, propose 500, and controller 3, which is not, 610
abbrev pub alike : Opening
alike = opened_with ((500 ∷ []) ∷ (500 ∷ []) ∷ (500 ∷ []) ∷ (610 ∷ []) ∷ [])

-- a round with one controller seated, in which nothing is forged
abbrev round : ℕ → List Call → List Call
round i rest = Seat (only i) ∷ Close ∷ rest

-- twelve rounds; in round 0 controller 3 is free, and tells controllers 0 and 1 different things. Then controller 1 is
-- asked for its decision.
abbrev pub calls : Opening → List Call
calls o =
    Open o.n o.t o.proposals o.initial
    ∷ Seat (only 0) ∷ Forge 3 0 0 (full 610) ∷ Forge 3 1 0 (full 500) ∷ Close
    ∷ round 3 (round 1 (round 0 (round 2 (round 3 (round 1 (round 0 (round 2 (round 3 (round 1 (round 0 (Decision 1 ∷ [])))))))))))

abbrev pub called : Opening → Transcript
called o = transcript (setting ample) (standard Carried) Idle (calls o)

-- the number of the last call, from 0 on
abbrev pub last_call : ℕ
last_call = 27

abbrev pub all_accepted : Transcript → Bool
all_accepted [] = true
all_accepted (e ∷ rest) = accepted e.answer && all_accepted rest

-- a whole vote: no call is refused, controller 0 is a clean coordinator, and 3n rounds are closed
pub record WholeVote (o : Opening) : Type 0 where
  pub accepted : all_accepted (called o) ≡ true
  pub opens : opening (called o) ≡ Some o
  pub clean : Clean (called o) o 0
  pub closed : closes (called o) ≡ 3 * o.n

-- the model is lawful; after the one whole vote a decision is filled; and after the other, in which all who are honest
-- in round 0 propose 500, it is 500
pub record Example : Type 0 where
  pub lawful : Lawful (standard Carried)
  pub parted_vote : WholeVote parted
  pub value : List ℕ
  pub filled : answered (called parted) last_call ≡ Some (Some value)
  pub alike_vote : WholeVote alike
  pub is_500 : answered (called alike) last_call ≡ Some (full 500)
