-- Further votes: each refusal of a run, in the order of the checks; a phase, round by round; who is heard how; and the
-- choice among several values that qualify. Assumes nothing.
use Rattle.std.specs.Prelude.{ℕ, zero, suc, ◌+◌, List, [], ◌∷◌, ◌++◌, replicate}
use Rattle.values.specs.Cells.{Held}
use Rattle.models.specs.declared.standards.Standard.TheVariants.{Aware, Unaware, Carried, Fixed}
use Rattle.models.specs.Laws.{Meaning}
use Rattle.models.specs.Standards.{standard}
use Rattle.models.specs.Stamps.{stamped}
use Rattle.protocol.specs.Machine.{Call, Open, Seat, Forge, Close, Decision}
use Rattle.protocol.specs.Votes.{
  Accepted,
  Answers,
  RefusedWith,
  Trial,
  ◌gives◌,
  under,
  Vote,
  Calls,
  Leaves,
  Decides,
  Claims,
  ample,
  full,
  empty,
  only,
  nobody,
  open_500,
  open_500_from,
}

-- so many rounds with nobody seated, and trials after them
abbrev quiet_rounds : ℕ → List (Meaning → Trial) → List (Meaning → Trial)
quiet_rounds zero rest = rest
quiet_rounds (suc k) rest = Seat nobody gives Accepted ∷ Close gives Accepted ∷ quiet_rounds k rest

-- calls that are all accepted
abbrev all_accepted : List Call → List (Meaning → Trial)
all_accepted [] = []
all_accepted (call ∷ rest) = call gives Accepted ∷ all_accepted rest

-- a phase of four controllers under carried, by rounds: the initial set is that of controller 1, and 3 is seated in
-- rounds 0 and 1, and 1 in round 2
abbrev phase_opened : List Call
phase_opened = Open 4 1 ((500 ∷ []) ∷ (500 ∷ []) ∷ (500 ∷ []) ∷ (610 ∷ []) ∷ []) (only 1) ∷ []

-- controller 1 forges, and once twice at one place; what it tells controllers 0 and 2 makes them propose 500
abbrev phase_proposed : List Call
phase_proposed = phase_opened ++ (Seat (only 3) ∷ Forge 1 0 0 (full 500) ∷ Forge 1 2 0 (full 610) ∷ Forge 1 2 0 (full 500) ∷ Close ∷ [])

-- controller 3 tells controller 0 something, and the others nothing
abbrev phase_collected : List Call
phase_collected = phase_proposed ++ (Seat (only 3) ∷ Forge 3 0 0 (full 610) ∷ Close ∷ [])

abbrev phase_decided : List Call
phase_decided = phase_collected ++ (Seat (only 1) ∷ Close ∷ [])

-- what such calls under carried leave every controller with
abbrev carried_leaves : List Call → (v : List Held) → (rows : List (List Held)) → Vote
carried_leaves calls = Leaves (under (standard Carried) (all_accepted calls))

abbrev no_row : List Held
no_row = replicate 4 empty

abbrev row_of_0 : List Held
row_of_0 = full 500 ∷ empty ∷ full 500 ∷ full 610 ∷ []

abbrev row_of_others : List Held
row_of_others = full 500 ∷ empty ∷ full 500 ∷ empty ∷ []

-- a block of four that proposes 500 and 610 by turns, so that its phase 0 finds no candidate; its coordinator,
-- controller 0, is seated in round 1
abbrev split : List Call
split = Open 4 1 ((500 ∷ []) ∷ (610 ∷ []) ∷ (500 ∷ []) ∷ (610 ∷ []) ∷ []) nobody ∷ Seat nobody ∷ Close ∷ Seat (only 0) ∷ Close ∷ Seat nobody ∷ []

-- what a controller of six hears in a collecting round from 1 and from 2, while all others send 500
abbrev row_with : (from_1 from_2 : Held) → List Held
row_with from_1 from_2 = full 500 ∷ from_1 ∷ from_2 ∷ replicate 3 (full 500)

abbrev pub further_votes : List Vote
further_votes =
    -- before anything is opened
    Calls ample (under (standard Aware) (
    Seat nobody gives RefusedWith 8 ∷ Forge 0 0 0 empty gives RefusedWith 8 ∷ Close gives RefusedWith 8 ∷ Decision 0 gives RefusedWith 8 ∷ []
    ))
    -- open: the block's size, t, the counts, the store, the proposals and the initial set; the refused calls break
    -- later checks as well
    ∷ Calls 317 (under (standard Unaware) (
    Open 0 0 ((500 ∷ []) ∷ []) (only 9) gives RefusedWith 1
    ∷ Open 17 17 [] nobody gives RefusedWith 1
    ∷ Open 15 15 [] (only 15) gives RefusedWith 2
    ∷ Open 10 2 [] (only 10) gives RefusedWith 3
    ∷ Open 6 1 [] (only 6) gives RefusedWith 4
    ∷ []
    ))
    ∷ Calls 318 (under (standard Unaware) (
    Open 6 1 [] (only 6) gives RefusedWith 5
    ∷ Open 6 1 (replicate 7 (500 ∷ [])) (only 6) gives RefusedWith 5
    ∷ open_500_from 6 1 (only 6) gives RefusedWith 6
    ∷ open_500_from 6 1 (only 9) gives RefusedWith 6
    ∷ open_500_from 6 1 (only 0 + only 1) gives RefusedWith 6
    ∷ open_500_from 6 1 (only 5) gives Accepted
    ∷ Open 0 0 [] (only 6) gives RefusedWith 8
    ∷ []
    ))
    -- the largest block, in a store that is one cell too small, and in one that is not; the largest t that unaware
    -- bears in it; and sets of so many
    ∷ Calls 4687 (under (standard Unaware) (open_500 16 3 gives RefusedWith 4 ∷ []))
    ∷ Calls 4688 (under (standard Unaware) (
    open_500 17 1 gives RefusedWith 1
    ∷ open_500 16 3 gives Accepted
    ∷ Seat (only 0 + only 1 + only 2 + only 3) gives RefusedWith 6
    ∷ Seat (only 0 + only 7 + only 15) gives Accepted
    ∷ []
    ))
    -- seat: the set, then the move; and a seat where one is
    ∷ Calls ample (under (standard Fixed) (
    open_500_from 6 1 (only 2) gives Accepted
    ∷ Seat (only 6) gives RefusedWith 6
    ∷ Seat (only 1 + only 2) gives RefusedWith 6
    ∷ Seat (only 1) gives RefusedWith 7
    ∷ Forge 9 0 0 empty gives RefusedWith 8
    ∷ Close gives RefusedWith 8
    ∷ Seat (only 2) gives Accepted
    ∷ Seat (only 6) gives RefusedWith 8
    ∷ open_500 6 1 gives RefusedWith 8
    ∷ []
    ))
    -- seat, after 1,000 rounds
    ∷ Calls ample (under (standard Fixed) (open_500 1 0 gives Accepted ∷ quiet_rounds 1000 (Seat (only 6) gives RefusedWith 11 ∷ [])))
    -- forge: the place, then the sender; controller 0 is honest; 1, of the set before, is uniform; and 2, of the set
    -- after, is free
    ∷ Calls ample (under (standard Unaware) (
    open_500_from 6 1 (only 1) gives Accepted
    ∷ Seat (only 2) gives Accepted
    ∷ Forge 6 0 0 (full 610) gives RefusedWith 9
    ∷ Forge 0 6 0 (full 610) gives RefusedWith 9
    ∷ Forge 0 0 1 (full 610) gives RefusedWith 9
    ∷ Forge 0 0 0 (full 610) gives RefusedWith 10
    ∷ Forge 1 1 0 (full 610) gives RefusedWith 10
    ∷ Forge 1 0 0 (full 610) gives Accepted
    ∷ Forge 2 5 0 (full 610) gives Accepted
    ∷ Forge 2 5 0 empty gives Accepted
    ∷ []
    ))
    -- forge in a deciding round, whose messages have a column for each controller; 1, of the set before, is silent, and
    -- 2 is free
    ∷ Calls ample (under (standard Aware) (
    open_500 5 1 gives Accepted
    ∷ Seat nobody gives Accepted ∷ Close gives Accepted
    ∷ Seat (only 1) gives Accepted ∷ Close gives Accepted
    ∷ Seat (only 2) gives Accepted
    ∷ Forge 2 4 4 (full 610) gives Accepted
    ∷ Forge 1 4 5 (full 610) gives RefusedWith 9
    ∷ Forge 1 0 0 (full 610) gives RefusedWith 10
    ∷ []
    ))
    -- decision: whether there is such a controller, then whether the last set (at first the initial one) holds it
    ∷ Calls ample (under (standard Aware) (
    open_500_from 5 1 (only 4) gives Accepted
    ∷ Decision 5 gives RefusedWith 9
    ∷ Decision 4 gives RefusedWith 12
    ∷ Decision 3 gives Answers empty
    ∷ Seat (only 3) gives Accepted
    ∷ Decision 4 gives RefusedWith 12
    ∷ Decision 3 gives Answers empty
    ∷ Close gives Accepted
    ∷ Decision 4 gives Answers empty
    ∷ Decision 3 gives RefusedWith 12
    ∷ []
    ))
    -- a phase, round by round: two candidates are not enough, so the row of the coordinator, controller 0, counts
    ∷ carried_leaves phase_opened (full 500 ∷ empty ∷ full 500 ∷ full 610 ∷ []) (replicate 4 no_row)
    ∷ carried_leaves phase_proposed (full 500 ∷ empty ∷ full 500 ∷ empty ∷ []) (replicate 4 no_row)
    ∷ carried_leaves phase_collected (full 500 ∷ empty ∷ full 500 ∷ empty ∷ []) (row_of_0 ∷ row_of_others ∷ row_of_others ∷ no_row ∷ [])
    ∷ carried_leaves phase_decided (full 500 ∷ empty ∷ full 500 ∷ full 500 ∷ []) (row_of_0 ∷ no_row ∷ row_of_others ∷ no_row ∷ [])
    -- a collecting round in which 1 is uniform, and is heard alike by all, and 2 is free; an empty cell takes back a
    -- filled one; and what is refused in between changes nothing
    ∷ Leaves (under (standard Unaware) (
    open_500 6 1 gives Accepted
    ∷ Seat (only 1) gives Accepted ∷ Close gives Accepted
    ∷ Seat (only 2) gives Accepted
    ∷ Forge 1 0 0 (full 610) gives Accepted
    ∷ Forge 2 0 0 (full 620) gives Accepted
    ∷ Forge 2 3 0 (full 630) gives Accepted
    ∷ Forge 2 3 0 empty gives Accepted
    ∷ Forge 2 4 0 (full 640) gives Accepted
    ∷ Forge 0 0 0 (full 650) gives RefusedWith 10
    ∷ Seat nobody gives RefusedWith 8
    ∷ open_500 6 1 gives RefusedWith 8
    ∷ Close gives Accepted
    ∷ []
    )) (full 500 ∷ empty ∷ empty ∷ full 500 ∷ full 500 ∷ full 500 ∷ []) (
    row_with (full 610) (full 620)
    ∷ row_with (full 610) empty
    ∷ replicate 6 empty
    ∷ row_with (full 610) empty
    ∷ row_with (full 610) (full 640)
    ∷ row_with (full 610) empty
    ∷ []
    )
    -- a coordinator that is free tells controller 1 a row, column by column, and the others nothing, so that these
    -- settle on the fallback
    ∷ carried_leaves (split ++ (Forge 0 1 0 (full 610) ∷ Forge 0 1 1 (full 610) ∷ Forge 0 1 2 (full 500) ∷ Close ∷ []))
    (full 400 ∷ full 610 ∷ full 400 ∷ full 400 ∷ []) (replicate 4 no_row)
    -- with stamps it is uniform, and tells all the row forged for receiver 0
    ∷ Leaves (under (stamped (standard Carried)) (all_accepted (split ++ (Forge 0 0 0 (full 500) ∷ Forge 0 0 1 (full 610) ∷ Forge 0 0 2 (full 610) ∷ Close ∷ []))))
    (replicate 4 (full 610)) (replicate 4 no_row)
    -- two models: moves and classes go by the one that seat names, and the counts by the one that open named. Three
    -- cells are wanted, by carried; aware would want two. And 2 is silent, by aware; under carried it would be free.
    ∷ Leaves (
    under (standard Carried) (Open 4 1 ((500 ∷ []) ∷ (500 ∷ []) ∷ (610 ∷ []) ∷ (610 ∷ []) ∷ []) (only 2) gives Accepted ∷ [])
    ++ under (standard Fixed) (Seat (only 1) gives RefusedWith 7 ∷ [])
    ++ under (standard Aware) (Seat nobody gives Accepted ∷ Forge 2 0 0 (full 500) gives RefusedWith 10 ∷ Close gives Accepted ∷ [])
    ) (replicate 4 empty) (replicate 4 no_row)
    -- two values in three cells each: that of the lowest-numbered cell counts, in a column and in the coordinator's row
    ∷ Decides (standard Unaware) 6 1 5 (
    (full 610 ∷ []) ∷ (full 610 ∷ []) ∷ (full 500 ∷ []) ∷ (full 500 ∷ []) ∷ (full 610 ∷ [])
    ∷ (full 500 ∷ full 610 ∷ full 610 ∷ full 500 ∷ full 500 ∷ full 610 ∷ []) ∷ []
    ) (full 610 ∷ replicate 5 empty) (full 500)
    ∷ []

abbrev pub FurtherVotes : Type 0
FurtherVotes = Claims further_votes
