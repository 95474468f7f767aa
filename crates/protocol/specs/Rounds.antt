-- What a controller hears in a round, and what it makes of it. A cell is empty (None) or holds the numbers of a value.
-- Assumes nothing.
use Rattle.std.specs.Prelude.{ℕ, zero, suc, ◌+◌, ◌-◌, ◌*◌, ◌/◌, Bool, if◌then◌else◌, not, ◌&&◌, List, Some, None, Option, ◌==◌, nat_lt}
use Rattle.std.specs.Option.{unwrap_or}
use Rattle.values.specs.Cells.{Held, winning}
use Rattle.models.specs.declared.classes.Class.{Class}
use Rattle.models.specs.declared.classes.Class.TheVariants.{Honest, Silent, Uniform, Free}
use Rattle.models.specs.declared.classes.Counts.{Counts}
use Rattle.protocol.specs.declared.stages.Stage.{Stage}
use Rattle.protocol.specs.declared.stages.Stage.TheVariants.{Proposing, Collecting, Deciding, Maintaining}
use Rattle.protocol.specs.Stages.{stage_of, coordinator_of}

-- what is fixed for all rounds of a run: how many controllers there are, the counts b, e and l, and the fallback
pub record Terms : Type 0 where
  pub n : ℕ
  pub counts : Counts
  pub fallback : List ℕ

-- what a controller keeps from round to round. Its row is the n cells that it noted in a collecting round; a value's
-- row (`Kind::Row`), how one value lies in a cell, is another thing.
pub record Memory : Type 0 where
  pub v : Held
  pub row : ℕ → Held
  pub decision : Held

-- the memory that a seated controller is left with: all cells empty
abbrev pub blank : Memory
blank = record { v = None; row = λ _. None; decision = None }

-- a message of one cell, in column 0
abbrev pub single : Held → ℕ → Held
single cell zero = cell
single cell (suc k) = None

-- an honest sender's message, by column: its row if deciding; else one cell, its decision if maintaining and v if not
abbrev pub sends : Stage → Memory → ℕ → Held
sends Proposing own = single own.v
sends Collecting own = single own.v
sends Deciding own = own.row
sends Maintaining own = single own.decision

-- what a receiver is told by a sender of a class: by an honest one what it sends, by a silent one nothing, by a uniform
-- one the cell forged for receiver 0, and by a free one the cell forged for this receiver
unfoldable pub told : Class → (sent forged_for_0 forged_for_this : Held) → Held
told Honest sent forged_for_0 forged_for_this = sent
told Silent sent forged_for_0 forged_for_this = None
told Uniform sent forged_for_0 forged_for_this = forged_for_0
told Free sent forged_for_0 forged_for_this = forged_for_this

-- what a receiver hears, by sender and column; `forged` goes by sender, receiver and column
abbrev pub heard : (class : ℕ → Class) (sent : ℕ → ℕ → Held) (forged : ℕ → ℕ → ℕ → Held) → (receiver sender column : ℕ) → Held
heard class sent forged i j k = told (class j) (sent j k) (forged j 0 k) (forged j i k)

-- the cell at a place, if there is one
abbrev pub at_place : (ℕ → Held) → Option ℕ → Held
at_place cells None = None
at_place cells (Some i) = cells i

-- the value that at least `least` of n cells hold while at most `most` are filled otherwise; of several such values,
-- the one in the lowest-numbered cell
unfoldable pub chosen : (least most : ℕ) → (ℕ → Held) → ℕ → Held
chosen least most cells n = at_place cells (winning least most cells n)

-- the value that at least `least` of n cells hold; that at most n cells are filled otherwise is no condition
abbrev pub held_by : (least : ℕ) → (ℕ → Held) → ℕ → Held
held_by least cells n = chosen least n cells n

-- proposing: n - b cells or more have to hold the value, and no more than l to be filled otherwise
abbrev pub proposed : ℕ → Counts → (ℕ → Held) → Held
proposed n counts cells = chosen (n - counts.b) counts.l cells n

-- maintaining: n - b cells or more have to hold the value
abbrev pub maintained : ℕ → Counts → (ℕ → Held) → Held
maintained n counts cells = held_by (n - counts.b) cells n

-- deciding: a value becomes the candidate of column k if more than l senders hold it there; a column may have none
abbrev pub candidate : ℕ → Counts → (ℕ → ℕ → Held) → ℕ → Held
candidate n counts heard k = held_by (suc counts.l) (λ j. heard j k) n

-- the value that settles a deciding round: more than l + e candidates have it; where none has so many, more than l
-- cells of the coordinator's row, as it was heard; and where none has those either, it is the fallback
abbrev pub settled : ℕ → Counts → (fallback : List ℕ) (candidates coordinator_row : ℕ → Held) → List ℕ
settled n counts fallback candidates coordinator_row =
    unwrap_or (held_by (suc (counts.l + counts.e)) candidates n) (unwrap_or (held_by (suc counts.l) coordinator_row n) fallback)

-- the value that a controller settles on, by what it hears from each sender in each column
abbrev pub decided : Terms → (phase : ℕ) → (ℕ → ℕ → Held) → List ℕ
decided terms phase heard = settled terms.n terms.counts terms.fallback (candidate terms.n terms.counts heard) (heard (coordinator_of phase))

-- what a deciding round makes the decision: v in the last one, which is round 3n - 1, and empty in every other one
abbrev pub copied : (n r : ℕ) → Held → Held
copied n r v = if suc r == 3 * n then v else None

-- what round r leaves an unseated controller with, from what it kept and what it heard
unfoldable pub make : Stage → Terms → (r : ℕ) → Memory → (ℕ → ℕ → Held) → Memory
make Proposing terms r own heard = record { v = proposed terms.n terms.counts (λ j. heard j 0); row = own.row; decision = None }
make Collecting terms r own heard = record { v = own.v; row = λ j. heard j 0; decision = None }
make Deciding terms r own heard = let v = Some (decided terms (r / 3) heard) in record { v = v; row = own.row; decision = copied terms.n r v }
make Maintaining terms r own heard = record { v = own.v; row = own.row; decision = maintained terms.n terms.counts (λ j. heard j 0) }

-- what was sent in a round, by sender and column, if all were honest
abbrev pub sent_in : Terms → (r : ℕ) → (ℕ → Memory) → ℕ → ℕ → Held
sent_in terms r kept j = sends (stage_of terms.n r) (kept j)

-- what the close of round r leaves a controller with: if unseated, what it makes of what was sent; and else nothing
abbrev pub closing : Terms → (r : ℕ) (seated : ℕ → Bool) (class : ℕ → Class) (forged : ℕ → ℕ → ℕ → Held) → (ℕ → Memory) → ℕ → Memory
closing terms r seated class forged kept i =
    if nat_lt i terms.n && not (seated i) then make (stage_of terms.n r) terms r (kept i) (heard class (sent_in terms r kept) forged i) else blank
