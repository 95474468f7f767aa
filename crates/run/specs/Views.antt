-- What a run holds, as the machine has it. Assumes nothing.
use Rattle.std.specs.Prelude.{◌≡◌, ℕ, ◌+◌, ◌*◌, if◌then◌else◌, ◌&&◌, List, map, None, Option, nat_lt, slice_index_or}
use Rattle.values.specs.Rules.{Rules, means}
use Rattle.values.specs.Cells.{Held, seen}
use Rattle.models.specs.declared.classes.Class.{Class}
use Rattle.models.specs.declared.classes.Class.TheVariants.{Honest}
use Rattle.protocol.specs.Rounds.{Memory}
use Rattle.protocol.specs.Machine.{started}
use Rattle.protocol.specs.Machine as machine
use Rattle.run.specs.declared.calls.Opening.{Opening}
use Rattle.run.specs.declared.turns.Block.{Block}
use Rattle.run.specs.declared.turns.Seating.{Seating}
use Rattle.run.specs.declared.turns.Turn.{Turn}
use Rattle.run.specs.declared.turns.Turn.TheVariants.{Idle, Waiting, Seated}
use Rattle.run.specs.Stores.{Store, store}

-- the class of a controller; one that the block does not have is honest
abbrev pub class_in : ℕ → List Class → ℕ → Class
class_in n classes i = if nat_lt i n then slice_index_or classes i Honest else Honest

module _ {R : Type 0} (k : Rules) (plain : R → List ℕ) where
  -- the cell forged at a sender, a receiver and a column; an empty one where the block has no such place
  abbrev pub forged_in : ℕ → Store R → (sender receiver column : ℕ) → Held
  forged_in n s sender receiver column =
      if nat_lt sender n && nat_lt receiver n && nat_lt column n then seen k plain s.forged ((sender * n + receiver) * n + column) else None

  -- what a controller keeps; one that the block does not have keeps nothing
  abbrev pub kept_in : ℕ → Store R → (controller : ℕ) → Memory
  kept_in n s controller = record {
    v = if nat_lt controller n then seen k plain s.v controller else None;
    row = λ column. if nat_lt controller n && nat_lt column n then seen k plain s.rows (controller * n + column) else None;
    decision = if nat_lt controller n then seen k plain s.decisions controller else None;
  }

  -- the cells of a block that is opened: what its controllers keep at first
  abbrev pub AreStarted : Opening R → List (Option R) → Type 0
  AreStarted o cells = kept_in o.n (store o.n cells) ≡ started (map (means k plain) o.proposals.now) o.initial.0

  abbrev pub block_in : Block → Store R → machine.Block
  block_in b s = record { n = b.n; t = b.t; counts = b.counts; round = b.round; last = b.last.0; memory = kept_in b.n s }

  abbrev pub seating_in : Block → Seating → Store R → machine.Seating
  seating_in b seating s = record { set = seating.set.0; class = class_in b.n seating.classes; forged = forged_in b.n s }

  -- the state of a run that stands at a turn and has these cells
  abbrev pub view : Turn → List (Option R) → machine.State
  view Idle cells = machine.Idle
  view (Waiting b) cells = machine.Waiting (block_in b (store b.n cells))
  view (Seated b seating) cells = machine.Seated (block_in b (store b.n cells)) (seating_in b seating (store b.n cells))
