-- A call that comes at its turn. Assumes nothing.
use Rattle.std.specs.Prelude.{◌≡◌, ◌⊎◌}
use Rattle.run.specs.declared.calls.Call.{Call}
use Rattle.run.specs.declared.calls.Call.TheVariants as calls
use Rattle.run.specs.declared.dues.Due.{Due}
use Rattle.run.specs.declared.dues.Due.TheVariants.{Open, Seat, Forge, Close, Decision}
use Rattle.run.specs.declared.turns.Turn.{Turn}
use Rattle.run.specs.declared.turns.Turn.TheVariants.{Idle, Waiting, Seated}
use Rattle.run.specs.declared.turns.Block.{Block}
use Rattle.run.specs.declared.turns.Seating.{Seating}

-- a block that is opened, whether it waits or is seated
abbrev pub IsOpen : Block → Turn → Type 0
IsOpen block turn = (turn ≡ Waiting block) ⊎ ((seating : Seating) × (turn ≡ Seated block seating))

-- the call, and the turn that it comes at with what it finds there
abbrev pub IsDue : {R : Type 0} → Call R → Turn → Due R → Type 0
IsDue call turn (Open opening) = (call ≡ calls.Open opening) × (turn ≡ Idle)
IsDue call turn (Seat block set) = (call ≡ calls.Seat set) × (turn ≡ Waiting block)
IsDue call turn (Forge block seating place cell) = (call ≡ calls.Forge place cell) × (turn ≡ Seated block seating)
IsDue call turn (Close block seating) = (call ≡ calls.Close) × (turn ≡ Seated block seating)
IsDue call turn (Decision block controller) = (call ≡ calls.Decision controller) × IsOpen block turn
