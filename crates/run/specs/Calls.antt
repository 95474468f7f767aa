-- Calls and answers, as the machine has them. Assumes nothing.
use Rattle.std.specs.Prelude.{ℕ, ⊤, List, map, Option, Result, Ok, Err}
use Rattle.values.specs.declared.refusals.Refusal.{Refusal}
use Rattle.values.specs.Rules.{Rules, means}
use Rattle.values.specs.Cells.{shows}
use Rattle.protocol.specs.Machine as machine
use Rattle.run.specs.declared.calls.Call.{Call}
use Rattle.run.specs.declared.calls.Call.TheVariants.{Open, Seat, Forge, Close, Decision}
use Rattle.run.specs.declared.calls.Answer.{Answer}
use Rattle.run.specs.declared.calls.Answer.TheVariants.{Done, Decided}

module _ {R : Type 0} (k : Rules) (plain : R → List ℕ) where
  abbrev pub asked : Call R → machine.Call
  asked (Open o) = machine.Open o.n o.t (map (means k plain) o.proposals.now) o.initial.0
  asked (Seat set) = machine.Seat set.0
  asked (Forge place cell) = machine.Forge place.sender place.receiver place.column (shows k plain cell)
  asked Close = machine.Close
  asked (Decision controller) = machine.Decision controller

  abbrev pub said : Result (Answer R) Refusal → machine.Answer
  said (Ok Done) = machine.Done
  said (Ok (Decided cell)) = machine.Decided (shows k plain cell)
  said (Err why) = machine.Refused why

  -- the answer of a call that tells nothing but that it was performed, and of one that tells a cell
  abbrev pub said_done : Result ⊤ Refusal → machine.Answer
  said_done (Ok x) = machine.Done
  said_done (Err why) = machine.Refused why

  abbrev pub said_cell : Result (Option R) Refusal → machine.Answer
  said_cell (Ok cell) = machine.Decided (shows k plain cell)
  said_cell (Err why) = machine.Refused why
