-- The first round of a block under unaware, as the publication has it. Assumes nothing.
use Rattle.std.specs.Prelude.{◌≡◌, ℕ, List, map}
use Rattle.values.specs.Rules.{means}
use Rattle.values.specs.declared.kinds.Kind.{Ghosts}
use Rattle.models.specs.declared.sets.Set.{Set}
use Rattle.models.specs.declared.standards.Standard.TheVariants.{Unaware}
use Rattle.models.specs.Standards.{standard}
use Rattle.protocol.specs.Machine.{Setting, Block, Seating, State, Waiting, opened, seating}
use Rattle.protocol.specs.Publications.{Algorithm1, CuredUnaware}
use Rattle.protocol.specs.AnyCounts.{process1}
use Rattle.protocol.specs.Compared.{MakesAfter}
use Rattle.run.specs.declared.calls.Opening.{Opening}
use Rattle.run.specs.declared.run.Run.{Run}
use Rattle.run.specs.Runs.{setting, state}

abbrev pub block : (n t : ℕ) → List (List ℕ) → (initial : ℕ) → Block
block n t proposals initial = opened (standard Unaware) n t proposals initial

abbrev pub seats : Block → (set : ℕ) → Seating
seats b set = seating (standard Unaware) b set

-- every unseated controller made a round of Algorithm 1; whoever was in the initial set sent as a cured process that is not aware of it
pub record FirstRound (x : Setting) (n t : ℕ) (proposals : List (List ℕ)) (initial set : ℕ) (after : State) : Type 0 where
  pub next : Block
  pub waits : after ≡ Waiting next
  pub made : let b = block n t proposals initial in MakesAfter process1 Algorithm1 CuredUnaware x b (seats b set) next

-- between these two moments the run was opened with these values' rows, by what they mean, and ran that round with this set
abbrev pub RunsFirstRound : {V R : Type 0} {kind : Ghosts V R} → Opening R → Set → (before after : Run V R kind) → Type 0
RunsFirstRound {kind = kind} o set before after = FirstRound (setting before) o.n o.t (map (means kind.rules kind.plain) o.proposals.now) o.initial.0 set.0 (state after)
