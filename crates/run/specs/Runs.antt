-- What a run is, as the machine has it. Assumes nothing.
use Rattle.std.specs.Prelude.{◌≡◌, ◌⊎◌, ℕ, true, List, None, Option, length, drop}
use Rattle.values.specs.declared.kinds.Kind.{Ghosts}
use Rattle.values.specs.Rules.{Rules}
use Rattle.values.specs.Cells.{Held}
use Rattle.models.specs.Laws.{Meaning}
use Rattle.values.specs.declared.refusals.Refusal.{Refusal}
use Rattle.protocol.specs.Transcripts.{accepted}
use Rattle.protocol.specs.Machine.{Setting, State, Call, Open, Close, Decision, Answer, Refused, needed, step}
use Rattle.run.specs.declared.run.Run.{Run}
use Rattle.run.specs.Turns.{size_of}
use Rattle.run.specs.Stores.{store}
use Rattle.run.specs.Views.{forged_in, view}

-- what a run over these cells has before any call
abbrev pub setting_over : {R : Type 0} → Rules → List (Option R) → Setting
setting_over k cells = record { cells = length cells; fallback = k.fallback }

module _ {V R : Type 0} {kind : Ghosts V R} where
  abbrev pub setting : Run V R kind → Setting
  setting r = setting_over kind.rules r.cells.now

  abbrev pub state : Run V R kind → State
  state r = view kind.rules kind.plain r.turn r.cells.now

  -- what the forged cells hold, also where no round is seated
  abbrev pub forged_of : Run V R kind → (sender receiver column : ℕ) → Held
  forged_of r = forged_in kind.rules kind.plain (size_of r.turn) (store (size_of r.turn) r.cells.now)

  -- the turn and every cell are as they stood
  pub record Unaltered (before after : Run V R kind) : Type 0 where
    pub turn : after.turn ≡ before.turn
    pub cells : after.cells.now ≡ before.cells.now

  -- what each call on a run does: it takes the machine's step, under the model that it names
  pub record Performs (m : Meaning) (call : Call) (answer : Answer) (before after : Run V R kind) : Type 0 where
    -- the new state and the answer are the machine's
    pub stepped : (state after, answer) ≡ step (setting before) m (state before) call
    -- a refused call leaves the turn and every cell as they stood, and so does a decision
    pub refused : (why : Refusal) → answer ≡ Refused why → Unaltered before after
    pub decision_unaltered : (controller : ℕ) → call ≡ Decision controller → Unaltered before after
    -- where no round is seated the machine's state has no forged cells; those of the store an open leaves empty, and a close as they were
    pub open_empties : (n t : ℕ) (proposals : List (List ℕ)) (initial : ℕ) → call ≡ Open n t proposals initial → accepted answer ≡ true → forged_of after ≡ (λ _ _ _. None)
    pub close_keeps : call ≡ Close → accepted answer ≡ true → forged_of after ≡ forged_of before
    -- the cells past the needed number are as they stood
    pub past : drop (needed (size_of after.turn)) after.cells.now ≡ drop (needed (size_of after.turn)) before.cells.now
    -- the setting stays, and the cells are those that were lent
    pub setting_stays : setting after ≡ setting before
    pub named : after.cells.ghost_name ≡ before.cells.ghost_name

  -- the same of a call that names no model: it does this whichever model is thought of
  abbrev pub PerformsAnyway : Call → Answer → (before after : Run V R kind) → Type 0
  PerformsAnyway call answer before after = (m : Meaning) → Performs m call answer before after

  -- a call that leaves the machine's state as it is has this answer, whichever model it names
  abbrev pub Answers : Run V R kind → Call → Answer → Type 0
  Answers r call answer = (m : Meaning) → (state r, answer) ≡ step (setting r) m (state r) call

  -- what calls on a run leave as it was, whatever else they do: the size of a block that there is, the cells past the needed number, and the setting
  pub record Keeps (before after : Run V R kind) : Type 0 where
    pub size : (size_of before.turn ≡ 0) ⊎ (size_of after.turn ≡ size_of before.turn)
    pub past : drop (needed (size_of after.turn)) after.cells.now ≡ drop (needed (size_of after.turn)) before.cells.now
    pub setting_stays : setting after ≡ setting before
    pub named : after.cells.ghost_name ≡ before.cells.ghost_name
