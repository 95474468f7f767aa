-- A run by the calls that were made on it, which all name one model. Assumes nothing.
use Rattle.std.specs.Prelude.{◌≡◌, List, [], ◌∷◌, ◌++◌}
use Rattle.values.specs.declared.kinds.Kind.{Ghosts}
use Rattle.models.specs.Laws.{Meaning, Lawful}
use Rattle.protocol.specs.Machine.{Setting, Idle, Call, Answer}
use Rattle.protocol.specs.Transcripts.{Transcript, Entry, Law, transcript, state_after}
use Rattle.run.specs.declared.run.Run.{Run}
use Rattle.run.specs.Runs.{setting, state, Keeps}

abbrev pub entry : Call → Answer → Entry
entry c answer = record { call = c; answer = answer }

module _ {V R : Type 0} {kind : Ghosts V R} where
  -- the run stands after calls with these answers, which were made from a new run on
  pub record Stands (x : Setting) (m : Meaning) (log : Transcript) (run : Run V R kind) : Type 0 where
    pub calls : List Call
    pub log_is : transcript x m Idle calls ≡ log
    pub state_is : state_after x m Idle calls ≡ state run
    pub setting_is : setting run ≡ x

  -- between two moments of one run calls with these answers were made
  pub record Continues (m : Meaning) (log : Transcript) (before after : Run V R kind) : Type 0 where
    pub calls : List Call
    pub log_is : transcript (setting before) m (state before) calls ≡ log
    pub state_is : state_after (setting before) m (state before) calls ≡ state after
    pub keeps : Keeps before after

  -- Whatever calls a run stands after, and whichever lawful model they name, their transcript with one more call and its answer obeys the law.
  abbrev pub LawWith : Run V R kind → Call → Answer → Type 0
  LawWith run c answer = (x : Setting) (m : Meaning) (log : Transcript) → Lawful m → Stands x m log run → Law m (log ++ (entry c answer ∷ []))
