-- What is promised of a script that was performed. Assumes nothing.
use Rattle.std.specs.Prelude.{◌≡◌, ℕ, ◌<◌, true, ◌≢◌, List}
use Rattle.models.specs.Laws.{Meaning}
use Rattle.models.specs.Sets.{has}
use Rattle.models.specs.Standards.{standard}
use Rattle.models.specs.declared.sets.TheConstants.{MOST_CONTROLLERS}
use Rattle.script.specs.Scripts.{rules_of}
use Rattle.script.specs.Statements.{log_by}
use Rattle.script.specs.declared.figures.Figure.{Figure}
use Rattle.script.specs.declared.scripts.House.{House}
use Rattle.script.specs.declared.scripts.Script.{Script}
use Rattle.transcript.specs.Layers.{under_stamps}
use Rattle.transcript.specs.Rows.{ArePerformed}
use Rattle.transcript.specs.Outcomes.{IsOutcome}
use Rattle.transcript.specs.declared.outcomes.Decisions.TheVariants.{Unequal}
use Rattle.transcript.specs.declared.replaying.Replay.{Replay}

-- the model that a first line names: one of the table under its stamps
abbrev pub named_model : House → Meaning
named_model house = under_stamps house.stamps (standard house.base)

pub record IsReplay (script : Script) (replay : Replay) : Type 0 where
  -- the answers are the machine's to the calls, and obey the law of transcripts
  pub performed : ArePerformed (rules_of script.house.kind) script.cells (named_model script.house) script.lines.items replay.answers.items
  -- the outcome is that of calls and answers, by whichever numbers one takes figures to mean
  pub outcome : (means : Figure → List ℕ) → IsOutcome (log_by means script.lines.items replay.answers.items) replay.outcome
  -- where some controller was a clean coordinator, no two filled decisions differ
  pub agreed : (c : ℕ) → c < MOST_CONTROLLERS → has replay.outcome.clean.0 c ≡ true → replay.outcome.decisions ≢ Unequal
