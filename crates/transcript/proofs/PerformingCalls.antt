-- Each line is answered.
use Rattle.std.proofs.Common.{◌≡◌, ℕ, List, length, Result, sym, ap, ◌∙◌}
use Rattle.std.proofs.lemmas.List.{length-map}
use Rattle.values.specs.Rules.{Rules}
use Rattle.values.specs.declared.refusals.Refusal.{Refusal}
use Rattle.models.specs.Laws.{Meaning}
use Rattle.protocol.specs.Machine.{Idle}
use Rattle.protocol.proofs.Joined.{transcript_length}
use Rattle.run.specs.declared.calls.Answer.{Answer}
use Rattle.script.specs.Statements.{replied}
use Rattle.script.specs.declared.figures.Figure.{Figure}
use Rattle.script.specs.declared.scripts.Line.{Line}
use Rattle.transcript.specs.Rows.{calls_under, over_cells, ArePerformed}

pub all_answered : {k : Rules} {cells : ℕ} {m : Meaning} {lines : List Line} {answers : List (Result (Answer Figure) Refusal)}
    → ArePerformed k cells m lines answers → length answers ≡ length lines
all_answered {k} {cells} {m} {lines} {answers} p =
    sym (length-map answers replied) ∙ ap length p.answered ∙ length-map _ _ ∙ transcript_length (over_cells k cells) m Idle (calls_under k lines) ∙ length-map lines _
