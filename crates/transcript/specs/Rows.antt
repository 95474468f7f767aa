-- The calls of lines under the rules of a kind, and what is promised of their answers. Assumes nothing.
use Rattle.std.specs.Prelude.{◌≡◌, ℕ, List, map, Result}
use Rattle.values.specs.Rules.{Rules}
use Rattle.values.specs.declared.refusals.Refusal.{Refusal}
use Rattle.models.specs.Laws.{Meaning}
use Rattle.protocol.specs.Machine.{Setting}
use Rattle.protocol.specs.Machine as machine
use Rattle.protocol.specs.Transcripts.{Law}
use Rattle.run.specs.Promises.{replies, entries}
use Rattle.run.specs.declared.calls.Answer.{Answer}
use Rattle.script.specs.declared.figures.Figure.{Figure}
use Rattle.script.specs.declared.scripts.Line.{Line}
use Rattle.script.specs.Statements.{call_under, replied}

-- the calls of lines, under the rules of a kind
abbrev pub calls_under : Rules → List Line → List machine.Call
calls_under k lines = map (λ line. call_under k line.statement) lines

-- a new run over so many cells of a kind
abbrev pub over_cells : Rules → ℕ → Setting
over_cells k cells = record { cells = cells; fallback = k.fallback }

-- what is promised of the answers to lines: they are the machine's to these calls on a new run, and calls and answers obey the law of transcripts
pub record ArePerformed (k : Rules) (cells : ℕ) (m : Meaning) (lines : List Line) (answers : List (Result (Answer Figure) Refusal)) : Type 0 where
  pub answered : map replied answers ≡ replies (over_cells k cells) m (calls_under k lines)
  pub law : Law m (entries (calls_under k lines) (map replied answers))
