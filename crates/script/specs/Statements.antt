-- The calls that statements stand for, and the transcript of statements beside their answers. Assumes nothing.
use Rattle.std.specs.Prelude.{ℕ, List, map, Result, Ok, Err}
use Rattle.std.specs.Option.{option_map}
use Rattle.protocol.specs.Machine as machine
use Rattle.protocol.specs.Transcripts.{Transcript}
use Rattle.values.specs.Rules.{Rules, stands}
use Rattle.values.specs.declared.refusals.Refusal.{Refusal}
use Rattle.run.specs.Promises.{entries}
use Rattle.run.specs.declared.calls.Answer.{Answer}
use Rattle.run.specs.declared.calls.Answer.TheVariants.{Done, Decided}
use Rattle.script.specs.Figures.{numbers_of}
use Rattle.script.specs.declared.figures.Figure.{Figure}
use Rattle.script.specs.declared.scripts.Line.{Line}
use Rattle.script.specs.declared.statements.Statement.{Statement}
use Rattle.script.specs.declared.statements.Statement.TheVariants.{Open, Seat, Forge, Close, Decision}

-- the call of the machine, where values mean these numbers
abbrev pub call_by : {V : Type 0} → (V → List ℕ) → Statement V → machine.Call
call_by means (Open n t initial proposals) = machine.Open n t (map means proposals.items) initial.0
call_by means (Seat set) = machine.Seat set.0
call_by means (Forge place cell) = machine.Forge place.sender place.receiver place.column (option_map means cell)
call_by means Close = machine.Close
call_by means (Decision controller) = machine.Decision controller

-- the call, with the numbers as they are written
abbrev pub written_call : Statement Figure → machine.Call
written_call = call_by numbers_of

-- the call under the rules of a kind: numbers that break its rule stand for its fallback
abbrev pub call_under : Rules → Statement Figure → machine.Call
call_under k = call_by (λ figure. stands k (numbers_of figure))

-- the answer of the machine, where a decision's cell has a figure's numbers
abbrev pub replied : Result (Answer Figure) Refusal → machine.Answer
replied (Ok Done) = machine.Done
replied (Ok (Decided cell)) = machine.Decided (option_map numbers_of cell)
replied (Err why) = machine.Refused why

-- the transcript of lines beside their answers, where values mean these numbers
abbrev pub log_by : (Figure → List ℕ) → List Line → List (Result (Answer Figure) Refusal) → Transcript
log_by means lines answers = entries (map (λ line. call_by means line.statement) lines) (map replied answers)
