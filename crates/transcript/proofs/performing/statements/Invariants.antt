use Rattle.std.proofs.Common.{◌≡◌, map, take}
use Rattle.values.specs.Rules.{means}
use Rattle.script.specs.Statements.{call_by}
use Rattle.transcript.specs.Rows.{calls_under}
use Rattle.transcript.proofs.performing.statements.Given as goal

abbrev pub invariant-loop-line : goal.invariant-loop-line
invariant-loop-line g l = map (call_by (means g.K.Kind.rules g.K.Kind.plain)) l.statements.items ≡ calls_under g.K.Kind.rules (take l.line-index l.lines)
