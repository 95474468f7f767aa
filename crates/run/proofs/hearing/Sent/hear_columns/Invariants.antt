use Rattle.run.specs.Hearing.{hears}
use Rattle.run.proofs.Filling.{Filled}
use Rattle.run.proofs.hearing.Sent.hear_columns.Given as goal

abbrev pub invariant-loop-column : goal.invariant-loop-column
invariant-loop-column g l = Filled g.K.Kind.rules g.K.Kind.plain (λ column. hears l.fn.self l.receiver l.sender column) l.cells l.column
