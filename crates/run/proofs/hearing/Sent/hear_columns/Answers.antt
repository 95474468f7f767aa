use Rattle.std.proofs.Common.{arith}
use Rattle.run.specs.Hearing.{hears}
use Rattle.run.proofs.Filling.{fill_more, filled_all}
use Rattle.run.proofs.Heard.{no_column}
use Rattle.run.proofs.hearing.Sent.hear_columns.Goals as goal

pub loop-column-preserved : goal.loop-column-preserved
loop-column-preserved g c =
    fill_more g.K.Kind.rules g.K.Kind.plain (λ column. hears c.args.self.now c.args.receiver c.args.sender column) c.loop-column.cells c.loop-column.column c.heard.result (omega arith) c.heard.ensures c.loop-column.invariant

pub returns : goal.returns
returns g c =
    filled_all g.K.Kind.rules g.K.Kind.plain (λ column. hears c.args.self.now c.args.receiver c.args.sender column) c.loop-column.cells c.args.self.now.n (omega arith) (λ j ge. no_column c.args.self.now c.args.receiver c.args.sender j c.requires.stage ge) (λ j lt. c.loop-column.invariant j (omega arith))
