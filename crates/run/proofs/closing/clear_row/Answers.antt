use Rattle.std.proofs.Common.{arith}
use Rattle.run.proofs.Clearing.{row_shown}
use Rattle.run.proofs.closing.clear_row.Goals as goal

pub returns : goal.returns
returns g c =
    row_shown g.K.Kind.rules g.K.Kind.plain c.args.n c.args.controller _ c.args.rows.now c.clear.new.cells c.requires.controller c.requires.rows c.clear.ensures (omega arith)
