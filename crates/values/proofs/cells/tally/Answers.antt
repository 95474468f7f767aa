use Rattle.std.proofs.Common.{arith, rules}
use Rattle.values.specs.Rules.{means}
use Rattle.values.specs.Cells.{seen, holds, differs}
use Rattle.values.proofs.Alike.{alike_tells}
use Rattle.values.proofs.Counts.{count_none, count_more}
use Rattle.values.proofs.Seen.{seen_at}
use Rattle.values.proofs.cells.tally.Goals as goal

pub loop-cell-init : goal.loop-cell-init
loop-cell-init g c = search (rules, count_none)

pub loop-cell-preserved : goal.loop-cell-preserved
unfolding holds differs
loop-cell-preserved g c =
    let k = g.K.Kind.rules in
    let plain = g.K.Kind.plain in
    let v = means k plain c.args.row.now in
    let cells = seen k plain c.args.cells.now in
    let i = c.loop-cell.cell-index in
    let here = seen_at k plain c.args.cells.now i c.cell-item.result c.loop-cell-test.true c.cell-item.is in
    let held = count_more (λ j. holds v (cells j)) i in
    let otherwise = count_more (λ j. differs v (cells j)) i in
    grind (arith, alike_tells)
