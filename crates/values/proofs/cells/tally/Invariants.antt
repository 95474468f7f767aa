use Rattle.std.proofs.Common.{◌≡◌, ◌+◌, ◌≤◌}
use Rattle.values.specs.Rules.{means}
use Rattle.values.specs.Cells.{seen, holders, others}
use Rattle.values.proofs.cells.tally.Given as goal

abbrev pub invariant-loop-cell : goal.invariant-loop-cell
invariant-loop-cell g l =
    let cells = seen g.K.Kind.rules g.K.Kind.plain l.cells in
    let v = means g.K.Kind.rules g.K.Kind.plain l.row in
    (l.held + l.otherwise ≤ l.cell-index) × (l.held ≡ holders cells l.cell-index v) × (l.otherwise ≡ others cells l.cell-index v)
