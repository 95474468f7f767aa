use Rattle.std.proofs.Common.{arith, refl, ◌≡◌}
use Rattle.run.proofs.Parts.{most_cells}
use Rattle.run.proofs.layout.needed.Goals as goal

pub returns-clause-most : goal.returns-clause-most
returns-clause-most c =
    let n = c.min-n.result in
    (omega (arith, c.kept_cells.ensures, c.work_cells.ensures, most_cells n (omega (arith, c.min-n.ensures))), λ ge. let all : n ≡ 16 = omega (arith, c.min-n.ensures) in rw (c.kept_cells.ensures, c.work_cells.ensures, all) refl)
