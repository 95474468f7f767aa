use Rattle.std.proofs.Common.{◌≡◌}
use Rattle.run.proofs.Playing.{InPlay}
use Rattle.run.proofs.plays.play.Given as goal

abbrev pub invariant-loop-at : goal.invariant-loop-at
invariant-loop-at g l =
    InPlay {V = g.row.K.Denot} {R = g.row.K-Row.Denot} g.K.Kind (g.M.Model.meaning l.fn.model) l.fn.calls l.fn.cells l.initial.run l.run l.fn.answers l.answers l.at
    × (l.run.cells.ghost_name ≡ l.initial.run.cells.ghost_name)
