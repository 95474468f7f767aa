use Rattle.std.proofs.Common.{◌≡◌, ℕ, ◌<◌, length, get_or}
use Rattle.models.specs.declared.classes.Class.TheVariants.{Honest}
use Rattle.run.proofs.checks.check_seat.Given as goal

abbrev pub invariant-loop-controller : goal.invariant-loop-controller
invariant-loop-controller g l =
    (length l.classes ≡ 16)
    × ((i : ℕ) → i < l.controller → get_or l.classes i Honest ≡ (g.M.Model.meaning l.fn.model).class l.fn.block.last.0 l.fn.set.0 l.fn.block.t i)
