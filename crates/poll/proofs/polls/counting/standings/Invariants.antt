use Rattle.std.proofs.Common.{◌≡◌, map}
use Rattle.poll.specs.Polls.{shown, counted, distinct, told}
use Rattle.poll.proofs.polls.counting.standings.Given as goal

abbrev pub invariant-loop-i : goal.invariant-loop-i
invariant-loop-i l = map told l.found.items ≡ map (counted (map shown l.cells)) (distinct (map shown l.cells) l.i)
