use Rattle.std.proofs.Common.{◌/◌, ◌%◌}
use Rattle.run.specs.Hearing.{hears}
use Rattle.run.proofs.Filling.{Filled}
use Rattle.run.proofs.rounds.collect.Given as goal

abbrev pub invariant-loop-place : goal.invariant-loop-place
invariant-loop-place g l = Filled g.K.Kind.rules g.K.Kind.plain (λ place. hears l.fn.sent (place / l.n) (place % l.n) 0) l.rows l.place
