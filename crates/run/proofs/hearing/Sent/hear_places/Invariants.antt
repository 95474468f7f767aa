use Rattle.std.proofs.Common.{None, get_or}
use Rattle.protocol.specs.Rounds.{at_place}
use Rattle.run.specs.Hearing.{hears}
use Rattle.run.proofs.Filling.{Filled}
use Rattle.run.proofs.hearing.Sent.hear_places.Given as goal

abbrev pub invariant-loop-column : goal.invariant-loop-column
invariant-loop-column g l = Filled g.K.Kind.rules g.K.Kind.plain (λ k. at_place (λ j. hears l.fn.self l.receiver j k) (get_or l.fn.places k None)) l.cells l.column
