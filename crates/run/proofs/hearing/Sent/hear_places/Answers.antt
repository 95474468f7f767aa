use Rattle.std.proofs.Common.{arith, None, get_or, ℕ}
use Rattle.values.specs.Cells.{Held}
use Rattle.protocol.specs.Rounds.{at_place}
use Rattle.run.specs.Hearing.{hears}
use Rattle.run.proofs.Filling.{fill_more}
use Rattle.run.proofs.hearing.Sent.hear_places.Goals as goal

pub loop-column-preserved : goal.loop-column-preserved
loop-column-preserved g c =
    let self = c.args.self.now in
    let i = c.loop-column.column in
    let own : ℕ → Held = λ k. at_place (λ j. hears self c.args.receiver j k) (get_or c.args.places.now k None) in
    fill_more g.K.Kind.rules g.K.Kind.plain own c.loop-column.cells i c.heard_at.result (omega arith) c.heard_at.ensures c.loop-column.invariant
