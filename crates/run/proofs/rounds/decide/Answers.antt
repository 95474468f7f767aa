use Rattle.std.proofs.Common.{arith}
use Rattle.values.specs.Cells.{seen}
use Rattle.protocol.specs.Stages.{coordinator_of}
use Rattle.run.proofs.Heard.{settles_more}
use Rattle.run.proofs.rounds.decide.Goals as goal

pub hear_columns-requires-clause-sender : goal.hear_columns-requires-clause-sender
unfolding coordinator_of
hear_columns-requires-clause-sender g c = omega (arith, c.coordinator.ensures)

pub loop-receiver-preserved : goal.loop-receiver-preserved
loop-receiver-preserved g c =
    let k = g.K.Kind.rules in
    let plain = g.K.Kind.plain in
    settles_more k plain c.args.sent.now c.args.counts c.args.phase c.loop-receiver.next c.loop-receiver.receiver c.settled.result c.hear_places.new.cells c.candidates-places.result (seen k plain c.hear_columns.new.cells) c.coordinator.result
    c.requires.stage (omega arith) (omega arith) c.settled.ensures c.candidates-places.ensures.places c.hear_places.ensures c.hear_columns.ensures c.coordinator.ensures c.loop-receiver.invariant
