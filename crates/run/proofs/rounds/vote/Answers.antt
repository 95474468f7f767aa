use Rattle.std.proofs.Common.{arith, length, ℕ}
use Rattle.values.specs.Cells.{Held, shows, seen}
use Rattle.protocol.specs.Rounds.{chosen}
use Rattle.run.specs.Hearing.{hears}
use Rattle.run.proofs.Filling.{fill_more, by_cells}
use Rattle.run.proofs.rounds.vote.Goals as goal

pub loop-receiver-preserved : goal.loop-receiver-preserved
loop-receiver-preserved g c =
    let k = g.K.Kind.rules in
    let plain = g.K.Kind.plain in
    let sent = c.args.sent.now in
    let i = c.loop-receiver.receiver in
    let voted = chosen c.args.quorum.at_least c.args.quorum.otherwise_at_most in
    let column = c.hear_senders.new.cells in
    let own : ℕ → Held = λ i. voted (λ j. hears sent i j 0) sent.n in
    fill_more k plain own c.loop-receiver.next i c.chosen.result (omega arith)
    (by_cells voted (shows k plain c.chosen.result) (seen k plain column) (λ j. hears sent i j 0) (length column) sent.n c.chosen.ensures c.hear_senders.ensures (omega arith)) c.loop-receiver.invariant
