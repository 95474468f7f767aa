use Rattle.std.proofs.Common.{arith, ◌+◌, ◌*◌, ◌/◌, ◌%◌}
use Rattle.std.proofs.lemmas.Nat.{mul-add-lt}
use Rattle.values.specs.Cells.{seen}
use Rattle.run.specs.Hearing.{hears}
use Rattle.run.proofs.Filling.{fill_more}
use Rattle.run.proofs.Heard.{noted}
use Rattle.run.proofs.rounds.collect.Goals as goal

pub loop-place-preserved : goal.loop-place-preserved
loop-place-preserved g c =
    let sent = c.args.sent.now in
    fill_more g.K.Kind.rules g.K.Kind.plain (λ place. hears sent (place / sent.n) (place % sent.n) 0) c.loop-place.rows c.loop-place.place c.heard.result (omega arith) c.heard.ensures c.loop-place.invariant

pub returns : goal.returns
returns g c i j i_below j_below =
    let sent = c.args.sent.now in
    let place = i * sent.n + j in
    noted sent (seen g.K.Kind.rules g.K.Kind.plain c.loop-place.rows place) i j j_below (c.loop-place.invariant place (omega (arith, mul-add-lt i sent.n j sent.n i_below j_below)))
