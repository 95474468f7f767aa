use Rattle.std.proofs.Common.{arith}
use Rattle.run.specs.Hearing.{hears}
use Rattle.run.proofs.Filling.{fill_more, filled_all}
use Rattle.run.proofs.Heard.{nobody}
use Rattle.run.proofs.hearing.Sent.hear_senders.Goals as goal

pub loop-sender-preserved : goal.loop-sender-preserved
loop-sender-preserved g c =
    fill_more g.K.Kind.rules g.K.Kind.plain (λ sender. hears c.args.self.now c.args.receiver sender c.args.column) c.loop-sender.cells c.loop-sender.sender c.heard.result (omega arith) c.heard.ensures c.loop-sender.invariant

pub returns : goal.returns
returns g c =
    filled_all g.K.Kind.rules g.K.Kind.plain (λ sender. hears c.args.self.now c.args.receiver sender c.args.column) c.loop-sender.cells c.args.self.now.n (omega arith) (λ j ge. nobody c.args.self.now c.args.receiver j c.args.column ge) (λ j lt. c.loop-sender.invariant j (omega arith))
