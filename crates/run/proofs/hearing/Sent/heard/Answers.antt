use Rattle.std.proofs.Common.{arith}
use Rattle.std.proofs.lemmas.Bool.Decides.{nat_tests}
use Rattle.values.proofs.Seen.{seen_at}
use Rattle.protocol.specs.Rounds.{told}
use Rattle.run.proofs.Heard.{column_fits}
use Rattle.run.proofs.hearing.Sent.heard.Goals as goal

pub returns-in-Honest : goal.returns-in-Honest
unfolding told
returns-in-Honest g c = grind (arith, nat_tests)

pub returns-in-Silent : goal.returns-in-Silent
unfolding told
returns-in-Silent g c = grind (arith, nat_tests)

pub returns-in-Uniform : goal.returns-in-Uniform
unfolding told
returns-in-Uniform g c =
    let column = column_fits c.args.self.now.stage c.args.self.now.n c.args.column c.args.sender c.requires.sender c.requires.column in
    let at = seen_at g.K.Kind.rules g.K.Kind.plain c.args.self.now.forged.now c.forged_place.result c.index-self-forged_place.result (omega (arith, c.args.self.now.forged_size)) c.index-self-forged_place.is in
    grind (arith, nat_tests)

pub returns-in-Free : goal.returns-in-Free
unfolding told
returns-in-Free g c =
    let column = column_fits c.args.self.now.stage c.args.self.now.n c.args.column c.args.sender c.requires.sender c.requires.column in
    let at = seen_at g.K.Kind.rules g.K.Kind.plain c.args.self.now.forged.now c.forged_place-in-Free.result c.index-self-forged_place-in-Free.result (omega (arith, c.args.self.now.forged_size)) c.index-self-forged_place-in-Free.is in
    grind (arith, nat_tests)
