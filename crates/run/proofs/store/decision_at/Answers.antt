use Rattle.std.proofs.Common.{arith, ap}
use Rattle.run.specs.Stores.{Store}
use Rattle.run.proofs.Parts.{store_is, decision_is}
use Rattle.run.proofs.store.decision_at.Goals as goal

pub returns : goal.returns
returns g c =
    let n = c.args.n in
    let cut1 = c.split_at in
    let cut2 = c.split_at-2 in
    let cut3 = c.split_at-3 in
    let cut4 = c.split_at-4 in
    let read = c.index-decisions-controller in
    let is = store_is n cut1.result.0.now cut2.result.0.now cut3.result.0.now cut4.result.0.now cut4.result.1.now cut1.ensures.by_index.0 cut2.ensures.by_index.0 cut3.ensures.by_index.0 cut4.ensures.by_index.0
    cut1.ensures.front_len cut2.ensures.front_len cut3.ensures.front_len cut4.ensures.front_len in
    decision_is g.K.Kind.rules g.K.Kind.plain n c.args.controller c.args.cells.now cut4.result.0.now read.result c.requires.controller (ap (λ (s : Store _). s.decisions) is) (omega arith) read.is
