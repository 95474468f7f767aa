use Rattle.std.proofs.Common.{arith}
use Rattle.run.proofs.Parts.{past_stays}
use Rattle.run.proofs.store.clear_forged.Goals as goal

pub returns-clause-past : goal.returns-clause-past
returns-clause-past g c =
    let cut1 = c.split_at_mut-forged in
    let cut2 = c.split_at_mut-rest in
    let cut3 = c.split_at_mut-rest-2 in
    let cut4 = c.split_at_mut in
    past_stays c.args.n cut1.result.0.now cut2.result.0.now cut3.result.0.now cut4.result.0.now cut4.result.1.now cut1.ensures.value cut2.ensures.value cut3.ensures.value cut4.ensures.value cut1.ensures.front_len cut2.ensures.front_len cut3.ensures.front_len cut4.ensures.front_len
    c.clear.new.cells cut2.result.0.now cut3.result.0.now cut4.result.0.now (omega arith) cut2.ensures.front_len cut3.ensures.front_len cut4.ensures.front_len
