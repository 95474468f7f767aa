use Rattle.std.proofs.Common.{arith, refl}
use Rattle.run.proofs.Emptying.{held_more, free_more, all_emptied}
use Rattle.run.proofs.Parts.{store_is}
use Rattle.run.proofs.closing.empty.Goals as goal
use Rattle.run.proofs.closing.empty.Goals.{then-holds, else-holds}

pub loop-controller-preserved : goal.loop-controller-preserved
loop-controller-preserved g c =
    let k = g.K.Kind.rules in
    let plain = g.K.Kind.plain in
    let rows = c.split_at_mut-rows.result.0.now in
    let v = c.split_at_mut-v.result.0.now in
    let decisions = c.split_at_mut-decisions.result.0.now in
    let l = c.loop-controller in
    let now = c.if-holds in
    elim now.branch [
      | then-holds w ↦ held_more k plain c.args.n c.args.set.0 l.controller rows v decisions l.rows l.v l.decisions l.invariant now.rows now.v now.decisions c.holds.result c.holds.ensures
          (omega arith) (omega arith) (omega arith) w.if-holds.true (rw w.rows-is w.clear_row.ensures) w.v-is w.decisions-is
      | else-holds w ↦ free_more k plain c.args.n c.args.set.0 l.controller rows v decisions l.rows l.v l.decisions l.invariant now.rows now.v now.decisions c.holds.result c.holds.ensures
          w.if-holds.false w.rows-is w.v-is w.decisions-is
    ]

pub returns : goal.returns
returns g c =
    let n = c.args.n in
    let l = c.loop-controller in
    let cut1 = c.split_at_mut-rest in
    let cut2 = c.split_at_mut-rows in
    let cut3 = c.split_at_mut-v in
    let cut4 = c.split_at_mut-decisions in
    let behind = cut4.result.1.now in
    let was = store_is n cut1.result.0.now cut2.result.0.now cut3.result.0.now cut4.result.0.now behind cut1.ensures.value cut2.ensures.value cut3.ensures.value cut4.ensures.value cut1.ensures.front_len cut2.ensures.front_len cut3.ensures.front_len cut4.ensures.front_len in
    let is = store_is n cut1.result.0.now l.rows l.v l.decisions behind refl refl refl refl cut1.ensures.front_len (omega arith) (omega arith) (omega arith) in
    all_emptied g.K.Kind.rules g.K.Kind.plain n c.args.set.0 l.controller c.args.kept.now _ cut1.result.0.now cut2.result.0.now cut3.result.0.now cut4.result.0.now l.rows l.v l.decisions was is (omega arith) l.invariant
