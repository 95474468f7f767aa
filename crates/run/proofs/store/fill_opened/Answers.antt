use Rattle.std.proofs.Common.{◌≡◌, ℕ, arith, refl, map}
use Rattle.values.specs.Rules.{means}
use Rattle.values.specs.Cells.{Held, shows}
use Rattle.protocol.specs.Machine.{started}
use Rattle.run.proofs.Filling.{fill_more}
use Rattle.run.proofs.Opened.{member_started, other_started, opens}
use Rattle.run.proofs.Parts.{store_is, past_stays}
use Rattle.run.proofs.store.fill_opened.Goals as goal
use Rattle.run.proofs.store.fill_opened.Goals.{then-holds, else-holds}

pub loop-controller-preserved : goal.loop-controller-preserved
loop-controller-preserved g c =
    let k = g.K.Kind.rules in
    let plain = g.K.Kind.plain in
    let proposals = c.args.opening.proposals.now in
    let initial = c.args.opening.initial.0 in
    let l = c.loop-controller in
    let own : ℕ → Held = λ i. (started (map (means k plain) proposals) initial i).v in
    let written : shows k plain c.if-holds.v ≡ own l.controller =
    elim c.if-holds.branch [
      | then-holds w ↦ member_started k plain proposals initial l.controller c.if-holds.v c.holds.result w.v-is c.holds.ensures w.if-holds.true
      | else-holds w ↦ other_started k plain proposals initial l.controller c.if-holds.v w.index-proposals-controller.result c.holds.result w.v-is c.holds.ensures w.if-holds.false (omega arith) w.index-proposals-controller.is
    ] in
    fill_more k plain own l.v l.controller c.if-holds.v (omega arith) written l.invariant

pub returns-clause-kept : goal.returns-clause-kept
returns-clause-kept g c =
    let n = c.args.opening.n in
    let is = store_is n c.clear.new.cells c.clear-2.new.cells c.loop-controller.v c.clear-3.new.cells c.split_at_mut-decisions.result.1.now refl refl refl refl (omega arith) (omega arith) (omega arith) (omega arith) in
    opens g.K.Kind.rules g.K.Kind.plain c.args.opening.proposals.now n c.args.opening.initial.0 _
    (record { forged = c.clear.new.cells; rows = c.clear-2.new.cells; v = c.loop-controller.v; decisions = c.clear-3.new.cells }) _ _ is c.requires.proposals
    (λ i lt. c.loop-controller.invariant i (omega arith)) c.clear-2.ensures c.clear-3.ensures

pub returns-clause-past : goal.returns-clause-past
returns-clause-past g c =
    let cut1 = c.split_at_mut-forged in
    let cut2 = c.split_at_mut-rows in
    let cut3 = c.split_at_mut-v in
    let cut4 = c.split_at_mut-decisions in
    past_stays c.args.opening.n cut1.result.0.now cut2.result.0.now cut3.result.0.now cut4.result.0.now cut4.result.1.now cut1.ensures.value cut2.ensures.value cut3.ensures.value cut4.ensures.value cut1.ensures.front_len cut2.ensures.front_len cut3.ensures.front_len cut4.ensures.front_len
    c.clear.new.cells c.clear-2.new.cells c.loop-controller.v c.clear-3.new.cells (omega arith) (omega arith) (omega arith) (omega arith)
