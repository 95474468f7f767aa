use Rattle.std.proofs.Common.{◌≡◌, ◌*◌, ◌+◌, ◌<◌, ℕ, refl, sym, subst, ◌∙◌, ◌/◌, Some, None, replicate}
use Rattle.values.specs.Cells.{seen}
use Rattle.protocol.specs.Rounds.{proposed, maintained, candidate, settled}
use Rattle.protocol.specs.Stages.{coordinator_of}
use Rattle.run.specs.Stores.{store}
use Rattle.run.proofs.Heard.{deciding_phase}
use Rattle.run.proofs.Renewing.{of_sent, renews_v, renews_rows, renews_decisions, proposing, collecting, deciding_last, deciding_early, maintaining}
use Rattle.run.proofs.closing.renew.Goals as goal

pub decide-requires-clause-phase : goal.decide-requires-clause-phase
decide-requires-clause-phase g c =
    let round = c.args.block.now.round in
    subst (λ n. round / 3 < n) (sym c.over-sent.ensures.round.0) (deciding_phase c.args.block.now.n round (sym c.of-stage.ensures ∙ c.in-Deciding.is))

pub returns-in-Proposing : goal.returns-in-Proposing
returns-in-Proposing g c =
    let k = g.K.Kind.rules in
    let plain = g.K.Kind.plain in
    let b = c.args.block.now in
    let seating = c.args.seating.now in
    let s = store b.n c.args.kept.now in
    let stage = c.of-stage.result in
    let none = replicate b.n None in
    let of = of_sent b seating s stage c.over-sent.result c.over-sent.ensures.round c.over-sent.ensures.store in
    let next = c.propose.new.next in
    let computed = of (λ n h. (i : ℕ) → i < n → seen k plain next i ≡ proposed n b.counts (λ j. h i j 0)) c.propose.ensures in
    renews_v k plain b seating c.args.kept.now c.put_v.new.cells c.clear_decisions.new.cells next none c.put_v.ensures c.clear_decisions.ensures
    (proposing k plain b seating s stage c.of-stage.ensures next next none b.n c.in-Proposing.is computed refl refl)

pub returns-in-Collecting : goal.returns-in-Collecting
returns-in-Collecting g c =
    let k = g.K.Kind.rules in
    let plain = g.K.Kind.plain in
    let b = c.args.block.now in
    let seating = c.args.seating.now in
    let s = store b.n c.args.kept.now in
    let stage = c.of-stage.result in
    let none = replicate b.n None in
    let of = of_sent b seating s stage c.over-sent.result c.over-sent.ensures.round c.over-sent.ensures.store in
    let next = c.collect.new.rows in
    let computed = of (λ n h. (i j : ℕ) → i < n → j < n → seen k plain next (i * n + j) ≡ h i j 0) c.collect.ensures in
    renews_rows k plain b seating c.args.kept.now c.put_rows.new.cells c.clear_decisions-in-Collecting.new.cells next none c.put_rows.ensures c.clear_decisions-in-Collecting.ensures
    (collecting k plain b seating s stage c.of-stage.ensures next next none b.n c.in-Collecting.is computed refl refl)

pub returns-then-block-n : goal.returns-then-block-n
returns-then-block-n g c =
    let k = g.K.Kind.rules in
    let plain = g.K.Kind.plain in
    let b = c.args.block.now in
    let seating = c.args.seating.now in
    let s = store b.n c.args.kept.now in
    let stage = c.of-stage.result in
    let of = of_sent b seating s stage c.over-sent.result c.over-sent.ensures.round c.over-sent.ensures.store in
    let next = c.decide.new.next in
    let computed = of (λ n h. (i : ℕ) → i < n → seen k plain next i ≡ Some (settled n b.counts k.fallback (candidate n b.counts (h i)) (h i (coordinator_of (b.round / 3))))) c.decide.ensures in
    renews_v k plain b seating c.args.kept.now c.put_v-in-Deciding.new.cells c.put_decisions.new.cells next next c.put_v-in-Deciding.ensures c.put_decisions.ensures
    (deciding_last k plain b seating s stage c.of-stage.ensures next next next c.in-Deciding.is computed refl c.if-block-n.true refl)

pub returns-else-block-n : goal.returns-else-block-n
returns-else-block-n g c =
    let k = g.K.Kind.rules in
    let plain = g.K.Kind.plain in
    let b = c.args.block.now in
    let seating = c.args.seating.now in
    let s = store b.n c.args.kept.now in
    let stage = c.of-stage.result in
    let none = replicate b.n None in
    let of = of_sent b seating s stage c.over-sent.result c.over-sent.ensures.round c.over-sent.ensures.store in
    let next = c.decide.new.next in
    let computed = of (λ n h. (i : ℕ) → i < n → seen k plain next i ≡ Some (settled n b.counts k.fallback (candidate n b.counts (h i)) (h i (coordinator_of (b.round / 3))))) c.decide.ensures in
    renews_v k plain b seating c.args.kept.now c.put_v-in-Deciding.new.cells c.clear_decisions-else-block-n.new.cells next none c.put_v-in-Deciding.ensures c.clear_decisions-else-block-n.ensures
    (deciding_early k plain b seating s stage c.of-stage.ensures next next none c.in-Deciding.is computed refl b.n c.if-block-n.false refl)

pub returns-in-Maintaining : goal.returns-in-Maintaining
returns-in-Maintaining g c =
    let k = g.K.Kind.rules in
    let plain = g.K.Kind.plain in
    let b = c.args.block.now in
    let seating = c.args.seating.now in
    let s = store b.n c.args.kept.now in
    let stage = c.of-stage.result in
    let of = of_sent b seating s stage c.over-sent.result c.over-sent.ensures.round c.over-sent.ensures.store in
    let next = c.maintain.new.next in
    let computed = of (λ n h. (i : ℕ) → i < n → seen k plain next i ≡ maintained n b.counts (λ j. h i j 0)) c.maintain.ensures in
    renews_decisions k plain b seating c.args.kept.now c.args.kept.now c.put_decisions-in-Maintaining.new.cells next c.put_decisions-in-Maintaining.ensures
    (maintaining k plain b seating s stage c.of-stage.ensures next next c.in-Maintaining.is computed refl)
