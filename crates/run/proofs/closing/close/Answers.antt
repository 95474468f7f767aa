use Rattle.std.proofs.Common.{arith, ◌∙◌}
use Rattle.run.proofs.Parts.{close_forged, close_kept, close_past}
use Rattle.run.proofs.closing.close.Goals as goal

pub returns-clause-forged : goal.returns-clause-forged
returns-clause-forged g c =
    let cut1 = c.split_at_mut-kept in
    let cut2 = c.split_at_mut-work in
    close_forged g.K.Kind.rules g.K.Kind.plain c.args.block.now c.args.seating.now cut2.result.0.now cut2.result.1.now c.renew.new.work cut1.ensures.value cut2.ensures.value (cut1.ensures.front_len ∙ c.kept_cells.ensures) (cut2.ensures.front_len ∙ c.work_cells.ensures) (omega arith) (omega arith) c.renew.ensures c.empty.ensures

pub returns-clause-kept : goal.returns-clause-kept
returns-clause-kept g c =
    let cut1 = c.split_at_mut-kept in
    let cut2 = c.split_at_mut-work in
    close_kept g.K.Kind.rules g.K.Kind.plain c.args.block.now c.args.seating.now cut2.result.0.now cut2.result.1.now c.renew.new.work cut1.ensures.value cut2.ensures.value (cut1.ensures.front_len ∙ c.kept_cells.ensures) (cut2.ensures.front_len ∙ c.work_cells.ensures) (omega arith) (omega arith) c.renew.ensures c.empty.ensures

pub returns-clause-past : goal.returns-clause-past
returns-clause-past g c =
    let cut1 = c.split_at_mut-kept in
    let cut2 = c.split_at_mut-work in
    close_past g.K.Kind.rules g.K.Kind.plain c.args.block.now c.args.seating.now cut2.result.0.now cut2.result.1.now c.renew.new.work cut1.ensures.value cut2.ensures.value (cut1.ensures.front_len ∙ c.kept_cells.ensures) (cut2.ensures.front_len ∙ c.work_cells.ensures) (omega arith) (omega arith) c.renew.ensures c.empty.ensures
