use Rattle.std.proofs.Common.{refl, [], ◌∷◌}
use Rattle.trials.proofs.CallerLogs.{one_call, then_rounds, closed_round}
use Rattle.trials.proofs.callers.rounds.run_round.Goals as goal

pub loop-place-init : goal.loop-place-init
loop-place-init g c = one_call (g.M.Model.meaning c.args.model.now) _ _ (c.args.plan.set.0 ∷ []) 0 c.args.run.now c.seat.new.self refl refl refl refl c.in_ok-seat.ensures

-- whatever a forge answers, it adds nothing
pub loop-place-preserved : goal.loop-place-preserved
loop-place-preserved g c =
    let m = g.M.Model.meaning c.args.model.now in
    let run = c.loop-place.run in
    then_rounds m (c.args.plan.set.0 ∷ []) [] 0 0 c.args.run.now run c.forge.new.self c.loop-place.invariant (one_call m _ _ [] 0 run c.forge.new.self refl refl refl refl (c.forge.ensures.performed m))

pub returns : goal.returns
returns g c =
    let m = g.M.Model.meaning c.args.model.now in
    closed_round m c.args.plan.set.0 c.args.run.now c.loop-place.run c.close.new.self c.close.result c.loop-place.invariant (c.close.ensures.performed m)
