use Rattle.std.proofs.Common.{refl, ap, sym, subst, ◌∙◌, ◌+◌, ℕ, map, take, [], ◌∷◌, ◌++◌}
use Rattle.std.proofs.lemmas.List.{map_more, append-nil}
use Rattle.values.specs.Rules.{means}
use Rattle.protocol.specs.Transcripts.{Opening}
use Rattle.trials.specs.declared.callers.rounds.Plan.{Plan}
use Rattle.trials.specs.Callers.{Spared, RunsRounds}
use Rattle.trials.proofs.CallerLogs.{no_rounds, then_rounds, all_rounds, concludes}
use Rattle.trials.proofs.callers.rounds.run_plans.Goals as goal

pub loop-plan-init : goal.loop-plan-init
loop-plan-init g c = no_rounds (g.M.Model.meaning c.args.model.now) c.open.new.self

pub loop-plan-preserved : goal.loop-plan-preserved
loop-plan-preserved g c =
    let m = g.M.Model.meaning c.args.model.now in
    let i = c.loop-plan.plan-index in
    let seated = map (λ (plan : Plan g.row.K-Row.Denot). plan.set.0) (take i c.args.plans.now) in
    let more =
    map_more (λ (plan : Plan g.row.K-Row.Denot). plan.set.0) c.args.plans.now i c.plan-item.result c.loop-plan-test.true
    ∙ ap (λ (plan : Plan g.row.K-Row.Denot). seated ++ plan.set.0 ∷ []) (sym c.plan-item.is) in
    subst (λ seated. RunsRounds m seated (i + 1) c.open.new.self c.run_round.new.run) (sym more)
    (then_rounds m _ _ i 1 c.open.new.self c.loop-plan.run c.run_round.new.run c.loop-plan.invariant c.in_ok-run_round.ensures)

pub returns : goal.returns
returns g c n clean =
    let m = g.M.Model.meaning c.args.model.now in
    let o = c.args.opening in
    let set_of : Plan g.row.K-Row.Denot → ℕ = λ plan. plan.set.0 in
    let all = c.args.plans.now in
    let run = c.loop-plan.run in
    let opening : Opening = record { n = o.n; t = o.t; proposals = map (means g.K.Kind.rules g.K.Kind.plain) o.proposals.now; initial = o.initial.0 } in
    let rounds = all_rounds m set_of all c.loop-plan.plan-index c.open.new.self run c.loop-plan-test.false c.loop-plan.auto.plan-index-end c.loop-plan.invariant in
    let both = concludes m opening o.proposals.now refl c.new-run.result c.open.new.self run run (map set_of all) [] rounds (no_rounds m run) c.args.asked.0 c.args.asked.1 c.in_ok-first.first c.in_ok-second.second
    c.lawful.ensures c.new-run.ensures.idle c.in_ok-open.ensures (c.in_ok-first.ensures.performed m) c.in_ok-second.ensures.law in
    both.equal n (subst (λ sets. Spared sets o.n n) (sym (append-nil (map set_of all))) clean)
