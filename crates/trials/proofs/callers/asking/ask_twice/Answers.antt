use Rattle.std.proofs.Common.{ℕ, refl, sym, subst, ◌+◌, ◌++◌, map, length}
use Rattle.std.proofs.lemmas.List.{map_more, map-append, length-map}
use Rattle.values.specs.Rules.{means}
use Rattle.models.specs.declared.sets.Set.{Set}
use Rattle.protocol.specs.Transcripts.{Opening}
use Rattle.trials.specs.Callers.{RunsRounds, Concludes}
use Rattle.trials.proofs.CallerLogs.{no_rounds, one_round, all_rounds, concludes}
use Rattle.trials.proofs.callers.asking.ask_twice.Goals as goal

pub loop-set-init : goal.loop-set-init
loop-set-init g c = no_rounds (g.M.Model.meaning c.args.model.now) c.open.new.self

pub loop-set-preserved : goal.loop-set-preserved
loop-set-preserved g c =
    let m = g.M.Model.meaning c.args.model.now in
    let i = c.loop-set.set-index in
    subst (λ seated. RunsRounds m seated (i + 1) c.open.new.self c.close.new.self) (sym (map_more (λ (set : Set). set.0) c.args.earlier.now i _ c.loop-set-test.true))
    (one_round m _ i _ c.open.new.self c.loop-set.run c.seat.new.self c.close.new.self c.loop-set.invariant c.in_ok-seat.ensures (c.in_ok-close.ensures.performed m))

pub loop-set-2-init : goal.loop-set-2-init
loop-set-2-init g c = no_rounds (g.M.Model.meaning c.args.model.now) c.loop-set.run

pub loop-set-2-preserved : goal.loop-set-2-preserved
loop-set-2-preserved g c =
    let m = g.M.Model.meaning c.args.model.now in
    let i = c.loop-set-2.set-index in
    subst (λ seated. RunsRounds m seated (i + 1) c.loop-set.run c.close-in-loop-set-2.new.self) (sym (map_more (λ (set : Set). set.0) c.args.later.now i _ c.loop-set-2-test.true))
    (one_round m _ i _ c.loop-set.run c.loop-set-2.run c.seat-in-loop-set-2.new.self c.close-in-loop-set-2.new.self c.loop-set-2.invariant c.in_ok-seat-2.ensures (c.in_ok-close-2.ensures.performed m))

pub returns : goal.returns
returns g c =
    let m = g.M.Model.meaning c.args.model.now in
    let o = c.args.opening in
    let set_of : Set → ℕ = λ set. set.0 in
    let earlier = c.args.earlier.now in
    let later = c.args.later.now in
    let opening : Opening = record { n = o.n; t = o.t; proposals = map (means g.K.Kind.rules g.K.Kind.plain) o.proposals.now; initial = o.initial.0 } in
    let one = all_rounds m set_of earlier c.loop-set.set-index c.open.new.self c.loop-set.run c.loop-set-test.false c.loop-set.auto.set-index-end c.loop-set.invariant in
    let two = all_rounds m set_of later c.loop-set-2.set-index c.loop-set.run c.loop-set-2.run c.loop-set-2-test.false c.loop-set-2.auto.set-index-end c.loop-set-2.invariant in
    let all = concludes m opening o.proposals.now refl c.new-run.result c.open.new.self c.loop-set.run c.loop-set-2.run (map set_of earlier) (map set_of later) one two c.args.asked.0 c.args.asked.1 c.in_ok-first.first c.in_ok-second.second
    c.lawful.ensures c.new-run.ensures.idle c.in_ok-open.ensures (c.in_ok-first.ensures.performed m) c.in_ok-second.ensures.law in
    let same_sets = sym (map-append set_of earlier later) in
    let same_length = length-map earlier set_of in
    subst (λ sets. Concludes g.K.Kind.rules g.K.Kind.plain o.n o.proposals.now sets (length earlier) c.in_ok-first.first c.in_ok-second.second) same_sets
    (subst (λ count. Concludes g.K.Kind.rules g.K.Kind.plain o.n o.proposals.now (map set_of earlier ++ map set_of later) count c.in_ok-first.first c.in_ok-second.second) same_length all)
