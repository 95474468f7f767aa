use Rattle.std.proofs.Common.{rules, refl, ◌≡◌, ◌+◌, ◌<◌, ◌∙◌, sym, subst, arith, length, map, take, drop}
use Rattle.protocol.specs.Machine.{Idle, needed}
use Rattle.protocol.specs.Transcripts.{state_after}
use Rattle.run.specs.Calls.{asked}
use Rattle.run.specs.Runs.{setting_over, state}
use Rattle.run.specs.Promises.{block_size}
use Rattle.run.proofs.Playing.{InPlay, none_played, found, one_played, law_told, decisions_told, past_end}
use Rattle.run.proofs.plays.play.Goals as goal

pub loop-at-init : goal.loop-at-init
loop-at-init g c = (none_played g.K.Kind (g.M.Model.meaning c.args.model.now) c.args.calls.now c.args.cells.now c.new-run.result c.args.answers.now c.new-run.ensures.idle, refl {a = c.new-run.result.cells.ghost_name})

pub loop-at-preserved : goal.loop-at-preserved
loop-at-preserved g c =
    let m = g.M.Model.meaning c.args.model.now in
    let l = c.loop-at in
    let play = InPlay {V = g.row.K.Denot} {R = g.row.K-Row.Denot} g.K.Kind m c.args.calls.now c.args.cells.now c.new-run.result c.perform.new.self c.args.answers.now in
    let in_calls : l.at < length c.args.calls.now = omega (arith, c.min-count.ensures) in
    let in_answers : l.at < length l.answers = omega (arith, c.min-count.ensures, l.auto.answers) in
    let is = found c.args.calls.now l.at c.in-Some.call c.get.result c.get.ensures.lookup.1 (sym c.copied.ensures ∙ c.in-Some.is) in (
      subst (λ answers. play answers (l.at + 1)) (sym c.put.ensures)
          (one_played g.K.Kind m c.args.calls.now c.args.cells.now c.new-run.result l.run c.perform.new.self c.args.answers.now l.answers l.at c.in-Some.call c.perform.result c.new-run.ensures.setting l.invariant.0 in_calls in_answers is c.perform.ensures),
      c.perform.ensures.named ∙ l.invariant.1,
    )

pub returns-clause-answers : goal.returns-clause-answers
returns-clause-answers g c = let all : c.loop-at.at ≡ c.min-count.result = omega arith in rw (sym all) c.loop-at.invariant.0.told

pub returns-clause-law : goal.returns-clause-law
returns-clause-law g c lawful =
    let m = g.M.Model.meaning c.args.model.now in
    law_told g.K.Kind m c.args.calls.now c.args.cells.now c.loop-at.answers c.min-count.result (returns-clause-answers g c) (c.decisions_agree.ensures _ m lawful _)

pub returns-clause-decided : goal.returns-clause-decided
returns-clause-decided g c = decisions_told g.K.Kind (g.M.Model.meaning c.args.model.now) c.args.calls.now c.args.cells.now c.loop-at.answers c.min-count.result (returns-clause-answers g c)

pub returns-clause-rest : goal.returns-clause-rest
returns-clause-rest g c = let all : c.loop-at.at ≡ c.min-count.result = omega arith in rw (sym all) c.loop-at.invariant.0.rest

pub returns-clause-left : goal.returns-clause-left
returns-clause-left g c =
    let all : c.loop-at.at ≡ c.min-count.result = omega arith in
    let x = setting_over g.K.Kind.rules c.args.cells.now in
    let ends = subst (λ at. state c.loop-at.run ≡ state_after x (g.M.Model.meaning c.args.model.now) Idle (map (asked g.K.Kind.rules g.K.Kind.plain) (take at c.args.calls.now))) all (sym c.loop-at.invariant.0.stands) in
    (c.loop-at.run.turn, search rules)

pub returns-clause-past : goal.returns-clause-past
returns-clause-past g c =
    let l = c.loop-at in
    let all : l.at ≡ c.min-count.result = omega arith in
    let m = g.M.Model.meaning c.args.model.now in
    let past = subst (λ at. (let n = block_size (state_after (setting_over g.K.Kind.rules c.args.cells.now) m Idle (map (asked g.K.Kind.rules g.K.Kind.plain) (take at c.args.calls.now))) in drop (needed n) l.run.cells.now ≡ drop (needed n) c.args.cells.now)) all
    (past_end g.K.Kind m c.args.calls.now c.args.cells.now c.new-run.result l.run c.args.answers.now l.answers l.at l.invariant.0 c.new-run.ensures.cells) in
    search rules
