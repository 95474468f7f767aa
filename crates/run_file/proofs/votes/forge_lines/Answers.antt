use Rattle.std.proofs.Common.{rules, ◌≡◌, ◌∙◌, ap, subst, suc, Some, Ok, Err, ◌++◌, map, arith}
use Rattle.models.specs.Laws.{Meaning}
use Rattle.models.specs.Standards.{standard}
use Rattle.models.specs.declared.standards.Standard.TheVariants.{Fixed}
use Rattle.run.specs.Calls.{said_done}
use Rattle.run.specs.Runs.{setting, state, Performs}
use Rattle.run_file.specs.Votes.{forges, lines_of, rounds_from, run_through}
use Rattle.run_file.specs.InCode.{lines_in, stop_at, Stops}
use Rattle.run_file.proofs.Lining.{round_past}
use Rattle.run.proofs.Chains.{keeps_more, performs_keeps}
use Rattle.run_file.proofs.Voting.{done, refused, forge_call, forge_done, forge_refused}
use Rattle.run_file.proofs.votes.forge_lines.Goals as goal

pub returns-in_err-in_round-clause-forged : goal.returns-in_err-in_round-clause-forged
returns-in_err-in_round-clause-forged g c =
    let k = g.K.Kind.rules in
    let l = c.loop-line in
    let r = c.args.round in
    let next = c.in-Some.ensures in
    let x = next.is in
    let xs = lines_in c.in-Some.after in
    let call = forge_call k g.K.Kind.plain c.in-Some.line x next.line in
    let stop = c.in_err-in_round.field-0.0 in
    let of_round = next.of_round in
    let told_of : stop_at (Some r) c.forge.result ≡ Err stop = search rules in
    let told : stop_at (Some x.round) c.forge.result ≡ Err stop = rw of_round told_of in
    let stops : (m : Meaning) → Stops m (map forges (lines_of r (lines_in c.args.lines))) c.args.run.now stop = λ m more.
    l.invariant.forged m more
    ∙ forge_refused m c.args.run.now l.run r (lines_in l.rest) xs x stop next.first of_round l.invariant.keeps
    (refused m (forges x).call (Some x.round) l.run c.forge.new.self c.forge.result stop (subst (λ call. Performs m call (said_done k g.K.Kind.plain c.forge.result) l.run c.forge.new.self) call (c.forge.ensures.performed m)).stepped told) more in
    let gone : c.from_residual.result ≡ Err stop = search rules in
    λ m. rw gone (stops m)

pub returns-in_err-in_round-clause-keeps : goal.returns-in_err-in_round-clause-keeps
returns-in_err-in_round-clause-keeps g c = keeps_more c.args.run.now c.loop-line.run c.forge.new.self c.loop-line.invariant.keeps (performs_keeps c.loop-line.run c.forge.new.self (c.forge.ensures.performed (standard Fixed)))

pub loop-line-preserved : goal.loop-line-preserved
loop-line-preserved g c =
    let k = g.K.Kind.rules in
    let l = c.loop-line in
    let r = c.args.round in
    let next = c.in-Some.ensures in
    let x = next.is in
    let xs = lines_in c.in-Some.after in
    let call = forge_call k g.K.Kind.plain c.in-Some.line x next.line in
    let of_round = next.of_round in
    let told_of : stop_at (Some r) c.forge.result ≡ Ok tt = search rules in
    let told : stop_at (Some x.round) c.forge.result ≡ Ok tt = rw of_round told_of in
    let performed : (m : Meaning) → Performs m (forges x).call (said_done k g.K.Kind.plain c.forge.result) l.run c.forge.new.self = λ m. subst (λ call. Performs m call (said_done k g.K.Kind.plain c.forge.result) l.run c.forge.new.self) call (c.forge.ensures.performed m) in
    record {
      width = next.width ∙ l.invariant.width;
      checked = next.checked;
      same = λ sets. l.invariant.same sets ∙ ap (rounds_from (suc r) sets) next.first ∙ round_past (suc r) sets x xs (omega (arith, of_round));
      forged = λ m more. l.invariant.forged m more ∙ forge_done m c.args.run.now l.run c.forge.new.self r (lines_in l.rest) xs x next.first of_round l.invariant.keeps (done m (forges x).call (Some x.round) l.run c.forge.new.self c.forge.result (performed m).stepped told) more;
      keeps = keeps_more c.args.run.now l.run c.forge.new.self l.invariant.keeps (performs_keeps l.run c.forge.new.self (c.forge.ensures.performed (standard Fixed)));
    }

pub returns-clause-forged : goal.returns-clause-forged
returns-clause-forged g c m more =
    c.loop-line.invariant.forged m more ∙ ap (λ xs. run_through (setting c.args.run.now) m (state c.loop-line.run) (map forges xs ++ more)) c.in_default.ensures.0

pub returns-clause-left : goal.returns-clause-left
returns-clause-left g c = record { checked = c.in_default.ensures.1; width = c.loop-line.invariant.width; same = c.loop-line.invariant.same }
