use Rattle.std.proofs.Common.{rules, ◌≡◌, sym, ap, subst, None, Ok, Err, arith}
use Rattle.protocol.specs.Machine.{State, Answer, step}
use Rattle.run.specs.Calls.{said_done}
use Rattle.run.specs.Runs.{setting, state}
use Rattle.run.proofs.Chains.{performs_keeps}
use Rattle.run_file.specs.Listings.{stop}
use Rattle.run_file.specs.InCode.{opens, stop_at}
use Rattle.run_file.proofs.Voting.{done, refused}
use Rattle.run_file.proofs.Opening.{stepped, size_when_done, cells_when_refused}
use Rattle.run_file.proofs.votes.open_block.Goals as goal

pub returns-in_err-open-clause-opened : goal.returns-in_err-open-clause-opened
returns-in_err-open-clause-opened g c =
    let m = g.M.Model.meaning c.args.model.now in
    let call = (opens c.args.header.now c.args.parts.now).call in
    let why = c.in_err-open.field-0.0 in
    let told : stop_at None c.open.result ≡ Err (stop why) = ap (stop_at None) c.in_err-open.was in
    let step_is = subst (λ s. (state c.open.new.self, said_done g.K.Kind.rules g.K.Kind.plain c.open.result) ≡ step (setting c.args.run.now) m s call) (sym c.requires.idle) (stepped (g.M.Model.meaning c.args.model.now) c.args.header.now c.args.parts.now c.args.run.now c.open.new.self c.open.result _ _ _ _ c.open.ensures c.requires.idle c.requires.rows c.requires.count c.from-n.ensures c.into.ensures (λ few. omega arith)) in
    let stops = refused m call None c.args.run.now c.open.new.self c.open.result (stop why) step_is told in
    let gone : c.from_residual.result ≡ Err (stop why) = search rules in
    rw gone stops

pub returns-in_err-open-clause-left : goal.returns-in_err-open-clause-left
returns-in_err-open-clause-left g c = ap (λ (q : State × Answer). q.0) (stepped (g.M.Model.meaning c.args.model.now) c.args.header.now c.args.parts.now c.args.run.now c.open.new.self c.open.result _ _ _ _ c.open.ensures c.requires.idle c.requires.rows c.requires.count c.from-n.ensures c.into.ensures (λ few. omega arith))

pub returns-in_err-open-clause-unaltered : goal.returns-in_err-open-clause-unaltered
returns-in_err-open-clause-unaltered g c =
    let why = c.in_err-open.field-0.0 in
    let told : stop_at None c.open.result ≡ Err (stop why) = ap (stop_at None) c.in_err-open.was in
    let same = cells_when_refused c.args.run.now c.open.new.self c.open.result (stop why) c.open.ensures told in
    let gone : c.from_residual.result ≡ Err (stop why) = search rules in
    rw gone same

pub returns-in_err-open-clause-keeps : goal.returns-in_err-open-clause-keeps
returns-in_err-open-clause-keeps g c = performs_keeps c.args.run.now c.open.new.self c.open.ensures

pub returns-clause-opened : goal.returns-clause-opened
returns-clause-opened g c =
    let m = g.M.Model.meaning c.args.model.now in
    let call = (opens c.args.header.now c.args.parts.now).call in
    let told : stop_at None c.open.result ≡ Ok tt = ap (stop_at None) c.in_ok-open.was in
    let step_is = subst (λ s. (state c.open.new.self, said_done g.K.Kind.rules g.K.Kind.plain c.open.result) ≡ step (setting c.args.run.now) m s call) (sym c.requires.idle) (stepped (g.M.Model.meaning c.args.model.now) c.args.header.now c.args.parts.now c.args.run.now c.open.new.self c.open.result _ _ _ _ c.open.ensures c.requires.idle c.requires.rows c.requires.count c.from-n.ensures c.into.ensures (λ few. omega arith)) in
    done m call None c.args.run.now c.open.new.self c.open.result step_is told

pub returns-clause-left : goal.returns-clause-left
returns-clause-left g c = ap (λ (q : State × Answer). q.0) (stepped (g.M.Model.meaning c.args.model.now) c.args.header.now c.args.parts.now c.args.run.now c.open.new.self c.open.result _ _ _ _ c.open.ensures c.requires.idle c.requires.rows c.requires.count c.from-n.ensures c.into.ensures (λ few. omega arith))

pub returns-clause-size : goal.returns-clause-size
returns-clause-size g c =
    let told : stop_at None c.open.result ≡ Ok tt = ap (stop_at None) c.in_ok-open.was in
    size_when_done (g.M.Model.meaning c.args.model.now) c.args.header.now c.args.parts.now c.args.run.now c.open.new.self c.open.result (stepped (g.M.Model.meaning c.args.model.now) c.args.header.now c.args.parts.now c.args.run.now c.open.new.self c.open.result _ _ _ _ c.open.ensures c.requires.idle c.requires.rows c.requires.count c.from-n.ensures c.into.ensures (λ few. omega arith)) told

pub returns-clause-keeps : goal.returns-clause-keeps
returns-clause-keeps g c = performs_keeps c.args.run.now c.open.new.self c.open.ensures
