use Rattle.std.proofs.Common.{rules, ◌≡◌, Some, Ok, Err, [], ◌∷◌, ◌++◌, map}
use Rattle.models.specs.Standards.{standard}
use Rattle.models.specs.declared.standards.Standard.TheVariants.{Fixed}
use Rattle.protocol.specs.Machine.{Seat, Close}
use Rattle.run.proofs.Chains.{keeps_more, performs_keeps}
use Rattle.run_file.specs.Votes.{in_round, forges, lines_of}
use Rattle.run_file.specs.InCode.{lines_in, stop_at}
use Rattle.run_file.proofs.Voting.{done, refused, goes_then, stops_then, stops_first}
use Rattle.run_file.proofs.votes.perform_round.Goals as goal

pub returns-in_err-in_round-clause-performed : goal.returns-in_err-in_round-clause-performed
returns-in_err-in_round-clause-performed g c =
    let m = g.M.Model.meaning c.args.model.now in
    let r = c.args.round in
    let seats = in_round r (Seat c.args.set.0) ∷ [] in
    let forged = map forges (lines_of r (lines_in c.args.lines)) in
    let stop = c.in_err-in_round.field-0.0 in
    let told : stop_at (Some r) c.seat.result ≡ Err stop = search rules in
    let seat = refused m (Seat c.args.set.0) (Some r) c.args.run.now c.seat.new.self c.seat.result stop c.seat.ensures.stepped told in
    let stops = stops_first m seats (forged ++ (in_round r Close ∷ [])) c.args.run.now stop seat in
    let gone : c.from_residual.result ≡ Err stop = search rules in
    rw gone stops

pub returns-in_err-in_round-clause-keeps : goal.returns-in_err-in_round-clause-keeps
returns-in_err-in_round-clause-keeps g c = performs_keeps c.args.run.now c.seat.new.self c.seat.ensures

pub returns-in_err-rest-clause-performed : goal.returns-in_err-rest-clause-performed
returns-in_err-rest-clause-performed g c =
    let m = g.M.Model.meaning c.args.model.now in
    let r = c.args.round in
    let seats = in_round r (Seat c.args.set.0) ∷ [] in
    let forged = map forges (lines_of r (lines_in c.args.lines)) in
    let closes = in_round r Close ∷ [] in
    let stop = c.in_err-rest.field-0.0 in
    let told : stop_at (Some r) c.seat.result ≡ Ok tt = search rules in
    let seat = done m (Seat c.args.set.0) (Some r) c.args.run.now c.seat.new.self c.seat.result c.seat.ensures.stepped told in
    let keeps = performs_keeps c.args.run.now c.seat.new.self c.seat.ensures in
    let stops = stops_then m seats (forged ++ closes) c.args.run.now c.seat.new.self stop seat keeps (stops_first m forged closes c.seat.new.self stop (c.in_err-rest.ensures.forged m)) in
    let gone : c.from_residual-in_err-rest.result ≡ Err stop = search rules in
    rw gone stops

pub returns-in_err-rest-clause-keeps : goal.returns-in_err-rest-clause-keeps
returns-in_err-rest-clause-keeps g c =
    keeps_more c.args.run.now c.seat.new.self c.forge_lines.new.run (performs_keeps c.args.run.now c.seat.new.self c.seat.ensures) c.forge_lines.ensures.keeps

pub returns-in_err-in_round-2-clause-performed : goal.returns-in_err-in_round-2-clause-performed
returns-in_err-in_round-2-clause-performed g c =
    let m = g.M.Model.meaning c.args.model.now in
    let r = c.args.round in
    let seats = in_round r (Seat c.args.set.0) ∷ [] in
    let forged = map forges (lines_of r (lines_in c.args.lines)) in
    let closes = in_round r Close ∷ [] in
    let stop = c.in_err-in_round-2.field-0.0 in
    let told : stop_at (Some r) c.seat.result ≡ Ok tt = search rules in
    let seat = done m (Seat c.args.set.0) (Some r) c.args.run.now c.seat.new.self c.seat.result c.seat.ensures.stepped told in
    let keeps = performs_keeps c.args.run.now c.seat.new.self c.seat.ensures in
    let told_close : stop_at (Some r) c.close.result ≡ Err stop = search rules in
    let close = refused m Close (Some r) c.forge_lines.new.run c.close.new.self c.close.result stop (c.close.ensures.performed m).stepped told_close in
    let behind = stops_then m forged closes c.seat.new.self c.forge_lines.new.run stop (c.in_ok-rest.ensures.forged m) c.forge_lines.ensures.keeps close in
    let stops = stops_then m seats (forged ++ closes) c.args.run.now c.seat.new.self stop seat keeps behind in
    let gone : c.from_residual-in_err-in_round-2.result ≡ Err stop = search rules in
    rw gone stops

pub returns-in_err-in_round-2-clause-keeps : goal.returns-in_err-in_round-2-clause-keeps
returns-in_err-in_round-2-clause-keeps g c =
    keeps_more c.args.run.now c.forge_lines.new.run c.close.new.self
    (keeps_more c.args.run.now c.seat.new.self c.forge_lines.new.run (performs_keeps c.args.run.now c.seat.new.self c.seat.ensures) c.forge_lines.ensures.keeps)
    (performs_keeps c.forge_lines.new.run c.close.new.self (c.close.ensures.performed (standard Fixed)))

pub returns-clause-performed : goal.returns-clause-performed
returns-clause-performed g c =
    let m = g.M.Model.meaning c.args.model.now in
    let r = c.args.round in
    let seats = in_round r (Seat c.args.set.0) ∷ [] in
    let forged = map forges (lines_of r (lines_in c.args.lines)) in
    let closes = in_round r Close ∷ [] in
    let told : stop_at (Some r) c.seat.result ≡ Ok tt = search rules in
    let seat = done m (Seat c.args.set.0) (Some r) c.args.run.now c.seat.new.self c.seat.result c.seat.ensures.stepped told in
    let keeps = performs_keeps c.args.run.now c.seat.new.self c.seat.ensures in
    let told_close : stop_at (Some r) c.close.result ≡ Ok tt = search rules in
    let close = done m Close (Some r) c.forge_lines.new.run c.close.new.self c.close.result (c.close.ensures.performed m).stepped told_close in
    let behind = goes_then m forged closes c.seat.new.self c.forge_lines.new.run c.close.new.self (c.in_ok-rest.ensures.forged m) c.forge_lines.ensures.keeps close in
    goes_then m seats (forged ++ closes) c.args.run.now c.seat.new.self c.close.new.self seat keeps behind

pub returns-clause-keeps : goal.returns-clause-keeps
returns-clause-keeps g c =
    keeps_more c.args.run.now c.forge_lines.new.run c.close.new.self
    (keeps_more c.args.run.now c.seat.new.self c.forge_lines.new.run (performs_keeps c.args.run.now c.seat.new.self c.seat.ensures) c.forge_lines.ensures.keeps)
    (performs_keeps c.forge_lines.new.run c.close.new.self (c.close.ensures.performed (standard Fixed)))
