use Rattle.std.proofs.Common.{ap, ◌∙◌, refl, map}
use Rattle.values.specs.Rules.{means}
use Rattle.models.specs.declared.standards.Standard.TheVariants.{Unaware}
use Rattle.models.specs.Standards.{standard}
use Rattle.protocol.specs.Machine.{State, Open, Seat, Close, Done, closed, step}
use Rattle.protocol.proofs.Joined.{open_step, seat_waiting, close_seated}
use Rattle.run.specs.Runs.{setting, state}
use Rattle.run.proofs.Chains.{begins, goes_on}
use Rattle.trials.specs.FirstRounds.{block, seats}
use Rattle.trials.proofs.callers.first_round.first_round.Goals as goal

pub returns : goal.returns
returns g c =
    let m = standard Unaware in
    let o = c.args.opening in
    let proposals = map (means g.K.Kind.rules g.K.Kind.plain) o.proposals.now in
    let run = c.args.run.now in
    let x = setting run in
    let b = block o.n o.t proposals o.initial.0 in
    let s = seats b c.args.set.0 in
    let opened = c.open.new.self in
    let seated = c.seat.new.self in
    let accepted = open_step x m (state run) (state opened) Done o.n o.t proposals o.initial.0 c.in_ok-open.ensures.stepped refl in
    let stands = goes_on (Seat c.args.set.0) Done opened seated (goes_on (Open o.n o.t proposals o.initial.0) Done run opened (begins x m run refl accepted.was) c.in_ok-open.ensures) c.in_ok-seat.ensures in
    let sits = (seat_waiting (setting opened) m b (state seated) Done c.args.set.0 (c.in_ok-seat.ensures.stepped ∙ ap (λ (s : State). step (setting opened) m s (Seat c.args.set.0)) accepted.now) refl).1 in
    let next = closed (setting seated) b s in
    let shut = (close_seated (setting seated) m b s (state c.close.new.self) Done ((c.in_ok-close.ensures.performed m).stepped ∙ ap (λ (s : State). step (setting seated) m s Close) sits)).1 in
    record { next = next; waits = shut; made = c.in_ok-close.ensures.after_calls.algorithm1 x _ stands b next s sits shut }
