use Rattle.std.proofs.Common.{rules, refl, arith}
use Rattle.run.specs.Runs.{setting}
use Rattle.run.proofs.Steps.{seat_step}
use Rattle.run.proofs.run.Run.seat_waiting.Goals as goal

pub returns : goal.returns
returns g c =
    let self = c.args.self.now in
    let seating = c.in_ok-seating in
    record {
      stepped = seat_step g.K.Kind.rules g.K.Kind.plain self.turn self.cells.now c.clear_forged.new.cells c.args.block c.args.set.0 c.clear_forged.ensures.store (setting self) (g.M.Model.meaning c.args.model.now) seating.seating c.requires seating.ensures;
      refused = λ why e. absurd (grind arith);
      decision_unaltered = λ controller e. absurd (grind arith);
      open_empties = λ n t proposals initial e. absurd (grind arith);
      close_keeps = λ e. absurd (grind arith);
      past = c.clear_forged.ensures.past;
      setting_stays = search rules;
      named = refl {a = self.cells.ghost_name};
    }
