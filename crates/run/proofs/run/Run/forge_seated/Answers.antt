use Rattle.std.proofs.Common.{rules, refl, arith}
use Rattle.run.specs.Runs.{setting}
use Rattle.run.proofs.Steps.{forge_step}
use Rattle.run.proofs.run.Run.forge_seated.Goals as goal

pub returns : goal.returns
returns g c m =
    let self = c.args.self.now in
    let a = c.args in
    record {
      stepped = forge_step g.K.Kind.rules g.K.Kind.plain self.turn self.cells.now c.put_forged.new.cells a.block a.seating a.place a.cell c.requires c.in_ok-check_forge.ensures self.roomy c.put_forged.ensures.store (setting self) m;
      refused = λ why e. absurd (grind arith);
      decision_unaltered = λ controller e. absurd (grind arith);
      open_empties = λ n t proposals initial e. absurd (grind arith);
      close_keeps = λ e. absurd (grind arith);
      past = rw c.requires c.put_forged.ensures.past;
      setting_stays = search rules;
      named = refl {a = self.cells.ghost_name};
    }
