use Rattle.std.proofs.Common.{rules, refl, arith}
use Rattle.run.proofs.Steps.{open_empties}
use Rattle.run.proofs.run.Run.open_idle.Goals as goal

pub returns : goal.returns
returns g c =
    let self = c.args.self.now in
    let block = c.in_ok-block in
    record {
      stepped = search rules;
      refused = λ why e. absurd (grind arith);
      decision_unaltered = λ controller e. absurd (grind arith);
      open_empties = λ n t proposals initial e accepted. open_empties g.K.Kind.rules g.K.Kind.plain c.args.opening.n block.block.n c.fill_opened.new.cells block.ensures.n c.fill_opened.ensures.forged;
      close_keeps = λ e. absurd (grind arith);
      past = rw block.ensures.n c.fill_opened.ensures.past;
      setting_stays = search rules;
      named = refl {a = self.cells.ghost_name};
    }
