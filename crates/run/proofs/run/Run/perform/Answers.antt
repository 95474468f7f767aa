use Rattle.std.proofs.Common.{rules}
use Rattle.run.proofs.run.Run.perform.Goals as goal

pub returns-in_err-forge_seated-in-Forge : goal.returns-in_err-forge_seated-in-Forge
returns-in_err-forge_seated-in-Forge g c = let forged = c.forge_seated.ensures (g.M.Model.meaning c.args.model.now) in search rules

pub returns-in_ok-forge_seated-in-Forge : goal.returns-in_ok-forge_seated-in-Forge
returns-in_ok-forge_seated-in-Forge g c = let forged = c.forge_seated.ensures (g.M.Model.meaning c.args.model.now) in search rules

pub returns-in-Close : goal.returns-in-Close
returns-in-Close g c = let closed = c.close_seated.ensures (g.M.Model.meaning c.args.model.now) in search rules
