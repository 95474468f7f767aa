use Rattle.std.proofs.Common.{sym, ◌∙◌}
use Rattle.models.specs.Standards.{standard}
use Rattle.transcript.proofs.Layering.{same_moves}
use Rattle.transcript.proofs.layers.LayeredFaultModel.allows.Goals as goal

pub returns : goal.returns
returns c = let s = c.args.self.now in let m = c.args.moved in c.allows.ensures ∙ sym (same_moves s.layers (standard s.base) m.before.0 m.after.0 m.t)
