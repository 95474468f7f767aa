use Rattle.std.proofs.Common.{sym, ◌∙◌}
use Rattle.models.specs.Standards.{standard}
use Rattle.transcript.proofs.Layering.{same_class}
use Rattle.transcript.proofs.layers.LayeredFaultModel.class.Goals as goal

pub returns-else-self-eq0 : goal.returns-else-self-eq0
returns-else-self-eq0 c = let s = c.args.self.now in let m = c.args.moved in c.class-else-self-eq0.ensures ∙ sym (same_class s.layers (standard s.base) m.before.0 m.after.0 m.t c.args.controller c.if-self-eq0.false)
