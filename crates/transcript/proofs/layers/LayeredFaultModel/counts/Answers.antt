use Rattle.std.proofs.Common.{sym, ◌∙◌}
use Rattle.models.specs.Standards.{standard}
use Rattle.transcript.proofs.Layering.{same_counts}
use Rattle.transcript.proofs.layers.LayeredFaultModel.counts.Goals as goal

pub returns-else-self-eq0 : goal.returns-else-self-eq0
returns-else-self-eq0 c = let s = c.args.self.now in c.counts-else-self-eq0.ensures ∙ sym (same_counts s.layers (standard s.base) c.args.t c.if-self-eq0.false)
