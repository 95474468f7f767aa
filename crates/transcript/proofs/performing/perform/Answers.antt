use Rattle.std.proofs.Common.{subst}
use Rattle.transcript.specs.Rows.{ArePerformed}
use Rattle.std.proofs.lemmas.Result.{IfOk-weaker}
use Rattle.transcript.proofs.Sufficing.{sufficing}
use Rattle.transcript.proofs.performing.perform.Goals as goal

pub returns-clause-performed : goal.returns-clause-performed
returns-clause-performed g c = IfOk-weaker c.perform_over.result _ _ (λ answers h. sufficing g.K.Kind.rules c.args.cells (g.M.Model.meaning c.args.model.now) c.args.lines.now answers.items (subst (λ cells. ArePerformed g.K.Kind.rules cells (g.M.Model.meaning c.args.model.now) c.args.lines.now answers.items) c.min.ensures h)) c.perform_over.ensures.performed
