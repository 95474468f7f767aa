use Rattle.std.proofs.Common.{rules}
use Rattle.std.proofs.lemmas.Result.{IfOk-weaker}
use Rattle.transcript.specs.Rows.{ArePerformed}
use Rattle.transcript.proofs.PerformingCalls.{all_answered}
use Rattle.transcript.proofs.performing.perform_over.Goals as goal

pub returns-clause-count : goal.returns-clause-count
returns-clause-count g c =
    IfOk-weaker c.all_in_figures.result (λ told. ArePerformed g.K.Kind.rules c.args.cells (g.M.Model.meaning c.args.model.now) c.args.lines.now told.items) _ (λ told p. all_answered p) (search rules)
