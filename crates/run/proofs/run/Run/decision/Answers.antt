use Rattle.std.proofs.Common.{rules}
use Rattle.run.proofs.Promised.{law_with}
use Rattle.run.proofs.run.Run.decision.Goals as goal

pub returns-in_err-block-clause-law : goal.returns-in_err-block-clause-law
returns-in_err-block-clause-law g c = law_with c.decisions_agree.ensures c.args.self.now c.args.controller _ (search rules)

pub returns-clause-law : goal.returns-clause-law
returns-clause-law g c = law_with c.decisions_agree.ensures c.args.self.now c.args.controller _ c.decision_of.ensures
