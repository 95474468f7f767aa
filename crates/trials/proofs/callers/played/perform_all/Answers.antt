use Rattle.trials.proofs.PlayedLogs.{all_same, all_proposed}
use Rattle.trials.proofs.callers.played.perform_all.Goals as goal

pub returns-clause-equal : goal.returns-clause-equal
returns-clause-equal g c =
    let m = g.M.Model.meaning c.args.model.now in
    all_same g.K.Kind.rules g.K.Kind.plain c.play.result c.args.calls.now c.play.new.answers m c.play.ensures.decided (c.play.ensures.law c.lawful.ensures)

pub returns-clause-valid : goal.returns-clause-valid
returns-clause-valid g c =
    let m = g.M.Model.meaning c.args.model.now in
    all_proposed g.K.Kind.rules g.K.Kind.plain c.play.result c.args.calls.now c.play.new.answers m c.play.ensures.decided (c.play.ensures.law c.lawful.ensures)
