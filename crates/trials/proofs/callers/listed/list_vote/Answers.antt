use Rattle.trials.proofs.ListedLines.{agreed}
use Rattle.trials.proofs.callers.listed.list_vote.Goals as goal

pub returns-in-None-clause-vote : goal.returns-in-None-clause-vote
returns-in-None-clause-vote c = agreed c.args.file.now _ c.list-listing.ensures.law (c.list-listing.ensures.vote.0 c.in-None.is)
