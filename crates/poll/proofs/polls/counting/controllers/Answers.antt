use Rattle.std.proofs.Common.{sym, ◌∙◌}
use Rattle.poll.proofs.Steps.{length-pieces}
use Rattle.poll.proofs.polls.counting.controllers.Goals as goal

pub returns : goal.returns
returns c = c.div_ceil.ensures ∙ sym (length-pieces c.args.input.now)
