use Rattle.std.proofs.Common.{arith, lit<, lit≤}
use Rattle.values.specs.Counting.{count}
use Rattle.models.specs.Laws.{Few}
use Rattle.models.specs.Sets.{members}
use Rattle.trials.proofs.unlawful.no_move_is_unlawful.Goals as goal

nobody : Few 0 0
unfolding members count
nobody = record { bits = lit< tt; few = lit≤ tt }

pub returns : goal.returns
returns c m none law = let stays = law.stays 0 0 nobody in let never = none 0 0 0 in grind arith
