use Rattle.std.proofs.Common.{refl, lit<, lit≤}
use Rattle.values.specs.Counting.{count}
use Rattle.models.specs.Laws.{Few}
use Rattle.models.specs.Sets.{members}
use Rattle.trials.proofs.unlawful.all_honest_is_unlawful.Goals as goal

-- controller 0 alone, at t = 1
alone : Few 1 1
unfolding members count
alone = record { bits = lit< tt; few = lit≤ tt }

-- it may stay, by the fourth law, and is not honest then, by the first
pub returns : goal.returns
returns c m honest law =
    (law.keeps 1 1 1 (record { from = alone; to = alone; may = law.stays 1 1 alone })).seated_before 0 (lit< tt) refl (honest 1 1 1 0)
