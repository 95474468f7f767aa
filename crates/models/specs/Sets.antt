-- A set of controllers as a number below 2 ^ 16, whose bit i stands for controller i. Assumes nothing.
use Rattle.std.specs.Prelude.{ℕ, ◌/◌, ◌%◌, ◌^◌, Bool, ◌==◌}
use Rattle.values.specs.Counting.{count}
use Rattle.models.specs.declared.sets.TheConstants.{MOST_CONTROLLERS}

-- the set x holds controller i
abbrev pub has : ℕ → ℕ → Bool
has x i = x / 2 ^ i % 2 == 1

-- how many controllers the set x holds
unfoldable pub members : ℕ → ℕ
members x = count (has x) MOST_CONTROLLERS
