use Rattle.std.proofs.Common.{length, ◌-◌, ◌≤◌}
use Rattle.listing.proofs.fill.Given as goal

abbrev pub invariant-loop-len : goal.invariant-loop-len
invariant-loop-len l = l.len ≤ length l.room

abbrev pub decreases-loop-len : goal.decreases-loop-len
decreases-loop-len l = length l.initial.room - l.len
