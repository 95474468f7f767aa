-- What a round is for, by its number. Assumes nothing.
use Rattle.std.specs.Prelude.{ℕ, zero, suc, ◌*◌, ◌%◌, if◌then◌else◌, nat_lt}
use Rattle.protocol.specs.declared.stages.Stage.{Stage}
use Rattle.protocol.specs.declared.stages.Stage.TheVariants.{Proposing, Collecting, Deciding, Maintaining}

-- the stage of a round of a phase, by what its number leaves when it is divided by 3
abbrev pub in_phase : ℕ → Stage
in_phase zero = Proposing
in_phase (suc zero) = Collecting
in_phase (suc (suc k)) = Deciding

-- the stage of round r: n phases of three rounds each, r / 3 being the phase of r, and then maintaining rounds
unfoldable pub stage_of : (n r : ℕ) → Stage
stage_of n r = if nat_lt r (3 * n) then in_phase (r % 3) else Maintaining

-- how many columns a message has: in a deciding round n, as many as a controller's row has cells, and else one
abbrev pub columns_of : Stage → ℕ → ℕ
columns_of Proposing n = 1
columns_of Collecting n = 1
columns_of Deciding n = n
columns_of Maintaining n = 1

-- the coordinator of a phase: the controller with the phase's number
unfoldable pub coordinator_of : (phase : ℕ) → ℕ
coordinator_of phase = phase
