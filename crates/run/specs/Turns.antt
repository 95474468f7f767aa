-- The turn by numbers. Assumes nothing.
use Rattle.std.specs.Prelude.{ℕ, suc}
use Rattle.run.specs.declared.turns.Turn.{Turn}
use Rattle.run.specs.declared.turns.Turn.TheVariants.{Idle, Waiting, Seated}

-- how many controllers the block has, and 0 before there is one
abbrev pub size_of : Turn → ℕ
size_of Idle = 0
size_of (Waiting b) = b.n
size_of (Seated b s) = b.n

-- how many rounds are closed or seated
abbrev pub begun : Turn → ℕ
begun Idle = 0
begun (Waiting b) = b.round
begun (Seated b s) = suc b.round
