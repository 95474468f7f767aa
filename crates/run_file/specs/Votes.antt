-- The calls that a run file asks for, and what becomes of them. Assumes nothing.
use Rattle.std.specs.Prelude.{ℕ, suc, List, [], ◌∷◌, ◌++◌, map, filter, Some, None, Option, Result, Ok, Err, ◌==◌}
use Rattle.models.specs.Laws.{Meaning}
use Rattle.protocol.specs.Machine.{Setting, State, Call, Seat, Forge, Close, Answer, Done, Decided, Refused, step}
use Rattle.run_file.specs.declared.stops.Stop.{Stop}
use Rattle.run_file.specs.Lines.{Line, cell_of}

-- a call with the round that it belongs to; the open belongs to none
pub record Asked : Type 0 where
  pub call : Call
  pub round : Option ℕ

-- a call of round r
abbrev pub in_round : (r : ℕ) → Call → Asked
in_round r call = record { call = call; round = Some r }

abbrev pub forges : Line → Asked
forges x = in_round x.round (Forge x.sender x.receiver x.column (cell_of x))

-- the lines of round r, in their order
abbrev pub lines_of : (r : ℕ) → List Line → List Line
lines_of r lines = filter (λ x. x.round == r) lines

-- one round: its set is seated, its lines are forged, and it is closed
abbrev pub round_of : (r set : ℕ) → List Line → List Asked
round_of r set lines = in_round r (Seat set) ∷ (map forges (lines_of r lines) ++ (in_round r Close ∷ []))

-- the rounds from r on, one for each set
abbrev pub rounds_from : (r : ℕ) → (sets : List ℕ) → List Line → List Asked
rounds_from r [] lines = []
rounds_from r (set ∷ sets) lines = round_of r set lines ++ rounds_from (suc r) sets lines

-- a refused call ends it, and nothing else does
abbrev pub stopped : Option ℕ → Answer → Option Stop
stopped round Done = None
stopped round (Decided cell) = None
stopped round (Refused why) = Some (record { refusal = why; round = round })

abbrev pub unless_stopped : Option Stop → Result State Stop → Result State Stop
unless_stopped None r = r
unless_stopped (Some stop) r = Err stop

-- the state after calls of which none is refused, or the first refusal
abbrev pub run_through : Setting → Meaning → State → List Asked → Result State Stop
run_through x m s [] = Ok s
run_through x m s (a ∷ rest) = unless_stopped (stopped a.round (step x m s a.call).1) (run_through x m (step x m s a.call).0 rest)
