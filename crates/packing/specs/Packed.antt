-- Which scripts can be packed, and the first line of another that does not fit. Assumes nothing.
use Rattle.std.specs.Prelude.{ℕ, Bool, if◌then◌else◌, not, ◌||◌, List, [], ◌∷◌, ◌++◌, map, length, Some, None, Option, Result, Ok, Err, ◌==◌, nat_lt}
use Rattle.std.specs.Option.{option_or}
use Rattle.protocol.specs.Machine.{Call, Open, Seat, Forge, Close, Decision}
use Rattle.run.specs.declared.layout.TheConstants.{MOST_CELLS}
use Rattle.run_file.specs.declared.headers.TheConstants.{MOST_BYTES}
use Rattle.script.specs.Scripts.{rules_of}
use Rattle.script.specs.Statements.{written_call}
use Rattle.script.specs.declared.scripts.House.{House}
use Rattle.script.specs.declared.scripts.Line.{Line}
use Rattle.script.specs.declared.scripts.Script.{Script}
use Rattle.script.specs.declared.scripts.ValueKind.{ValueKind}
use Rattle.packing.specs.declared.misfits.Misfit.{Misfit}
use Rattle.packing.specs.declared.misfits.Misfit.TheVariants.{FewCells, NoOpen, ProposalCount, LargeNumber, SecondOpen, NoRound, RoundNotClosed, AfterDecision, NoRoom}
use Rattle.packing.specs.declared.misfits.Unfit.{Unfit}
use Rattle.packing.specs.declared.drafts.Stage.{Stage}
use Rattle.packing.specs.declared.drafts.Stage.TheVariants.{Rounds, Seated, Decisions}
use Rattle.packing.specs.Bytes.{Forged, Opened, most_in_byte, file_bytes, file_end}

-- what the calls behind the open have come to: where they stand, the set of each round, and what the rounds forge
pub record Draft : Type 0 where
  pub stage : Stage
  pub sets : List ℕ
  pub forged : List Forged

abbrev pub no_rounds : Draft
no_rounds = record { stage = Rounds; sets = []; forged = [] }

-- one byte tells no such number
abbrev pub is_large : ℕ → Bool
is_large number = nat_lt most_in_byte number

-- why a call cannot be a forgery line, if it forges and cannot
abbrev pub place_misfit : Call → Option Misfit
place_misfit (Open n t proposals initial) = None
place_misfit (Seat set) = None
place_misfit (Forge sender receiver column cell) = if is_large sender || is_large receiver || is_large column then Some LargeNumber else None
place_misfit Close = None
place_misfit (Decision controller) = None

-- why a call cannot come at a stage, if it cannot
abbrev pub turn_misfit : Stage → Call → Option Misfit
turn_misfit stage (Open n t proposals initial) = Some SecondOpen
turn_misfit Rounds (Seat set) = None
turn_misfit (Seated r) (Seat set) = Some RoundNotClosed
turn_misfit Decisions (Seat set) = Some AfterDecision
turn_misfit Rounds (Forge sender receiver column cell) = Some NoRound
turn_misfit (Seated r) (Forge sender receiver column cell) = None
turn_misfit Decisions (Forge sender receiver column cell) = Some NoRound
turn_misfit Rounds Close = Some NoRound
turn_misfit (Seated r) Close = None
turn_misfit Decisions Close = Some NoRound
turn_misfit Rounds (Decision controller) = None
turn_misfit (Seated r) (Decision controller) = Some RoundNotClosed
turn_misfit Decisions (Decision controller) = None

-- the number of the round that a stage is in
abbrev pub round_of : Stage → ℕ
round_of Rounds = 0
round_of (Seated r) = r
round_of Decisions = 0

-- a draft with one call more: a seat begins the next round, and a forge adds to the round that is seated; decisions
-- leave no trace in a run file, and no open fits
abbrev pub added : Draft → Call → Draft
added d (Open n t proposals initial) = d
added d (Seat set) = record { stage = Seated (length d.sets); sets = d.sets ++ (set ∷ []); forged = d.forged }
added d (Forge sender receiver column cell) =
    record { stage = d.stage; sets = d.sets; forged = d.forged ++ (record { round = round_of d.stage; sender = sender; receiver = receiver; column = column; cell = cell } ∷ []) }
added d Close = record { stage = Rounds; sets = d.sets; forged = d.forged }
added d (Decision controller) = record { stage = Decisions; sets = d.sets; forged = d.forged }

-- a line of a script: its number and its call
pub record Numbered : Type 0 where
  pub number : ℕ
  pub call : Call

abbrev pub numbered : Line → Numbered
numbered line = record { number = line.number; call = written_call line.statement }

abbrev pub unfit : {X : Type 0} → (line : ℕ) → Misfit → Result X Unfit
unfit line misfit = Err (record { line = line; misfit = misfit })

-- a result, unless a line does not fit
abbrev pub unless : {X : Type 0} → (line : ℕ) → Option Misfit → Result X Unfit → Result X Unfit
unless line None result = result
unless line (Some misfit) result = unfit line misfit

-- why the script cannot end at a stage, if it cannot
abbrev pub end_misfit : Stage → Option Misfit
end_misfit Rounds = None
end_misfit (Seated r) = Some RoundNotClosed
end_misfit Decisions = None

module _ (kind : ValueKind) (n : ℕ) where
  -- why a draft is too long, if it is
  abbrev pub room_misfit : Draft → Option Misfit
  room_misfit d = if nat_lt MOST_BYTES (file_end (rules_of kind).width n (length d.sets) (length d.forged)) then Some NoRoom else None

  -- why a call does not fit a draft, if it does not
  abbrev pub misfit_of : Draft → Call → Option Misfit
  misfit_of d call = option_or (place_misfit call) (option_or (turn_misfit d.stage call) (room_misfit (added d call)))

  -- the draft of all lines behind a line and a draft
  abbrev pub drafted : (last : ℕ) → Draft → List Numbered → Result Draft Unfit
  drafted last d [] = unless last (end_misfit d.stage) (Ok d)
  drafted last d (line ∷ rest) = unless line.number (misfit_of d line.call) (drafted line.number (added d line.call) rest)

-- a block, unless a run file cannot open it
abbrev pub openable : Opened → Result Opened Misfit
openable o =
    if not (length o.proposals == o.n) then Err ProposalCount
    else if is_large o.n || is_large o.t then Err LargeNumber
    else Ok o

-- the block that a first call opens
abbrev pub opened_by : Call → Result Opened Misfit
opened_by (Open n t proposals initial) = openable (record { n = n; t = t; initial = initial; proposals = proposals })
opened_by (Seat set) = Err NoOpen
opened_by (Forge sender receiver column cell) = Err NoOpen
opened_by Close = Err NoOpen
opened_by (Decision controller) = Err NoOpen

module _ (house : House) where
  abbrev pub file_of : Opened → Result Draft Unfit → Result (List ℕ) Unfit
  file_of o (Ok d) = Ok (file_bytes house o d.sets d.forged)
  file_of o (Err why) = Err why

  -- the file of an open in a line, and of the lines behind it
  abbrev pub with_open : (line : ℕ) → Result Opened Misfit → List Numbered → Result (List ℕ) Unfit
  with_open line (Ok o) rest = file_of o (drafted house.kind o.n line no_rounds rest)
  with_open line (Err misfit) rest = unfit line misfit

  abbrev pub behind : Numbered → List Numbered → Result (List ℕ) Unfit
  behind first rest = with_open first.number (opened_by first.call) rest

  -- the file of all lines; `end` is the line that is told where there is none
  abbrev pub of_lines : (end : ℕ) → List Numbered → Result (List ℕ) Unfit
  of_lines end [] = unfit end NoOpen
  of_lines end (first ∷ rest) = behind first rest

-- why the store of a script does not fit, if it does not
abbrev pub cells_misfit : (cells : ℕ) → Option Misfit
cells_misfit cells = if nat_lt cells MOST_CELLS then Some FewCells else None

-- the run file of a script, or the first line that does not fit
abbrev pub packed : Script → Result (List ℕ) Unfit
packed script = unless script.cells_line (cells_misfit script.cells) (of_lines script.house script.end (map numbered script.lines.items))
