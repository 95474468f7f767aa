-- What is promised of packing: which scripts have a run file, and what it asks for. Assumes nothing.
use Rattle.std.specs.Prelude.{◌≡◌, ◌≤◌, ◌+◌, ℕ, true, not, List, [], ◌∷◌, ◌++◌, map, length, None, Ok, ◌==◌}
use Rattle.std.specs.List.{list_all, flat_map, AllByRecursion}
use Rattle.values.specs.Cells.{Held}
use Rattle.protocol.specs.Machine.{Call, Open, Seat, Forge, Close, Decision}
use Rattle.run.specs.declared.layout.TheConstants.{MOST_CELLS}
use Rattle.run_file.specs.declared.headers.TheConstants.{MOST_BYTES}
use Rattle.run_file.specs.declared.headers.Header.{Header}
use Rattle.run_file.specs.Headers.{header_of}
use Rattle.run_file.specs.Listings.{file_refusal, calls_of}
use Rattle.run_file.specs.Listings as file
use Rattle.script.specs.Scripts.{rules_of, keeps}
use Rattle.script.specs.Statements.{written_call}
use Rattle.script.specs.declared.scripts.House.{House}
use Rattle.script.specs.declared.scripts.Script.{Script}
use Rattle.packing.specs.Bytes.{Opened, most_in_byte, file_end}

-- the calls of a script, with the numbers as they are written
abbrev pub script_calls : Script → List Call
script_calls script = map (λ line. written_call line.statement) script.lines.items

-- the header names the kind and the model of a script
pub record Names (h : Header) (house : House) : Type 0 where
  pub kind : file.rules_of h.kind ≡ rules_of house.kind
  pub model : h.model ≡ house.base
  -- any layers of stamps are one model with stamps
  pub stamps : h.stamps ≡ not (house.stamps == 0)

-- a file asks for calls: its bytes are in order, and its calls are these, but for the decisions behind them
pub record AsksFor (house : House) (calls : List Call) (bytes : List ℕ) : Type 0 where
  pub h : Header
  pub decisions : List ℕ
  pub read : header_of bytes ≡ Ok h
  pub names : Names h house
  pub in_order : file_refusal (rules_of house.kind) h bytes ≡ None
  pub calls_are : calls ≡ map (λ asked. asked.call) (calls_of (rules_of house.kind) h bytes) ++ map Decision decisions

-- the same of a script whose values all keep the rule of their kind
abbrev pub AsksForScript : Script → List ℕ → Type 0
AsksForScript script bytes = list_all (keeps (rules_of script.house.kind)) (script_calls script) ≡ true → AsksFor script.house (script_calls script) bytes

-- what is told in a round that a script has
pub record Forging : Type 0 where
  pub sender : ℕ
  pub receiver : ℕ
  pub column : ℕ
  pub cell : Held

-- a round: whom it seats, and what is forged in it
pub record Round : Type 0 where
  pub set : ℕ
  pub forgings : List Forging

abbrev pub forge_call : Forging → Call
forge_call f = Forge f.sender f.receiver f.column f.cell

abbrev pub round_calls : Round → List Call
round_calls r = Seat r.set ∷ (map forge_call r.forgings ++ (Close ∷ []))

-- each number that has one byte in a run file fits there
abbrev pub FitsBytes : Forging → Type 0
FitsBytes f = (f.sender ≤ most_in_byte) × (f.receiver ≤ most_in_byte) × (f.column ≤ most_in_byte)

abbrev pub forging_count : List Round → ℕ
forging_count [] = 0
forging_count (r ∷ rounds) = length r.forgings + forging_count rounds

-- calls that can be packed: an open with a proposal for each controller, then rounds, and then any decisions; numbers
-- that have one byte fit there, and the file is not too long
pub record Packable (house : House) (calls : List Call) : Type 0 where
  pub block : Opened
  pub rounds : List Round
  pub decisions : List ℕ
  pub calls_are : calls ≡ Open block.n block.t block.proposals block.initial ∷ (flat_map round_calls rounds ++ map Decision decisions)
  pub count : length block.proposals ≡ block.n
  pub small : (block.n ≤ most_in_byte) × (block.t ≤ most_in_byte)
  pub told : AllByRecursion (λ r. AllByRecursion FitsBytes r.forgings) rounds
  pub room : file_end (rules_of house.kind).width block.n (length rounds) (forging_count rounds) ≤ MOST_BYTES

-- a script with such calls, over enough cells
abbrev pub IsPackable : Script → Type 0
IsPackable script = (MOST_CELLS ≤ script.cells) × Packable script.house (script_calls script)
