-- What a script says, and what is wrong with its lines. Assumes nothing.
use Rattle.std.specs.Prelude.{ℕ, suc, Bool, true, false, if◌then◌else◌, List, [], ◌∷◌, ◌++◌, drop, length, Some, None, Option, Result, Ok, Err, codes}
use Rattle.std.specs.List.{list_all}
use Rattle.std.specs.Str.{bytes_eq}
use Rattle.values.specs.Rules.{Rules}
use Rattle.values.specs.Cells.{Held}
use Rattle.values.specs.Setpoints.{setpoint_rules}
use Rattle.values.specs.Sheets.{sheet_rules}
use Rattle.values.specs.declared.refusals.Refusal.TheVariants.{Value}
use Rattle.protocol.specs.Machine as machine
use Rattle.run.specs.declared.layout.TheConstants.{MOST_CELLS}
use Rattle.script.specs.declared.flaws.Expected.{Expected}
use Rattle.script.specs.declared.flaws.Expected.TheVariants as expected
use Rattle.script.specs.declared.flaws.Flaw.{Flaw}
use Rattle.script.specs.declared.flaws.Wrong.{Wrong}
use Rattle.script.specs.declared.flaws.Wrong.TheVariants as wrong
use Rattle.script.specs.declared.scripts.House.{House}
use Rattle.script.specs.declared.scripts.ValueKind.{ValueKind}
use Rattle.script.specs.declared.scripts.ValueKind.TheVariants.{Setpoint, Sheet}
use Rattle.script.specs.Words.{lines_of, words_of}
use Rattle.script.specs.Lines.{call_in, house_in, cells_in}

-- a line that says something: its number and its words
pub record Said : Type 0 where
  pub number : ℕ
  pub words : List (List ℕ)

abbrev pub unless_blank : ℕ → List (List ℕ) → List Said
unless_blank number [] = []
unless_blank number (word ∷ words) = record { number = number; words = word ∷ words } ∷ []

-- the lines that have words, numbered from the first of these lines on
abbrev pub said_from : (number : ℕ) → List (List ℕ) → List Said
said_from number [] = []
said_from number (line ∷ lines) = unless_blank number (words_of line) ++ said_from (suc number) lines

-- the lines of a text that have words; lines are numbered from 1
abbrev pub said_in : List ℕ → List Said
said_in text = said_from 1 (lines_of text)

-- the rules of a kind of values, by its name
abbrev pub rules_of : ValueKind → Rules
rules_of Setpoint = setpoint_rules
rules_of Sheet = sheet_rules

abbrev pub keeps_cell : Rules → Held → Bool
keeps_cell k None = true
keeps_cell k (Some numbers) = k.allowed numbers

-- whether all values of a call keep the rule of their kind
abbrev pub keeps : Rules → machine.Call → Bool
keeps k (machine.Open n t proposals initial) = list_all k.allowed proposals
keeps k (machine.Seat set) = true
keeps k (machine.Forge sender receiver column cell) = keeps_cell k cell
keeps k machine.Close = true
keeps k (machine.Decision controller) = true

-- a call that is understood must keep the rule too, where the kind is known
abbrev pub kept : Option ValueKind → machine.Call → Result machine.Call Wrong
kept None call = Ok call
kept (Some kind) call = if keeps (rules_of kind) call then Ok call else Err (wrong.Refused Value)

-- what is not understood is wrong; what is understood goes on
abbrev pub wrongly : {X Y : Type 0} → Result X Expected → (X → Result Y Wrong) → Result Y Wrong
wrongly (Ok x) next = next x
wrongly (Err what) next = Err (wrong.Expected what)

-- what the words of a call's line come to
abbrev pub judged : Option ValueKind → List (List ℕ) → Result machine.Call Wrong
judged kind words = wrongly (call_in words) (kept kind)

-- the same of a line with its number: what is wrong is its flaw
abbrev pub at_line : {X : Type 0} → ℕ → Result X Wrong → Result X Flaw
at_line number (Ok x) = Ok x
at_line number (Err what) = Err (record { line = number; wrong = what })

abbrev pub flaw_of : {X : Type 0} → Result X Flaw → List Flaw
flaw_of (Ok x) = []
flaw_of (Err flaw) = flaw ∷ []

-- the calls of lines, each with the number of its line, and their flaws
abbrev pub call_of : ℕ → Result machine.Call Flaw → List (ℕ × machine.Call)
call_of number (Ok call) = (number, call) ∷ []
call_of number (Err flaw) = []

abbrev pub call_at : Option ValueKind → Said → Result machine.Call Flaw
call_at kind said = at_line said.number (judged kind said.words)

abbrev pub calls_in : Option ValueKind → List Said → List (ℕ × machine.Call)
calls_in kind [] = []
calls_in kind (said ∷ more) = call_of said.number (call_at kind said) ++ calls_in kind more

abbrev pub call_flaws : Option ValueKind → List Said → List Flaw
call_flaws kind [] = []
call_flaws kind (said ∷ more) = flaw_of (call_at kind said) ++ call_flaws kind more

-- the first line, and the lines behind it; where there is none, the line `end` is told
pub record First : Type 0 where
  pub house : Result House Flaw
  pub rest : List Said

abbrev pub house_at : Said → Result House Flaw
house_at said = at_line said.number (wrongly (house_in said.words) (λ house. Ok house))

abbrev pub first_in : (end : ℕ) → List Said → First
first_in end [] = record { house = at_line end (Err (wrong.Expected expected.Kind)); rest = [] }
first_in end (said ∷ more) = record { house = house_at said; rest = more }

-- the cells of the store and the number of the line that says them, if the second line does, and the lines behind it;
-- else as many cells as the largest block needs, and line 0
pub record Stored : Type 0 where
  pub cells : Result (ℕ × ℕ) Flaw
  pub rest : List Said

abbrev pub plenty : List Said → Stored
plenty said = record { cells = Ok (MOST_CELLS, 0); rest = said }

abbrev pub cells_at : ℕ → List (List ℕ) → Result (ℕ × ℕ) Flaw
cells_at number words = at_line number (wrongly (cells_in words) (λ cells. Ok (cells, number)))

abbrev pub says_cells : List (List ℕ) → Bool
says_cells [] = false
says_cells (word ∷ words) = bytes_eq word (codes "cells")

abbrev pub stored_in : List Said → Stored
stored_in [] = plenty []
stored_in (said ∷ more) = if says_cells said.words then record { cells = cells_at said.number (drop 1 said.words); rest = more } else plenty (said ∷ more)

abbrev pub kind_said : Result House Flaw → Option ValueKind
kind_said (Ok house) = Some house.kind
kind_said (Err flaw) = None

-- what a script says: its first line, its store and its calls, with the flaws of all its lines
pub record Meant : Type 0 where
  pub house : Result House Flaw
  pub cells : Result (ℕ × ℕ) Flaw
  pub calls : List (ℕ × machine.Call)
  pub flaws : List Flaw

abbrev pub meant_by : First → Stored → Meant
meant_by first stored = record {
  house = first.house;
  cells = stored.cells;
  calls = calls_in (kind_said first.house) stored.rest;
  flaws = flaw_of first.house ++ (flaw_of stored.cells ++ call_flaws (kind_said first.house) stored.rest);
}

abbrev pub script_of : List ℕ → Meant
script_of text =
    let first = first_in (length (lines_of text)) (said_in text) in
    meant_by first (stored_in first.rest)
