-- What is read in code, by what the definitions read. Assumes nothing.
use Rattle.std.specs.Prelude.{◌≡◌, true, Some, None, Option, ℕ, ◌<◌, ⊤, map, length, List, [], Result, Ok, Err}
use denote.Ref.{Bor}
use Rattle.script.specs.declared.flaws.Expected.{Expected}
use Rattle.script.specs.declared.flaws.Flaw.{Flaw}
use Rattle.script.specs.declared.scripts.House.{House}
use Rattle.script.specs.declared.reading.Misread.{Misread}
use Rattle.script.specs.declared.reading.Misread.TheVariants as misread
use Rattle.script.specs.Words.{texts, lines_of}
use Rattle.protocol.specs.Machine as machine
use Rattle.script.specs.declared.scripts.Line.{Line}
use Rattle.script.specs.declared.scripts.ValueKind.{ValueKind}
use Rattle.script.specs.Statements.{written_call}
use Rattle.script.specs.Lines.{Read}
use Rattle.std.specs.List.{list_all}
use Rattle.script.specs.Scripts.{keeps, rules_of, Said, First, Stored, Meant, script_of}
use Rattle.script.specs.declared.scripts.Script.{Script}
use Rattle.script.specs.declared.flaws.ScriptError.{ScriptError}
use Rattle.script.specs.declared.flaws.ScriptError.TheVariants.{Flawed, NoMemory}
use Rattle.script.specs.declared.scripts.Said as scripts

-- the result is what the definition reads, by what it means
abbrev pub Says : {T X : Type 0} → (T → X) → Result X Expected → Result T Expected → Type 0
Says means read (Ok x) = read ≡ Ok (means x)
Says means read (Err what) = read ≡ Err what

-- the same, with the words behind it
abbrev pub ReadsFirst : {T X : Type 0} → (T → X) → Read X → Result (T × Bor (List (Bor (List ℕ)))) Expected → Type 0
ReadsFirst means read r = Says (λ x. (means x.0, texts x.1.now)) read r

-- the same, unless memory is wanting
abbrev pub Reads : {T X : Type 0} → (T → X) → Result X Expected → Result T Misread → Type 0
Reads means read (Ok x) = read ≡ Ok (means x)
Reads means read (Err (misread.Expected what)) = read ≡ Err what
Reads means read (Err misread.NoMemory) = ⊤

-- a line with its words, as the definitions have it
abbrev pub said_line : scripts.Said → Said
said_line said = record { number = said.number; words = texts said.words.items }

abbrev pub result_map : {A B E : Type 0} → (A → B) → Result A E → Result B E
result_map f (Ok x) = Ok (f x)
result_map f (Err e) = Err e

-- a call with the number of its line
abbrev pub call_of_line : Line → ℕ × machine.Call
call_of_line line = (line.number, written_call line.statement)

-- a first line and the lines behind it, as they were split off
abbrev pub IsFirst : First → Result House Flaw × Bor (List scripts.Said) → Type 0
IsFirst first r = (r.0 ≡ first.house) × (map said_line r.1.now ≡ first.rest)

-- the same of the cells that the second line says
abbrev pub IsStored : Stored → Result (ℕ × ℕ) Flaw × Bor (List scripts.Said) → Type 0
IsStored stored r = (r.0 ≡ stored.cells) × (map said_line r.1.now ≡ stored.rest)

-- the values of all calls keep the rule of their kind
abbrev pub KeepRule : ValueKind → List Line → Type 0
KeepRule kind lines = list_all (keeps (rules_of kind)) (map (λ line. written_call line.statement) lines) ≡ true

-- the same where the kind is known
abbrev pub KeepKnownRule : Option ValueKind → List Line → Type 0
KeepKnownRule None lines = ⊤
KeepKnownRule (Some kind) lines = KeepRule kind lines

-- a script that was read says what a text of so many lines means, and nothing is wrong with it
pub record IsScript (meant : Meant) (end : ℕ) (script : Script) : Type 0 where
  pub sound : meant.flaws ≡ []
  pub house : meant.house ≡ Ok script.house
  pub cells : meant.cells ≡ Ok (script.cells, script.cells_line)
  pub calls : map call_of_line script.lines.items ≡ meant.calls
  pub ended : script.end ≡ end
  -- so the values of all its calls keep the rule of their kind
  pub kept : KeepRule script.house.kind script.lines.items

-- a text that is no script: its flaws are told, and there are some
pub record IsFlawed (meant : Meant) (flaws : List Flaw) : Type 0 where
  pub some : 0 < length flaws
  pub all : flaws ≡ meant.flaws

-- what comes of reading a text; want of memory may come at any
abbrev pub IsReading : List ℕ → Result Script ScriptError → Type 0
IsReading text (Ok script) = IsScript (script_of text) (length (lines_of text)) script
IsReading text (Err (Flawed flaws)) = IsFlawed (script_of text) flaws.all.items
IsReading text (Err NoMemory) = ⊤
