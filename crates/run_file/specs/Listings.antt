-- What becomes of a run file: a text, and why it is refused, if it is. Assumes nothing.
use Rattle.std.specs.Prelude.{ℕ, if◌then◌else◌, not, List, [], ◌∷◌, ◌++◌, map, length, None, Some, Option, Result, Ok, Err, ◌==◌, nat_lt}
use Rattle.std.specs.Option.{option_map}
use Rattle.values.specs.declared.refusals.Refusal.{Refusal}
use Rattle.values.specs.declared.refusals.Refusal.TheVariants.{Layout, TextRoom}
use Rattle.values.specs.Refusals.{number_of}
use Rattle.values.specs.Rules.{Rules, numbers}
use Rattle.values.specs.Setpoints.{setpoint_rules}
use Rattle.values.specs.Sheets.{sheet_rules}
use Rattle.models.specs.Laws.{Meaning}
use Rattle.protocol.specs.Machine.{Setting, State, Call, Idle, Open, needed, step, ◌when◌, ◌then◌}
use Rattle.run.specs.Promises.{block_size}
use Rattle.run_file.specs.declared.headers.ValueKind.{ValueKind}
use Rattle.run_file.specs.declared.headers.ValueKind.TheVariants.{Setpoint, Sheet}
use Rattle.run_file.specs.declared.headers.Header.{Header}
use Rattle.run_file.specs.declared.stops.Stop.{Stop}
use Rattle.run_file.specs.Files.{laid_out, proposals, initial_set, round_sets, forgery_lines, proposals_refusal}
use Rattle.run_file.specs.Headers.{kind_code, header_of, model_of}
use Rattle.run_file.specs.Lines.{line, lines_refusal}
use Rattle.run_file.specs.Votes.{Asked, rounds_from, unless_stopped, run_through}
use Rattle.run_file.specs.Texts.{first_line, controller_lines, refused_line}

-- the rules of each kind of values
abbrev pub rules_of : ValueKind → Rules
rules_of Setpoint = setpoint_rules
rules_of Sheet = sheet_rules

-- a refusal outside the rounds
abbrev pub stop : Refusal → Stop
stop why = record { refusal = why; round = None }

-- what a file of a kind asks for
module _ (k : Rules) (h : Header) (bytes : List ℕ) where
  -- why it is refused before any call, if it is
  abbrev pub file_refusal : Option Refusal
  file_refusal =
      Layout when not (laid_out k.width h bytes)
      then proposals_refusal k (proposals k.width h bytes)
      then lines_refusal k h.rounds 0 (map line (forgery_lines k.width h bytes))

  abbrev pub open_of : Call
  open_of = Open h.n h.t (map numbers (proposals k.width h bytes)) (initial_set k.width h bytes)

  -- the calls in their order
  abbrev pub calls_of : List Asked
  calls_of = record { call = open_of; round = None } ∷ rounds_from 0 (round_sets k.width h bytes) (map line (forgery_lines k.width h bytes))

-- how many controllers a block has that is opened, unless the file is refused first
abbrev pub size_unless : Option Refusal → State → ℕ
size_unless None s = block_size s
size_unless (Some why) s = 0

abbrev pub setting_of : Rules → (cells : ℕ) → Setting
setting_of k cells = record { cells = cells; fallback = k.fallback }

-- what becomes of it under a model, with a store of so many cells
module _ (k : Rules) (m : Meaning) (cells : ℕ) (h : Header) (bytes : List ℕ) where
  -- the state that its calls leave, if neither the file nor one of them is refused
  unfoldable pub outcome : Result State Stop
  outcome = unless_stopped (option_map stop (file_refusal k h bytes)) (run_through (setting_of k cells) m Idle (calls_of k h bytes))

  -- how many of the cells the run may write: those that its block needs, if it is opened
  unfoldable pub cells_used : ℕ
  cells_used = needed (size_unless (file_refusal k h bytes) (step (setting_of k cells) m Idle (open_of k h bytes)).0)

-- the text of a run that ended in a state
unfoldable pub listing : Rules → Meaning → (cells : ℕ) → Header → State → List ℕ
listing k m cells h s = first_line h ++ controller_lines (setting_of k cells) m s h.n

-- what is reported of a file: a text, and why the file is refused, if it is
pub record Report : Type 0 where
  pub text : List ℕ
  pub stop : Option Stop

abbrev pub accepted : (text : List ℕ) → Report
accepted text = record { text = text; stop = None }

-- a refused file's text is the line of its very stop
abbrev pub refused : Stop → Report
refused why = record { text = refused_line why; stop = Some why }

abbrev pub report_of : (State → List ℕ) → Result State Stop → Report
report_of lists (Ok s) = accepted (lists s)
report_of lists (Err why) = refused why

-- a file with this header, under a model
abbrev pub report_under : Rules → Meaning → (cells : ℕ) → Header → List ℕ → Report
report_under k m cells h bytes = report_of (listing k m cells h) (outcome k m cells h bytes)

-- how many cells the store for each kind has
pub record Cells : Type 0 where
  pub setpoints : ℕ
  pub sheets : ℕ

abbrev pub lent : {A B : Type 0} → List A → List B → Cells
lent setpoints sheets = record { setpoints = length setpoints; sheets = length sheets }

abbrev pub cells_of : Cells → ValueKind → ℕ
cells_of c Setpoint = c.setpoints
cells_of c Sheet = c.sheets

-- the same under the model that the header names
abbrev pub of_kind : Cells → List ℕ → Header → ValueKind → Report
of_kind c bytes h kind = report_under (rules_of kind) (model_of h) (cells_of c kind) h bytes

abbrev pub with_header : Cells → List ℕ → Result Header Refusal → Report
with_header c bytes (Ok h) = of_kind c bytes h h.kind
with_header c bytes (Err why) = refused (stop why)

-- how many bytes of room a text needs at least
abbrev pub least_room : ℕ
least_room = 512

-- too little room takes no text
abbrev pub no_room : Report
no_room = record { text = []; stop = Some (stop TextRoom) }

-- the listing of a file's bytes, where the room for the text has so many bytes
abbrev pub listing_of : (room : ℕ) → Cells → List ℕ → Report
listing_of room c bytes = if nat_lt room least_room then no_room else with_header c bytes (header_of bytes)

-- the number that people know a report by: its refusal's, or 0
abbrev pub number_told : Option Stop → ℕ
number_told None = 0
number_told (Some why) = number_of why.refusal

-- how many cells for values of a kind may be written: those that the run uses, if its values are of that kind
abbrev pub used_with : Cells → List ℕ → ValueKind → Result Header Refusal → ℕ
used_with c bytes kind (Ok h) = if kind_code h.kind == kind_code kind then cells_used (rules_of h.kind) (model_of h) (cells_of c h.kind) h bytes else 0
used_with c bytes kind (Err why) = 0

abbrev pub used_of : (room : ℕ) → Cells → List ℕ → ValueKind → ℕ
used_of room c bytes kind = if nat_lt room least_room then 0 else used_with c bytes kind (header_of bytes)
