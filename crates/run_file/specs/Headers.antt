-- The header of a run file. Assumes nothing.
use Rattle.std.specs.Prelude.{ℕ, zero, suc, Bool, true, false, if◌then◌else◌, ◌||◌, List, [], ◌∷◌, Some, None, Option, Result, Err, length, ◌==◌, nat_lt}
use Rattle.std.specs.Option.{ok_or}
use Rattle.values.specs.declared.refusals.Refusal.{Refusal}
use Rattle.values.specs.declared.refusals.Refusal.TheVariants.{FileSize, HeaderCode}
use Rattle.models.specs.declared.standards.Standard.{Standard}
use Rattle.models.specs.Laws.{Meaning}
use Rattle.models.specs.Standards.{standard, with_code}
use Rattle.models.specs.Stamps.{stamped}
use Rattle.run_file.specs.declared.headers.ValueKind.{ValueKind}
use Rattle.run_file.specs.declared.headers.ValueKind.TheVariants.{Setpoint, Sheet}
use Rattle.run_file.specs.declared.headers.Header.{Header}
use Rattle.run_file.specs.Files.{byte, number_at}

-- the code of each kind
abbrev pub kind_code : ValueKind → ℕ
kind_code Setpoint = 0
kind_code Sheet = 1

-- the first of some kinds that has a code
abbrev kind_among : List ValueKind → ℕ → Option ValueKind
kind_among [] code = None
kind_among (kind ∷ rest) code = if kind_code kind == code then Some kind else kind_among rest code

-- the kind with a code
abbrev pub kind_with : ℕ → Option ValueKind
kind_with = kind_among (Setpoint ∷ Sheet ∷ [])

-- 0 is without stamps, and 1 with them
abbrev pub stamps_with : ℕ → Option Bool
stamps_with zero = Some false
stamps_with (suc zero) = Some true
stamps_with (suc (suc code)) = None

-- the header with these codes, and with the numbers that stand in the bytes after them
abbrev pub fields : List ℕ → ValueKind → Standard → Bool → Header
fields bytes kind model stamps = record {
  kind = kind;
  model = model;
  stamps = stamps;
  n = byte bytes 3;
  t = byte bytes 4;
  rounds = number_at bytes 6;
  forgeries = number_at bytes 8;
  proposals_at = number_at bytes 10;
  sets_at = number_at bytes 12;
  forgeries_at = number_at bytes 14;
}

abbrev with_codes : List ℕ → Option ValueKind → Option Standard → Option Bool → Option Header
with_codes bytes None model stamps = None
with_codes bytes (Some kind) None stamps = None
with_codes bytes (Some kind) (Some model) None = None
with_codes bytes (Some kind) (Some model) (Some stamps) = Some (fields bytes kind model stamps)

-- the header, if each code has a meaning and byte 5 is 0
abbrev pub coded : List ℕ → Option Header
coded bytes = if byte bytes 5 == 0 then with_codes bytes (kind_with (byte bytes 0)) (with_code (byte bytes 1)) (stamps_with (byte bytes 2)) else None

-- the header of a file, or why it has none
abbrev pub header_of : List ℕ → Result Header Refusal
header_of bytes = if nat_lt (length bytes) 16 || nat_lt 65535 (length bytes) then Err FileSize else ok_or (coded bytes) HeaderCode

-- the model that a header names
abbrev pub model_of : Header → Meaning
model_of h = if h.stamps then stamped (standard h.model) else standard h.model
