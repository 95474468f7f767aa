-- What lies in code, as the format has it, and what private functions promise. Assumes nothing.
use Rattle.std.specs.Prelude.{◌≡◌, ℕ, suc, ◌+◌, ◌^◌, ◌<◌, ◌≤◌, true, List, [], ◌∷◌, ◌++◌, map, length, take, codes, Some, None, Option, Result, Ok, Err, MatchResult, ⊤}
use Rattle.values.specs.declared.kinds.Kind.{Ghosts}
use Rattle.values.specs.declared.refusals.Refusal.{Refusal}
use Rattle.values.specs.Rules.{Rules, means, numbers, text}
use Rattle.values.specs.Cells.{shows}
use Rattle.values.specs.declared.buffers.Buffer.{Buffer}
use Rattle.values.specs.Added.{Puts}
use Rattle.models.specs.declared.sets.TheConstants.{MOST_CONTROLLERS}
use Rattle.models.specs.Laws.{Meaning}
use Rattle.protocol.specs.Machine.{Setting, State, Idle, Open, Decision, Answer, Done, Decided, Refused, needed, step}
use Rattle.run.specs.declared.run.Run.{Run}
use Rattle.run.specs.Runs.{setting, state}
use Rattle.run.specs.Promises.{block_size}
use Rattle.run_file.specs.declared.headers.Header.{Header}
use Rattle.run_file.specs.declared.parts.Parts.{Parts}
use Rattle.run_file.specs.declared.pieces.Pieces.{Pieces}
use Rattle.run_file.specs.declared.lines.Line.{Line}
use Rattle.run_file.specs.declared.stops.Stop.{Stop}
use Rattle.run_file.specs.Files.{number_at, pieces, laid_out, proposals, initial_set, round_sets, forgery_lines}
use Rattle.run_file.specs.Lines.{line, lines_refusal, cell_of}
use Rattle.run_file.specs.Lines as format
use Rattle.run_file.specs.Headers.{model_of}
use Rattle.run_file.specs.Listings.{setting_of, file_refusal, outcome, listing, least_room, Report, accepted, refused, report_under}
use Rattle.run_file.specs.Promises.{IsVote}
use Rattle.run_file.specs.Votes.{Asked, lines_of, rounds_from, run_through}

abbrev pub pieces_of : Pieces → List (List ℕ)
pieces_of p = pieces p.width p.count p.bytes.now

-- the first of some pieces, and those after it
pub record IsFirst (all : Pieces) (first : List ℕ) (rest : Pieces) : Type 0 where
  pub pieces : pieces_of all ≡ first ∷ pieces_of rest
  pub bytes : length first ≡ all.width
  pub width : rest.width ≡ all.width
  pub count : all.count ≡ rest.count + 1

-- a line in code is this line of the format
pub record IsLine {V R : Type 0} (k : Rules) (plain : R → List ℕ) (x : Line V R) (is : format.Line) : Type 0 where
  pub round : x.round ≡ is.round
  pub sender : x.place.sender ≡ is.sender
  pub receiver : x.place.receiver ≡ is.receiver
  pub column : x.place.column ≡ is.column
  pub cell : shows k plain x.cell ≡ cell_of is

-- what a call answers, with the round that it belongs to where it is refused
abbrev pub stop_at : Option ℕ → Result ⊤ Refusal → Result ⊤ Stop
stop_at round (Ok x) = Ok x
stop_at round (Err why) = Err (record { refusal = why; round = round })

-- the forgery lines that pieces hold
abbrev pub lines_in : Pieces → List format.Line
lines_in p = map line (pieces_of p)

-- the sets that pieces hold
abbrev pub sets_in : Pieces → List ℕ
sets_in p = map (λ two. number_at two 0) (pieces_of p)

-- the parts of a file whose offsets and length are right
pub record IsParted (width : ℕ) (h : Header) (bytes : List ℕ) (p : Parts) : Type 0 where
  pub laid : laid_out width h bytes ≡ true
  pub proposals_are : pieces_of p.proposals ≡ proposals width h bytes
  pub proposal_count : p.proposals.count ≡ h.n
  pub initial_is : p.initial.0 ≡ initial_set width h bytes
  pub sets_are : sets_in p.sets ≡ round_sets width h bytes
  pub set_count : p.sets.count ≡ h.rounds
  pub set_width : p.sets.width ≡ 2
  pub lines_are : pieces_of p.lines ≡ forgery_lines width h bytes
  pub line_width : p.lines.width ≡ 6 + width
  -- t has one byte in the file, and the number of rounds two
  pub t_small : h.t < 2 ^ 8
  pub rounds_small : h.rounds < 2 ^ 16

-- the first values' rows stand for the proposals, where these are no more than 16
abbrev pub HasRows : {R : Type 0} → Rules → (R → List ℕ) → Pieces → List R → Type 0
HasRows k plain proposals rows = proposals.count ≤ MOST_CONTROLLERS → map (means k plain) (take proposals.count rows) ≡ map numbers (pieces_of proposals)

-- a file is taken apart and its proposals are read into values' rows, or it is refused before any call
abbrev pub ReadsParts : {R : Type 0} → Rules → (R → List ℕ) → Header → List ℕ → List R → Result Parts Refusal → Type 0
ReadsParts k plain h bytes rows result = MatchResult result
    (λ parts. (file_refusal k h bytes ≡ None) × IsParted k.width h bytes parts × HasRows k plain parts.proposals rows)
    (λ why. file_refusal k h bytes ≡ Some why)

-- the open that a header and its parts ask for
abbrev pub opens : Header → Parts → Asked
opens h p = record { call = Open h.n h.t (map numbers (pieces_of p.proposals)) p.initial.0; round = None }

-- the rounds that sets and lines ask for, and all calls that a header and the parts of its file do
abbrev pub rounds_in : (sets lines : Pieces) → List Asked
rounds_in sets lines = rounds_from 0 (sets_in sets) (lines_in lines)

abbrev pub calls_in : Header → Parts → List Asked
calls_in h p = opens h p ∷ rounds_in p.sets p.lines

-- how many cells the block needs that this open makes, if it makes one
abbrev pub cells_for : Setting → Meaning → Header → Parts → ℕ
cells_for x m h p = needed (block_size (step x m Idle (opens h p).call).0)

-- none of the lines of a file with so many rounds is refused after a line of this round
abbrev pub Checked : Rules → (rounds round : ℕ) → List format.Line → Type 0
Checked k rounds round xs = lines_refusal k rounds round xs ≡ None

-- none of the lines is of this round: they are of later ones
abbrev pub AreLater : Rules → (rounds round : ℕ) → Pieces → Type 0
AreLater k rounds round lines = (lines_of round (lines_in lines) ≡ []) × Checked k rounds (suc round) (lines_in lines)

-- the first of some lines, which is of this round, and those after it
pub record IsNext {V R : Type 0} (k : Rules) (plain : R → List ℕ) (rounds round : ℕ) (lines : Pieces) (x : Line V R) (rest : Pieces) : Type 0 where
  pub is : format.Line
  pub line : IsLine k plain x is
  pub first : lines_in lines ≡ is ∷ lines_in rest
  pub of_round : is.round ≡ round
  pub checked : Checked k rounds round (lines_in rest)
  pub width : rest.width ≡ lines.width
  pub fewer : rest.count < lines.count

-- what is left of some lines after those of a round: the later rounds ask for the same with them as with all
pub record Leaves (k : Rules) (rounds round : ℕ) (lines rest : Pieces) : Type 0 where
  pub checked : Checked k rounds (suc round) (lines_in rest)
  pub width : rest.width ≡ lines.width
  pub same : (sets : List ℕ) → rounds_from (suc round) sets (lines_in lines) ≡ rounds_from (suc round) sets (lines_in rest)

module _ {V R : Type 0} {kind : Ghosts V R} where
  -- these calls are performed: whichever come after them go on from the state that they leave
  abbrev pub GoesOn : Meaning → List Asked → (before after : Run V R kind) → Type 0
  GoesOn m calls before after = (more : List Asked) → run_through (setting before) m (state before) (calls ++ more) ≡ run_through (setting before) m (state after) more

  -- one of these calls is refused: whichever come after them, all ends with this stop
  abbrev pub Stops : Meaning → List Asked → Run V R kind → Stop → Type 0
  Stops m calls before stop = (more : List Asked) → run_through (setting before) m (state before) (calls ++ more) ≡ Err stop

  -- they are all performed, or one of them is refused
  abbrev pub RunsThrough : {A : Type 0} → Meaning → List Asked → (before after : Run V R kind) → Result A Stop → Type 0
  RunsThrough m calls before after result = MatchResult result (λ _. GoesOn m calls before after) (λ stop. Stops m calls before stop)

  -- the same of all calls that there are, from this state on: none comes after them
  abbrev pub RunsToEnd : Meaning → State → List Asked → (before after : Run V R kind) → Result ⊤ Stop → Type 0
  RunsToEnd m s calls before after result = MatchResult result (λ _. run_through (setting before) m s calls ≡ Ok (state after)) (λ stop. run_through (setting before) m s calls ≡ Err stop)

-- no value of a kind takes more bytes of text than this
abbrev pub Fits : Rules → (most : ℕ) → Type 0
Fits k most = (xs : List ℕ) → k.allowed xs ≡ true → length (text xs) ≤ most

-- a decision that is answered is empty, or a lawful value
abbrev pub IsSound : Rules → Answer → Type 0
IsSound k Done = ⊤
IsSound k (Decided None) = ⊤
IsSound k (Decided (Some v)) = k.allowed v ≡ true
IsSound k (Refused why) = ⊤

-- a file that is not refused, the state that it leaves, and its listing, which is added to a text
pub record IsListed (k : Rules) (m : Meaning) (cells : ℕ) (h : Header) (bytes : List ℕ) (before after : Buffer) : Type 0 where
  pub left : State
  pub laid : laid_out k.width h bytes ≡ true
  pub ends : outcome k m cells h bytes ≡ Ok left
  pub puts : Puts before (listing k m cells h left) after
  pub sound : (i : ℕ) → IsSound k (step (setting_of k cells) m left (Decision i)).1
  pub small : (h.n ≤ MOST_CONTROLLERS) × (h.t < 2 ^ 8) × (h.rounds < 2 ^ 16)

-- a file under a model: it is not refused, and its listing is added; or this is its stop, and nothing is added
abbrev pub IsListedOr : Rules → Meaning → (cells : ℕ) → Header → (bytes : List ℕ) → Result ⊤ Stop → (before after : Buffer) → Type 0
IsListedOr k m cells h bytes result before after = MatchResult result
    (λ _. IsListed k m cells h bytes before after)
    (λ stop. (outcome k m cells h bytes ≡ Err stop) × Puts before [] after)

-- what becomes of a file: its listing, which starts with `run`, obeys a law and is not long, is added to a text; or it is refused, and nothing is added
abbrev pub Becomes : (Law : List ℕ → Type 0) → Report → Result ⊤ Stop → (before after : Buffer) → Type 0
Becomes Law report result before after = MatchResult result
    (λ _. (text : List ℕ) × (report ≡ accepted text) × Puts before text after × (length text ≤ least_room) × (take 3 text ≡ codes "run") × Law text)
    (λ stop. (report ≡ refused stop) × Puts before [] after)

-- the same of a file with this header, by the rules of its values
abbrev pub BecomesVote : Rules → (cells : ℕ) → Header → (bytes : List ℕ) → Result ⊤ Stop → (before after : Buffer) → Type 0
BecomesVote k cells h bytes = Becomes (IsVote k h bytes) (report_under k (model_of h) cells h bytes)
