-- The text of a transcript. Only the words of a refusal are left open: they are some words of plain print.
use Rattle.std.specs.Prelude.{◌≡◌, ℕ, ◌+◌, ◌/◌, if◌then◌else◌, List, [], ◌∷◌, ◌++◌, Some, None, Option, codes, decimal}
use Rattle.std.specs.Option.{option_or, option_map, unwrap_or}
use Rattle.values.specs.Cells.{Held}
use Rattle.values.specs.Refusals.{number_of, IsOneLine}
use Rattle.protocol.specs.declared.stages.Stage.{Stage}
use Rattle.protocol.specs.declared.stages.Stage.TheVariants.{Proposing, Collecting, Deciding, Maintaining}
use Rattle.protocol.specs.Stages.{stage_of, coordinator_of}
use Rattle.protocol.specs.Machine as machine
use Rattle.protocol.specs.Transcripts.{Transcript, Entry, accepted, opening_in, closes_in}
use Rattle.script.specs.Figures.{numbers_of}
use Rattle.script.specs.Statements.{log_by}
use Rattle.script.specs.Written.{written, written_house, written_set, written_figure}
use Rattle.script.specs.declared.scripts.House.{House}
use Rattle.script.specs.declared.scripts.Script.{Script}
use Rattle.transcript.specs.declared.outcomes.Decisions.{Decisions}
use Rattle.transcript.specs.declared.outcomes.Decisions.TheVariants.{Nothing, Equal, Unequal}
use Rattle.transcript.specs.declared.outcomes.Outcome.{Outcome}
use Rattle.transcript.specs.declared.replaying.Replay.{Replay}

-- the phase of a round, and who coordinates it
abbrev pub coordinated : (phase : ℕ) → List ℕ
coordinated phase = codes ", phase " ++ (decimal phase ++ (codes ", coordinator " ++ decimal (coordinator_of phase)))

-- what a round is for
abbrev pub purpose : Stage → (phase : ℕ) → List ℕ
purpose Proposing phase = codes "proposing" ++ coordinated phase
purpose Collecting phase = codes "collecting" ++ coordinated phase
purpose Deciding phase = codes "deciding" ++ coordinated phase
purpose Maintaining phase = codes "maintaining"

-- the line about a round of a block of n that begins with a set
abbrev pub round_line : (n round set : ℕ) → List ℕ
round_line n round set = codes "# round " ++ (decimal round ++ (codes ": " ++ (purpose (stage_of n round) (round / 3) ++ (codes ", seated " ++ (written_set set ++ codes "\n")))))

-- what is said of a decision's cell
abbrev pub cell_text : Held → List ℕ
cell_text None = codes "none"
cell_text (Some numbers) = written_figure numbers

-- what is said of an answer
abbrev pub TellsAnswer : machine.Answer → List ℕ → Type 0
TellsAnswer machine.Done text = text ≡ codes "accepted"
TellsAnswer (machine.Decided cell) text = text ≡ cell_text cell
TellsAnswer (machine.Refused why) text = (words : List ℕ) × IsOneLine words × (text ≡ codes "refused " ++ (decimal (number_of why) ++ (codes ": " ++ words)))

-- the line of a round that a call begins: an accepted seat does; the number of the round is how many were closed before
abbrev pub begun : (n closed : ℕ) → machine.Call → machine.Answer → List ℕ
begun n closed (machine.Open m t proposals initial) answer = []
begun n closed (machine.Seat set) answer = if accepted answer then round_line n closed set else []
begun n closed (machine.Forge j i k cell) answer = []
begun n closed machine.Close answer = []
begun n closed (machine.Decision i) answer = []

-- the lines of a call: that of a round that it begins, and its own, with the call and its answer
abbrev pub TellsCall : (n closed : ℕ) → Entry → List ℕ → Type 0
TellsCall n closed e text = (answer : List ℕ) × TellsAnswer e.answer answer × (text ≡ begun n closed e.call e.answer ++ (written e.call ++ (codes "  # " ++ (answer ++ codes "\n"))))

-- how many controllers the block has that was opened first, if one was before or is by this call
abbrev pub opened_first : Option ℕ → Entry → Option ℕ
opened_first before e = option_or before (option_map (λ o. o.n) (opening_in e.call e.answer))

-- the lines of calls, one after another; where no block was opened, rounds are told as if it had 0 controllers
abbrev pub TellsCalls : (opened : Option ℕ) (closed : ℕ) → Transcript → List ℕ → Type 0
TellsCalls opened closed [] text = text ≡ []
TellsCalls opened closed (e ∷ more) text = (line rest : List ℕ) × (text ≡ line ++ rest) × TellsCall (unwrap_or opened 0) closed e line
    × TellsCalls (opened_first opened e) (closed + closes_in e.call e.answer) more rest

-- the first two lines: what the script votes on, and its cells
abbrev pub head_lines : House → (cells : ℕ) → List ℕ
head_lines house cells = written_house house ++ (codes "\ncells " ++ (decimal cells ++ codes "\n"))

-- what is said of the filled decisions
abbrev pub decisions_line : Decisions → List ℕ
decisions_line Nothing = codes "# filled decisions: none\n"
decisions_line (Equal figure) = codes "# filled decisions: all " ++ (written_figure (numbers_of figure) ++ codes "\n")
decisions_line Unequal = codes "# filled decisions: not all equal\n"

abbrev pub closed_line : (closed : ℕ) → List ℕ
closed_line closed = codes "# rounds closed: " ++ (decimal closed ++ codes "\n")

abbrev pub clean_line : (clean : ℕ) → List ℕ
clean_line clean = codes "# clean coordinators: " ++ (written_set clean ++ codes "\n")

-- the last three lines
abbrev pub outcome_lines : Outcome → List ℕ
outcome_lines o = closed_line o.closed ++ (clean_line o.clean.0 ++ decisions_line o.decisions)

-- a whole transcript: its first lines, those of its calls, and its last ones
abbrev pub TellsScript : Script → Replay → List ℕ → Type 0
TellsScript script replay text = (calls : List ℕ) × TellsCalls None 0 (log_by numbers_of script.lines.items replay.answers.items) calls
    × (text ≡ head_lines script.house script.cells ++ (calls ++ outcome_lines replay.outcome))
