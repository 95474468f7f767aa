-- The lines of a listing. Assumes nothing.
use Rattle.std.specs.Prelude.{ℕ, zero, suc, List, [], ◌∷◌, ◌++◌, Some, None, Option, codes, decimal}
use Rattle.values.specs.Refusals.{number_of}
use Rattle.values.specs.Rules.{text}
use Rattle.models.specs.Laws.{Meaning}
use Rattle.protocol.specs.Machine.{Setting, State, Decision, Answer, Done, Decided, Refused, step}
use Rattle.run_file.specs.declared.headers.Header.{Header}
use Rattle.run_file.specs.declared.stops.Stop.{Stop}

-- a text and the line feed that ends it
abbrev pub line_with : List ℕ → List ℕ
line_with words = words ++ (10 ∷ [])

abbrev pub first_line : Header → List ℕ
first_line h = line_with (codes "run " ++ text (h.n ∷ h.t ∷ h.rounds ∷ []))

-- what a controller's line says of its decision: its value, `none` where it is empty, or `upset` where it is refused; that of a
-- controller of the block is refused only with 12, and an answer without a cell does not come
abbrev pub shown : Answer → List ℕ
shown Done = []
shown (Decided (Some v)) = text v
shown (Decided None) = codes "none"
shown (Refused why) = codes "upset"

abbrev pub controller_line : (controller : ℕ) → Answer → List ℕ
controller_line i answer = line_with (decimal i ++ (32 ∷ shown answer))

-- the lines of the first n controllers of a run
abbrev pub controller_lines : Setting → Meaning → State → (n : ℕ) → List ℕ
controller_lines x m s zero = []
controller_lines x m s (suc i) = controller_lines x m s i ++ controller_line i (step x m s (Decision i)).1

-- the line of a refused file
abbrev pub round_words : Option ℕ → List ℕ
round_words None = []
round_words (Some r) = codes " round " ++ decimal r

abbrev pub refused_line : Stop → List ℕ
refused_line stop = line_with (codes "refused " ++ (decimal (number_of stop.refusal) ++ round_words stop.round))
