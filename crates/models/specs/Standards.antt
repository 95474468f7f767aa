-- The five models, by a table with an entry for each. Assumes nothing.
use Rattle.std.specs.Prelude.{◌≡◌, ℕ, ◌*◌, min, Bool, true, if◌then◌else◌, List, [], ◌∷◌, Some, None, Option, Result, MatchOption, ◌==◌, ◌≢◌, slice_index_or}
use Rattle.std.specs.Option.{ok_or}
use Rattle.std.specs.Result.{result_ok}
use Rattle.models.specs.declared.classes.Class.{Class}
use Rattle.models.specs.declared.classes.Class.TheVariants.{Honest, Silent, Uniform, Free}
use Rattle.models.specs.declared.classes.Counts.{Counts}
use Rattle.models.specs.declared.standards.Standard.{Standard}
use Rattle.models.specs.declared.standards.TheConstants.{MULTIPLES}
use Rattle.models.specs.declared.standards.UnknownModel.{UnknownModel}
use Rattle.models.specs.declared.standards.Standard.TheVariants.{Aware, Unaware, Buffered, Carried, Fixed}
use Rattle.models.specs.Sets.{has}
use Rattle.models.specs.Laws.{Meaning}

-- a model's entry: its code, the moves that it allows, the class of a controller that is in both sets, in the set after
-- only and in the set before only, and how many times t its counts are
pub record Entry : Type 0 where
  pub code : ℕ
  pub moves : (before after : ℕ) → Bool
  pub in_both : Class
  pub in_after_only : Class
  pub in_before_only : Class
  pub times : Counts

abbrev any_move : ℕ → ℕ → Bool
any_move before after = true

abbrev same_set : ℕ → ℕ → Bool
same_set before after = before == after

-- what stands past the table of multiples; no model has such a code
abbrev past_table : Counts
past_table = record { b = 0; e = 0; l = 0 }

-- an entry, whose multiples stand in the constant table at its code
abbrev row : ℕ → (ℕ → ℕ → Bool) → Class → Class → Class → Entry
row code moves both after_only before_only = record {
  code = code;
  moves = moves;
  in_both = both;
  in_after_only = after_only;
  in_before_only = before_only;
  times = slice_index_or MULTIPLES code past_table;
}

-- the table of the five models
abbrev pub entry : Standard → Entry
entry Aware = row 0 any_move Free Free Silent
entry Unaware = row 1 any_move Free Free Uniform
entry Buffered = row 2 any_move Free Free Free
entry Carried = row 3 any_move Free Honest Free
entry Fixed = row 4 same_set Free Free Free

abbrev pub code_of : Standard → ℕ
code_of s = (entry s).code

-- the class of a controller, by whether it was in the set before and is in the set after; in neither set it is honest
abbrev pub class_in : Entry → (was is : Bool) → Class
class_in e was is = if is then (if was then e.in_both else e.in_after_only) else (if was then e.in_before_only else Honest)

-- each count is its multiple of t, or of 15 where t is above 15
abbrev pub times_t : Counts → ℕ → Counts
times_t m t = record { b = m.b * min t 15; e = m.e * min t 15; l = m.l * min t 15 }

-- what a model of the table returns
abbrev pub standard : Standard → Meaning
standard s = record {
  allowed = λ before after t. (entry s).moves before after;
  class = λ before after t i. class_in (entry s) (has before i) (has after i);
  counts = λ t. times_t (entry s).times t;
}

-- the first of some models that has a code
abbrev with_code_among : List Standard → ℕ → Option Standard
with_code_among [] code = None
with_code_among (s ∷ rest) code = if code_of s == code then Some s else with_code_among rest code

-- the model with a code
abbrev pub with_code : ℕ → Option Standard
with_code = with_code_among (Aware ∷ Unaware ∷ Buffered ∷ Carried ∷ Fixed ∷ [])

-- the law of codes: the result is a model with the code; or there is none, and no model has it
abbrev pub HasCode : ℕ → Option Standard → Type 0
HasCode code r = MatchOption r ((s : Standard) → code_of s ≢ code) (λ s. code_of s ≡ code)

-- reading a code: the model with it, or an error that tells the code
pub record Decodes (code : ℕ) (r : Result Standard UnknownModel) : Type 0 where
  pub value : r ≡ ok_or (with_code code) (record { 0 = code })
  pub law : HasCode code (result_ok r)
