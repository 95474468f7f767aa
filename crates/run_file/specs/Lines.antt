-- The forgery lines of a run file. Assumes nothing.
use Rattle.std.specs.Prelude.{ℕ, Bool, if◌then◌else◌, not, ◌&&◌, ◌||◌, List, [], ◌∷◌, drop, Some, None, Option, ◌==◌, nat_le, nat_lt}
use Rattle.std.specs.List.{list_all}
use Rattle.std.specs.Result.{result_err}
use Rattle.values.specs.declared.refusals.Refusal.{Refusal}
use Rattle.values.specs.declared.refusals.Refusal.TheVariants.{ForgeryLine}
use Rattle.values.specs.Rules.{Rules, numbers, reads}
use Rattle.values.specs.Cells.{Held}
use Rattle.protocol.specs.Machine.{◌when◌, ◌then◌}
use Rattle.run_file.specs.Files.{byte, number_at}

pub record Line : Type 0 where
  pub round : ℕ
  pub sender : ℕ
  pub receiver : ℕ
  pub column : ℕ
  -- 0 for an empty cell, 1 for a filled one
  pub tag : ℕ
  -- the bytes of the value
  pub value : List ℕ

-- the line in 6 bytes and those of a value
abbrev pub line : List ℕ → Line
line bytes = record {
  round = number_at bytes 0;
  sender = byte bytes 2;
  receiver = byte bytes 3;
  column = byte bytes 4;
  tag = byte bytes 5;
  value = drop 6 bytes;
}

abbrev pub all_zero : List ℕ → Bool
all_zero bytes = list_all (λ b. b == 0) bytes

-- a line is faulty where its round is none of the file's or comes before the last line's, where its tag is neither 0 nor 1, and where it
-- forges an empty cell (tag 0) but its value has a byte other than 0
abbrev pub faulty : (rounds last : ℕ) → Line → Bool
faulty rounds last x = nat_le rounds x.round || nat_lt x.round last || nat_lt 1 x.tag || (x.tag == 0 && not (all_zero x.value))

-- why a line is refused, if it is; its value is read only where the tag is 1
abbrev pub line_refusal : Rules → (rounds last : ℕ) → Line → Option Refusal
line_refusal k rounds last x = ForgeryLine when faulty rounds last x then (if x.tag == 1 then result_err (reads k x.value) else None)

-- why lines are refused, if they are: by the first that is
abbrev pub lines_refusal : Rules → (rounds last : ℕ) → List Line → Option Refusal
lines_refusal k rounds last [] = None
lines_refusal k rounds last (x ∷ rest) = line_refusal k rounds last x then lines_refusal k rounds x.round rest

-- the cell that a line forges
abbrev pub cell_of : Line → Held
cell_of x = if x.tag == 0 then None else Some (numbers x.value)
