-- A run file by its bytes. Assumes nothing.
use Rattle.std.specs.Prelude.{ℕ, zero, suc, ◌+◌, ◌*◌, Bool, ◌&&◌, List, [], ◌∷◌, map, length, take, drop, None, Option, ◌==◌, slice_index}
use Rattle.std.specs.Result.{result_err}
use Rattle.values.specs.declared.refusals.Refusal.{Refusal}
use Rattle.values.specs.Rules.{Rules, reads}
use Rattle.protocol.specs.Machine.{◌then◌}
use Rattle.run_file.specs.declared.headers.Header.{Header}

-- byte i, and the number in the two bytes from i on, low byte first
abbrev pub byte : List ℕ → ℕ → ℕ
byte bytes i = slice_index bytes i

abbrev pub number_at : List ℕ → ℕ → ℕ
number_at bytes i = byte bytes i + byte bytes (i + 1) * 256

-- the first so many pieces of a width, one after another
abbrev pub pieces : (width count : ℕ) → List ℕ → List (List ℕ)
pieces width zero bytes = []
pieces width (suc count) bytes = take width bytes ∷ pieces width count (drop width bytes)

-- where the parts start and where the file ends, by its counts and the width of a value
module _ (width : ℕ) (h : Header) where
  abbrev pub proposals_start : ℕ
  proposals_start = 16

  abbrev pub sets_start : ℕ
  sets_start = proposals_start + h.n * width

  abbrev pub lines_start : ℕ
  lines_start = sets_start + 2 * (h.rounds + 1)

  abbrev pub file_end : ℕ
  file_end = lines_start + h.forgeries * (6 + width)

  -- the offsets and the file's length are what the counts give
  abbrev pub laid_out : List ℕ → Bool
  laid_out bytes = h.proposals_at == proposals_start && h.sets_at == sets_start && h.forgeries_at == lines_start && length bytes == file_end

  -- the proposals, the initial set, the sets of the rounds, and the forgery lines, each from the byte where it starts
  abbrev pub proposals : List ℕ → List (List ℕ)
  proposals bytes = pieces width h.n (drop proposals_start bytes)

  abbrev pub initial_set : List ℕ → ℕ
  initial_set bytes = number_at bytes sets_start

  abbrev pub round_sets : List ℕ → List ℕ
  round_sets bytes = map (λ two. number_at two 0) (pieces 2 h.rounds (drop (sets_start + 2) bytes))

  abbrev pub forgery_lines : List ℕ → List (List ℕ)
  forgery_lines bytes = pieces (6 + width) h.forgeries (drop lines_start bytes)

-- why proposals are refused, if they are: by the first that is not lawful
abbrev pub proposals_refusal : Rules → List (List ℕ) → Option Refusal
proposals_refusal k [] = None
proposals_refusal k (value ∷ rest) = result_err (reads k value) then proposals_refusal k rest
