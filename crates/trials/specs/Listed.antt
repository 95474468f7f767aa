-- What a user of listings reads off two lines. Assumes nothing.
use Rattle.std.specs.Prelude.{◌≡◌, ℕ, ◌+◌, ◌*◌, ◌<◌, ◌≤◌, false, List, [], Ok, ◌==◌, slice_index_or}
use Rattle.std.specs.List.{slice_split}
use Rattle.models.specs.Sets.{has}
use Rattle.run_file.specs.declared.headers.Header.{Header}
use Rattle.run_file.specs.Headers.{header_of}
use Rattle.run_file.specs.Promises.{CleanIn, last_set, says}

-- the line of a controller, in the text of a listing
abbrev pub line_of : List ℕ → ℕ → List ℕ
line_of words i = slice_index_or (slice_split (λ b. b == 10) words) (i + 1) []

-- a controller of the block that is not in the last set of the file
abbrev pub Stood : Header → List ℕ → ℕ → Type 0
Stood h bytes i = (i < h.n) × (has (last_set h bytes) i ≡ false)

-- with a clean coordinator and enough rounds the lines of any two of these say the same
pub record Agreed (bytes words : List ℕ) : Type 0 where
  pub header : Header
  pub is : header_of bytes ≡ Ok header
  pub alike : (c : ℕ) → CleanIn header bytes c → 3 * header.n ≤ header.rounds → (i j : ℕ) → Stood header bytes i → Stood header bytes j
      → (said : List ℕ) × (line_of words i ≡ says i said) × (line_of words j ≡ says j said)
