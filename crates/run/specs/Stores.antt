-- Where the cells of a run lie in its store. Assumes nothing.
use Rattle.std.specs.Prelude.{ℕ, ◌+◌, ◌*◌, List, take, drop, Option, slice_set}
use Rattle.run.specs.declared.calls.Place.{Place}

-- the cells that the rules name, one part after another; after them come the work cells, and then those past the needed number
pub record Store (R : Type 0) : Type 0 where
  -- n * n * n cells, by sender, receiver and column
  pub forged : List (Option R)
  -- the controllers' rows: n * n cells, by controller and column
  pub rows : List (Option R)
  -- n cells each, by controller
  pub v : List (Option R)
  pub decisions : List (Option R)

abbrev pub store : {R : Type 0} → (n : ℕ) → List (Option R) → Store R
store n cells = record {
  forged = take (n * n * n) cells;
  rows = take (n * n) (drop (n * n * n) cells);
  v = take n (drop (n * n) (drop (n * n * n) cells));
  decisions = take n (drop n (drop (n * n) (drop (n * n * n) cells)));
}

-- how many cells those are, and how many there are to work in
abbrev pub kept_cells : ℕ → ℕ
kept_cells n = n * n * n + n * n + 2 * n

abbrev pub work_cells : ℕ → ℕ
work_cells n = n * n + 3 * n

-- a store with this cell at a place of a forged message
abbrev pub with_forged : {R : Type 0} → (n : ℕ) → Place → Option R → Store R → Store R
with_forged n place cell s = record s { forged = slice_set s.forged ((place.sender * n + place.receiver) * n + place.column) cell }
