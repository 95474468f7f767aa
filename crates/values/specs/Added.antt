-- Text that is added to a buffer. Assumes nothing.
use Rattle.std.specs.Prelude.{◌≡◌, ℕ, ◌≤◌, List, ◌++◌, length, take, drop}
use Rattle.values.specs.declared.buffers.Buffer.{Buffer}

-- From buffer a to buffer b the bytes bs were added to the text, as many as the room takes. The room is as long as it
-- was, and its bytes past the text are as they were.
pub record Added (a : Buffer) (bs : List ℕ) (b : Buffer) : Type 0 where
  pub room : length b.room.now ≡ length a.room.now
  pub text : take b.len b.room.now ≡ take (length a.room.now) (take a.len a.room.now ++ bs)
  pub rest : drop b.len b.room.now ≡ drop b.len a.room.now
  pub grows : a.len ≤ b.len

-- what a function that writes does: it adds bytes to the text, in the same room
pub record Puts (a : Buffer) (bs : List ℕ) (b : Buffer) : Type 0 where
  pub named : b.room.ghost_name ≡ a.room.ghost_name
  pub added : Added a bs b
