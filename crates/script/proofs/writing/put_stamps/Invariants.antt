use Rattle.std.proofs.Common.{◌≡◌, ◌++◌, codes, replicate, string_bytes}
use Rattle.script.specs.Written.{behind_blanks}
use Rattle.script.proofs.writing.put_stamps.Given as goal

abbrev pub invariant-loop-left : goal.invariant-loop-left
invariant-loop-left l = string_bytes l.out ++ behind_blanks (replicate l.left (codes "stamped")) ≡ string_bytes l.fn.out ++ behind_blanks (replicate l.layers (codes "stamped"))

abbrev pub decreases-loop-left : goal.decreases-loop-left
decreases-loop-left l = l.left
