use Rattle.std.proofs.Common.{◌≡◌, ◌++◌, length, map, decimal, codes, string_bytes, ◌==◌}
use Rattle.std.specs.List.{join_with_byte}
use Rattle.script.specs.Written.{members_below}
use Rattle.script.proofs.writing.put_set.Given as goal

abbrev pub invariant-loop-controller : goal.invariant-loop-controller
invariant-loop-controller l = (l.first ≡ (length (members_below l.controller l.set.0) == 0)) × (string_bytes l.out ≡ string_bytes l.fn.out ++ (codes "{" ++ join_with_byte 44 (map decimal (members_below l.controller l.set.0))))
