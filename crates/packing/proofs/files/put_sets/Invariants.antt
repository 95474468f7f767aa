use Rattle.std.proofs.Common.{◌≡◌, ◌++◌, map, drop}
use Rattle.packing.specs.Bytes.{value_bytes}
use Rattle.packing.proofs.files.put_sets.Given as goal

abbrev pub invariant-loop-set : goal.invariant-loop-set
invariant-loop-set l = l.out.items ++ value_bytes (map (λ set. set.0) (drop l.set-index l.sets)) ≡ l.initial.out.items ++ value_bytes (map (λ set. set.0) l.sets)
