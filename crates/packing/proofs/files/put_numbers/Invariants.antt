use Rattle.std.proofs.Common.{◌≡◌, ◌++◌, drop}
use Rattle.packing.specs.Bytes.{value_bytes}
use Rattle.packing.proofs.files.put_numbers.Given as goal

abbrev pub invariant-loop-number : goal.invariant-loop-number
invariant-loop-number l = l.out.items ++ value_bytes (drop l.number-index l.numbers) ≡ l.fn.out.items ++ value_bytes l.numbers
