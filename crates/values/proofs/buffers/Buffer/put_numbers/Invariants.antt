use Rattle.std.proofs.Common.{◌+◌, take}
use Rattle.values.specs.Added.{Puts}
use Rattle.values.specs.Rules.{text}
use Rattle.values.proofs.buffers.Buffer.put_numbers.Given as goal

abbrev pub invariant-loop-number : goal.invariant-loop-number
invariant-loop-number l = Puts l.fn.self (text (take (l.number-index + 1) l.fn.numbers)) l.self
