use Rattle.std.proofs.Common.{take}
use Rattle.values.specs.Added.{Puts}
use Rattle.values.proofs.buffers.Buffer.put_str.Given as goal

abbrev pub invariant-loop-byte : goal.invariant-loop-byte
invariant-loop-byte l = Puts l.fn.self (take l.byte-index l.fn.words) l.self
