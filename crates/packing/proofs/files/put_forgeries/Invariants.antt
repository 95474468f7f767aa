use Rattle.std.proofs.Common.{◌≡◌, ◌++◌, map, drop}
use Rattle.std.specs.List.{flat_map}
use Rattle.packing.specs.Bytes.{line_bytes}
use Rattle.packing.specs.InCode.{forged_by}
use Rattle.packing.proofs.files.put_forgeries.Given as goal

abbrev pub invariant-loop-forgery : goal.invariant-loop-forgery
invariant-loop-forgery l = l.out.items ++ flat_map (line_bytes l.kind) (map forged_by (drop l.forgery-index l.forgeries)) ≡ l.fn.out.items ++ flat_map (line_bytes l.kind) (map forged_by l.forgeries)
