use Rattle.std.proofs.Common.{◌≡◌, ◌++◌, map, drop}
use Rattle.std.specs.List.{flat_map}
use Rattle.script.specs.Figures.{numbers_of}
use Rattle.packing.specs.Bytes.{value_bytes}
use Rattle.packing.proofs.files.put_proposals.Given as goal

abbrev pub invariant-loop-proposal : goal.invariant-loop-proposal
invariant-loop-proposal l = l.out.items ++ flat_map value_bytes (map numbers_of (drop l.proposal-index l.proposals)) ≡ l.fn.out.items ++ flat_map value_bytes (map numbers_of l.proposals)
