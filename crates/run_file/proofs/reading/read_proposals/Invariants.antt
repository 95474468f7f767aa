use Rattle.std.proofs.Common.{◌≡◌, ◌≤◌, ◌+◌, ◌++◌, map, take, length}
use Rattle.values.specs.Rules.{means, numbers}
use Rattle.run_file.specs.Files.{proposals_refusal}
use Rattle.run_file.specs.InCode.{pieces_of}
use Rattle.run_file.proofs.reading.read_proposals.Given as goal

abbrev pub invariant-loop-bytes : goal.invariant-loop-bytes
invariant-loop-bytes g l =
    (l.controller + l.rest.count ≡ l.fn.proposals.count)
    × (length l.rows ≡ 16)
    × (proposals_refusal g.K.Kind.rules (pieces_of l.rest) ≡ proposals_refusal g.K.Kind.rules (pieces_of l.fn.proposals))
    × (l.controller ≤ 16 → map (means g.K.Kind.rules g.K.Kind.plain) (take l.controller l.rows) ++ map numbers (pieces_of l.rest) ≡ map numbers (pieces_of l.fn.proposals))

abbrev pub decreases-loop-bytes : goal.decreases-loop-bytes
decreases-loop-bytes g l = l.rest.count
