use Rattle.std.proofs.Common.{◌≡◌}
use Rattle.run_file.specs.Lines.{lines_refusal}
use Rattle.run_file.specs.InCode.{lines_in}
use Rattle.run_file.proofs.reading.check_lines.Given as goal

abbrev pub invariant-loop-bytes : goal.invariant-loop-bytes
invariant-loop-bytes g l =
    (l.rest.width ≡ l.fn.lines.width)
    × (lines_refusal g.K.Kind.rules l.fn.rounds l.last (lines_in l.rest) ≡ lines_refusal g.K.Kind.rules l.fn.rounds 0 (lines_in l.fn.lines))

abbrev pub decreases-loop-bytes : goal.decreases-loop-bytes
decreases-loop-bytes g l = l.rest.count
