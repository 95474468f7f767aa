use Rattle.transcript.specs.Tallies.{Tells}
use Rattle.transcript.proofs.OutcomeSets.{CleanBelow}
use Rattle.protocol.specs.Transcripts.{Transcript}
use Rattle.transcript.proofs.tallies.Tally.clean.Given as goal

abbrev pub invariant-loop-controller : goal.invariant-loop-controller
invariant-loop-controller l = (log : Transcript) → Tells log l.self → CleanBelow log l.clean l.controller
