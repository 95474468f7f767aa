use Rattle.std.proofs.Common.{◌≡◌, ◌+◌, drop, Ok}
use Rattle.script.specs.Words.{texts}
use Rattle.script.specs.Lines.{◌and_then◌, stamps_in}
use Rattle.script.proofs.reading.stamps.Given as goal

abbrev pub invariant-loop-word : goal.invariant-loop-word
invariant-loop-word l = stamps_in (texts l.words) ≡ (stamps_in (texts (drop l.word-index l.words)) and_then λ layers. Ok (layers + l.word-index))
