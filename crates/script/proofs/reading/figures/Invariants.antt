use Rattle.std.proofs.Common.{◌≡◌, map, ◌++◌, drop, Ok}
use Rattle.script.specs.Words.{texts}
use Rattle.script.specs.Figures.{numbers_of}
use Rattle.script.specs.Lines.{◌and_then◌, figures_in}
use Rattle.script.proofs.reading.figures.Given as goal

abbrev pub invariant-loop-word : goal.invariant-loop-word
invariant-loop-word l = figures_in (texts l.words) ≡ (figures_in (texts (drop l.word-index l.words)) and_then λ more. Ok (map numbers_of l.found.items ++ more))
