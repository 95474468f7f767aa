use Rattle.std.proofs.Common.{◌≡◌, ◌++◌, map, drop, string_bytes}
use Rattle.script.specs.Figures.{numbers_of}
use Rattle.script.specs.Written.{written_figure, behind_blanks}
use Rattle.script.proofs.writing.put_figures.Given as goal

abbrev pub invariant-loop-figure : goal.invariant-loop-figure
invariant-loop-figure l = string_bytes l.out ++ behind_blanks (map written_figure (map numbers_of (drop l.figure-index l.figures))) ≡ string_bytes l.fn.out ++ behind_blanks (map written_figure (map numbers_of l.figures))
