use Rattle.std.proofs.Common.{◌≡◌, suc, ◌++◌, map, drop}
use Rattle.script.specs.Words.{texts}
use Rattle.script.specs.Scripts.{said_from}
use Rattle.script.specs.InCode.{said_line}
use Rattle.script.proofs.scripts.said_lines.Given as goal

abbrev pub invariant-loop-index : goal.invariant-loop-index
invariant-loop-index l = map said_line l.found.items ++ said_from (suc l.index) (texts (drop l.index l.lines)) ≡ said_from 1 (texts l.lines)
