use Rattle.std.proofs.Common.{◌≡◌, ◌++◌, map, drop}
use Rattle.script.specs.Scripts.{calls_in, call_flaws}
use Rattle.script.specs.InCode.{said_line, call_of_line}
use Rattle.script.proofs.scripts.read_lines.Given as goal

abbrev pub invariant-loop-number : goal.invariant-loop-number
invariant-loop-number l =
    let left = map said_line (drop l.number-index l.said) in
    record {
      calls : map call_of_line l.lines.items ++ calls_in l.kind left ≡ calls_in l.kind (map said_line l.said);
      flaws : l.flaws.items ++ call_flaws l.kind left ≡ call_flaws l.kind (map said_line l.said);
    }
