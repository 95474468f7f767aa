use Rattle.std.proofs.Common.{◌≡◌, map, arith}
use Rattle.std.proofs.lemmas.Grind.{common_steps}
use Rattle.script.specs.Scripts.{calls_in}
use Rattle.script.specs.InCode.{said_line, call_of_line}
use Rattle.script.proofs.Judging.{kept_known}
use Rattle.script.proofs.scripts.read_lines.Goals as goal

pub returns-clause-kept : goal.returns-clause-kept
returns-clause-kept c =
    let calls : map call_of_line c.loop-number.lines.items ≡ calls_in c.args.kind (map said_line c.args.said.now) = grind (arith, common_steps) in
    kept_known c.args.kind (map said_line c.args.said.now) c.loop-number.lines.items calls
