use Rattle.std.proofs.Common.{rules}
use Rattle.std.proofs.lemmas.Iterator.{YieldsList-from_slice, YieldsList-from_map_by}
use Rattle.std.proofs.lemmas.Iterator.Consumers.{map_from_collect}
use Rattle.values.specs.Rules.{means}
use Rattle.run.specs.Calls.{asked}
use Rattle.script.specs.Statements.{call_by}
use Rattle.transcript.proofs.performing.calls.Goals as goal

pub returns : goal.returns
returns g c =
    let k = g.K.Kind.rules in
    let plain = g.K.Kind.plain in
    map_from_collect c.collect.result c.collect.ensures.ran (YieldsList-from_map_by _ (asked k plain) (call_by (means k plain)) (YieldsList-from_slice c.args.statements.now cc) c.map.ensures.closure (λ x r q e. search rules))
