use Rattle.std.proofs.Common.{rules}
use Rattle.std.proofs.lemmas.Iterator.{YieldsList-from_slice, YieldsList-from_map_by}
use Rattle.std.proofs.lemmas.Iterator.Consumers.{map_from_collect}
use Rattle.values.specs.Rules.{means, stands}
use Rattle.script.specs.Figures.{numbers_of}
use Rattle.transcript.proofs.rows.proposals.Goals as goal

pub returns : goal.returns
returns g c =
    let k = g.K.Kind.rules in
    map_from_collect c.collect.result c.collect.ensures.ran (YieldsList-from_map_by _ (means k g.K.Kind.plain) (λ figure. stands k (numbers_of figure)) (YieldsList-from_slice c.args.figures.now cc) c.map.ensures.closure (λ x r q e. search rules))
