use Rattle.std.proofs.Common.{rules}
use Rattle.std.proofs.lemmas.Iterator.{YieldsList-from_slice, YieldsList-from_map_by}
use Rattle.std.proofs.lemmas.Iterator.Consumers.{map_from_collect}
use Rattle.run.specs.Calls.{said}
use Rattle.script.specs.Statements.{replied}
use Rattle.transcript.proofs.performing.all_in_figures.Goals as goal

pub returns : goal.returns
returns g c = map_from_collect c.collect.result c.collect.ensures.ran (YieldsList-from_map_by _ replied (said g.K.Kind.rules g.K.Kind.plain) (YieldsList-from_slice c.args.answers.now cc) c.map.ensures.closure (λ x r q e. search rules))
