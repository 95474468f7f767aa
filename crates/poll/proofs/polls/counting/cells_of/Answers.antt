use Rattle.std.proofs.Common.{rules, sym, ◌∙◌}
use Rattle.std.specs.Result.{result_ok}
use Rattle.std.proofs.lemmas.Iterator.{YieldsList-from_slice, YieldsList-from_map_by}
use Rattle.std.proofs.lemmas.Iterator.Consumers.{map_from_collect}
use Rattle.std.proofs.lemmas.Result.{IfOk-weaker}
use Rattle.std.proofs.lemmas.Simd.{map-map}
use Rattle.values.specs.Rules.{meant}
use Rattle.values.specs.Setpoints.{tenths_of}
use Rattle.poll.specs.Polls.{shown}
use Rattle.poll.proofs.polls.counting.cells_of.Goals as goal

pub returns : goal.returns
returns c =
    let ps = c.args.proposals.now in
    let seen = map_from_collect c.collect.result c.collect.ensures.ran (YieldsList-from_map_by _ shown (λ p. result_ok (meant tenths_of p)) (YieldsList-from_slice ps cc) c.map.ensures.closure (λ x r q k. search rules)) in
    IfOk-weaker c.collect.result _ _ (λ v e. e ∙ sym (map-map result_ok (meant tenths_of) ps)) seen
