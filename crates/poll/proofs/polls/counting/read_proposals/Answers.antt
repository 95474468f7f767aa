use Rattle.std.proofs.Common.{rules, ◌≡◌}
use Rattle.std.specs.Iterator.Adapters.{map_source}
use Rattle.std.specs.Slice.Iter.{chunks_rest, chunks_size}
use Rattle.std.proofs.lemmas.Iterator.{YieldsList-from_map_by}
use Rattle.std.proofs.lemmas.Iterator.Consumers.{map_from_collect}
use Rattle.values.specs.Rules.{reads, meant}
use Rattle.values.specs.Setpoints.{setpoint_rules, tenths_of}
use Rattle.poll.proofs.Steps.{pieces_yielded}
use Rattle.poll.proofs.polls.counting.read_proposals.Goals as goal

pub returns : goal.returns
returns c =
    let chunks = map_source c.map.result in
    let rest : chunks_rest chunks ≡ c.args.input.now = cc in
    let size : chunks_size chunks ≡ 2 = cc in
    map_from_collect c.collect.result c.collect.ensures.ran (YieldsList-from_map_by _ (meant tenths_of) (reads setpoint_rules) (pieces_yielded chunks c.args.input.now rest size) c.map.ensures.closure (λ x r q k. search rules))
