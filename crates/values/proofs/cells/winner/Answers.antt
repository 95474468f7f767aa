use Rattle.std.proofs.Common.{rules, tests, ◌≡◌, length, None, sym, ap}
use Rattle.std.specs.Prelude.{position}
use Rattle.std.proofs.lemmas.Iterator.{YieldsList-from_slice}
use Rattle.std.proofs.lemmas.Iterator.Search.{position_from_yields_List}
use Rattle.values.specs.Cells.{shows, seen, passes, qualifies, qualifying}
use Rattle.values.proofs.Counts.{lowest_only, position_is}
use Rattle.values.proofs.Seen.{seen_is}
use Rattle.values.proofs.cells.winner.Goals as goal

pub returns : goal.returns
returns g c =
    let cells = c.args.cells.now in
    let held = seen g.K.Kind.rules g.K.Kind.plain cells in
    let q = passes (qualifies c.args.quorum.at_least c.args.quorum.otherwise_at_most held (length cells)) in
    let found : c.position.result ≡ position (λ cell. q (shows g.K.Kind.rules g.K.Kind.plain cell)) cells = position_from_yields_List _ _ _ c.position.result c.position.ensures.ran (YieldsList-from_slice cells cc) (λ x b f k. search (rules, tests)) in
    let p = qualifying c.args.quorum.at_least c.args.quorum.otherwise_at_most held (length cells) in
    let law = position_is (λ cell. q (shows g.K.Kind.rules g.K.Kind.plain cell)) None cells p (λ i. ap q (seen_is g.K.Kind.rules g.K.Kind.plain cells i)) c.position.result found in
    let first = sym (lowest_only p (length cells) c.position.result law) in
    -- By search: it judges the result, where a term would only fit this body.
    record { value = search rules; law = search rules }
