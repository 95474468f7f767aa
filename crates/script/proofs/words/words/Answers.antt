use Rattle.std.proofs.Common.{◌≡◌, false, rules, tests, ap, ◌∙◌, filter}
use Rattle.std.specs.List.{slice_split}
use Rattle.std.specs.Slice.Iter.{split_rest, split_done, split_callee}
use Rattle.std.specs.Iterator.Adapters.{filter_source}
use Rattle.std.proofs.lemmas.Iterator.Consumers.{map_from_collect, YieldsList-from_filter}
use Rattle.std.proofs.lemmas.Iterator.Splits.{YieldsList-from_slice_split}
use Rattle.std.proofs.lemmas.Result.{IfOk-weaker}
use Rattle.script.specs.Words.{is_blank, is_some_text}
use Rattle.script.proofs.words.words.Goals as goal

pub returns : goal.returns
returns c =
    let pieces = filter_source c.filter.result in
    let rest : split_rest pieces ≡ c.cut.result.0.now = cc in
    let done : split_done pieces ≡ false = cc in
    let callee : split_callee pieces ≡ split_callee c.split.result = cc in
    let found = map_from_collect c.collect.result c.collect.ensures.ran (YieldsList-from_filter _ is_some_text (YieldsList-from_slice_split _ is_blank _ rest done (callee ∙ c.split.ensures.closure) (λ x r q k. search (rules, tests))) c.filter.ensures.closure (λ x r q k. search (rules, tests))) in
    IfOk-weaker c.collect.result _ _ (λ v e. e ∙ ap (λ said. filter is_some_text (slice_split is_blank said)) c.cut.ensures.before) found
