use Rattle.std.proofs.Common.{◌≡◌, ◌∷◌, [], sym, rules, ◌∙◌}
use Rattle.std.specs.Option.{option_map_or}
use Rattle.std.specs.List.{slice_split}
use Rattle.script.specs.Numbers.{is_slash}
use Rattle.script.proofs.Cutting.{too_many}
use Rattle.script.proofs.numbers.figure.Goals as goal

pub returns-then-is_some : goal.returns-then-is_some
returns-then-is_some c =
    let parts : slice_split is_slash c.args.word.now ≡ c.cut.result.0.now ∷ c.cut-2.result.0.now ∷ c.cut-3.result.0.now ∷ c.cut-4.result.0.now ∷ option_map_or (λ text. slice_split is_slash text.now) c.cut-4.result.1 [] = search rules in
    sym (too_many c.cut-4.result.1 _ _ _ _ _ parts (sym c.is_some.ensures ∙ c.if-is_some.true))
