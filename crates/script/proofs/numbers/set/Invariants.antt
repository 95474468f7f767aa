use Rattle.std.proofs.Common.{◌≡◌, suc, [], length, fold}
use Rattle.std.specs.Option.{option_map, option_map_or}
use Rattle.std.specs.List.{slice_split}
use Rattle.models.specs.declared.sets.TheConstants.{MOST_CONTROLLERS}
use Rattle.script.specs.Numbers.{is_comma, numbers_below, with_member, set_of}
use Rattle.script.proofs.numbers.set.Given as goal

abbrev pub invariant-loop-rest : goal.invariant-loop-rest
invariant-loop-rest l = set_of l.word ≡ option_map (λ more. fold with_member l.members more) (numbers_below MOST_CONTROLLERS (option_map_or (λ text. slice_split is_comma text.now) l.rest []))

abbrev pub decreases-loop-rest : goal.decreases-loop-rest
decreases-loop-rest l = option_map_or (λ text. suc (length text.now)) l.rest 0
