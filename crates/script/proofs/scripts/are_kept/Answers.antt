use Rattle.std.proofs.Common.{rules, tests, ap, sym, ◌∙◌}
use Rattle.std.specs.List.{list_all}
use Rattle.std.proofs.lemmas.Iterator.{YieldsList-from_slice}
use Rattle.std.proofs.lemmas.Iterator.Search.{all_from_yields_List}
use Rattle.script.specs.Figures.{numbers_of}
use Rattle.script.specs.Statements.{written_call}
use Rattle.script.specs.Scripts.{rules_of, keeps}
use Rattle.script.proofs.Judging.{all_mapped}
use Rattle.script.proofs.scripts.are_kept.Goals as goal

pub returns-in-Open : goal.returns-in-Open
returns-in-Open c =
    let allowed = (rules_of c.args.kind).allowed in
    all_from_yields_List (λ figure. allowed (numbers_of figure)) _ _ c.all.result c.all.ensures.ran (YieldsList-from_slice c.deref.result.now cc) (λ x b q k. search (rules, tests))
    ∙ ap (list_all (λ figure. allowed (numbers_of figure))) c.deref.ensures.value
    ∙ all_mapped allowed numbers_of c.in-Open.proposals.items
    ∙ ap (λ s. keeps (rules_of c.args.kind) (written_call s)) (sym c.in-Open.is)
