use Rattle.std.proofs.Common.{ℕ, List, ◌∷◌, ◌++◌, map, codes, decimal, string_bytes, sym, ap, ◌∙◌, append_assoc}
use Rattle.std.proofs.lemmas.Result.{IfOk-weaker}
use Rattle.script.specs.declared.figures.Figure.{Figure}
use Rattle.script.specs.Figures.{numbers_of}
use Rattle.script.specs.Statements.{written_call}
use Rattle.script.specs.Written.{written_figure, written_set, behind_blanks, written}
use Rattle.script.proofs.Rereading.{join_is}
use Rattle.script.proofs.writing.Statement+Figure.write.Goals as goal

pub returns-in_ok-push_str-in-Open-clause-text : goal.returns-in_ok-push_str-in-Open-clause-text
returns-in_ok-push_str-in-Open-clause-text c =
    let o = c.in-Open in
    let old = string_bytes c.args.out.now in
    let words : List Figure → List (List ℕ) = λ figures. decimal o.n ∷ decimal o.t ∷ written_set o.initial.0 ∷ map written_figure (map numbers_of figures) in
    let said = words o.proposals.items in
    IfOk-weaker c.put_opening.result _ _ (λ _ e. e
    ∙ (λ i. c.in_ok-push_str-in-Open.ensures.bytes i ++ behind_blanks (words (c.deref.ensures.value i)))
    ∙ append_assoc old (codes "open") (behind_blanks said)
    ∙ ap (λ text. old ++ text) (sym (join_is (codes "open") said))
    ∙ ap (λ s. old ++ written (written_call s)) (sym c.in-Open.is)) c.put_opening.ensures
