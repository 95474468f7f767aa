use Rattle.std.proofs.Common.{◌∷◌, ◌+◌, sym, ap, ◌∙◌, eqb, arith, length, take}
use Rattle.std.specs.List.{slice_split}
use Rattle.std.proofs.lemmas.Slice.{between_to_end}
use Rattle.script.proofs.Cutting.{cut_at}
use Rattle.script.proofs.words.cut.Goals as goal

pub returns-in-Some-clause-before : goal.returns-in-Some-clause-before
returns-in-Some-clause-before c = (cut_at _ _ _ (sym c.place_of.ensures ∙ c.in-Some.is)).0

pub returns-in-Some-clause-split : goal.returns-in-Some-clause-split
returns-in-Some-clause-split c =
    let text = c.args.text.now in
    (cut_at _ _ _ (sym c.place_of.ensures ∙ c.in-Some.is)).1
    ∙ ap (λ rest. take c.in-Some.end text ∷ slice_split (λ b. eqb b c.args.at) rest) (sym (between_to_end text (c.in-Some.end + 1) (length text) (omega arith)))

pub returns-in-None-clause-before : goal.returns-in-None-clause-before
returns-in-None-clause-before c = sym (cut_at _ _ _ (sym c.place_of.ensures ∙ c.in-None.is)).0

pub returns-in-None-clause-split : goal.returns-in-None-clause-split
returns-in-None-clause-split c = (cut_at _ _ _ (sym c.place_of.ensures ∙ c.in-None.is)).1
