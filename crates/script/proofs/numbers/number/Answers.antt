use Rattle.std.proofs.Common.{sym, ◌∙◌, subst}
use Rattle.std.specs.Str.Parse.{ParsesUnsigned}
use Rattle.script.proofs.Numbering.{numeral_utf8, parsed}
use Rattle.script.proofs.numbers.number.Goals as goal

pub unreachable-requires : goal.unreachable-requires
unreachable-requires c = c.in_default.ensures.cases.0 (numeral_utf8 c.args.word.now (sym c.is_numeral.ensures ∙ c.if-not-is_numeral.false))

pub returns : goal.returns
returns c = c.ok.ensures.value ∙ parsed c.args.word.now c.parse.result (sym c.is_numeral.ensures ∙ c.if-not-is_numeral.false) (subst (λ d. ParsesUnsigned 64 10 d c.parse.result) c.in-Ok.ensures.cases.0 c.parse.ensures.value.0)
