use Rattle.std.proofs.Common.{rules, ◌≡◌, ◌+◌, ◌<◌, ◌∷◌, ◌++◌, length, get_or, take, decimal, refl, ap, ◌∙◌, arith}
use Rattle.std.proofs.lemmas.Grind.{common_steps}
use Rattle.values.specs.Rules.{text}
use Rattle.values.proofs.Adding.{puts_chain}
use Rattle.values.proofs.Texts.{text_more}
use Rattle.values.proofs.buffers.Buffer.put_numbers.Goals as goal

pub loop-number-preserved : goal.loop-number-preserved
loop-number-preserved c =
    let xs = c.args.numbers.now in
    let i = c.loop-number.number-index in
    let whole : xs ≡ c.in-Some.first.now ∷ c.in-Some.rest.now = search rules in
    let item : get_or c.in-Some.rest.now i 0 ≡ get_or xs (i + 1) 0 = grind (arith, common_steps) in
    let lt : i + 1 < length xs = grind (arith, common_steps) in
    puts_chain (ap (λ n. text (take (i + 1) xs) ++ (32 ∷ decimal n)) item ∙ text_more xs (i + 1) (omega arith) lt) c.loop-number.invariant (puts_chain refl c.put_byte.ensures c.put_decimal-in-loop-number.ensures)
