use Rattle.std.proofs.Common.{rules, arith, ◌≤◌, ◌<◌, ◌^◌, ap, sym, subst, Some, length, decimal}
use Rattle.std.proofs.lemmas.Fmt.{length-decimal-le}
use Rattle.values.proofs.Adding.{puts_chain}
use Rattle.run_file.specs.Texts.{round_words}
use Rattle.run_file.proofs.texts.write_round.Goals as goal

pub returns-in-Some-clause-words : goal.returns-in-Some-clause-words
returns-in-Some-clause-words c = puts_chain (ap round_words (sym c.in-Some.is)) c.put_str.ensures c.put_decimal.ensures

pub returns-in-Some-clause-short : goal.returns-in-Some-clause-short
returns-in-Some-clause-short c =
    let r = c.in-Some.round in
    let fits : r < 2 ^ 16 = search rules in
    let digits : length (decimal r) ≤ 5 = length-decimal-le 5 r (omega arith) (omega (arith, fits)) (omega (arith, fits)) in
    let short : length (round_words (Some r)) ≤ 12 = omega (arith, digits) in
    subst (λ round. length (round_words round) ≤ 12) (sym c.in-Some.is) short
