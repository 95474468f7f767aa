use Rattle.std.proofs.Common.{rules, arith, ◌≤◌, ◌<◌, ◌^◌, refl, ap, ◌++◌, ◌∷◌, [], ◌∙◌, length, decimal}
use Rattle.std.proofs.lemmas.List.{length-append}
use Rattle.std.proofs.lemmas.Fmt.{length-decimal-le}
use Rattle.values.specs.Refusals.{number_of}
use Rattle.values.proofs.Adding.{puts_chain}
use Rattle.run_file.specs.Texts.{round_words}
use Rattle.run_file.proofs.texts.write_refused_line.Goals as goal

pub returns-clause-words : goal.returns-clause-words
returns-clause-words c =
    let number = c.into.ensures ∙ c.from.ensures in
    let rest = round_words c.args.stop.now.round in
    puts_chain refl (puts_chain refl c.put_str.ensures (puts_chain (ap (λ n. decimal n ++ rest) number) c.put_decimal.ensures c.write_round.ensures.words)) c.put_byte.ensures

pub returns-clause-short : goal.returns-clause-short
returns-clause-short c =
    let n = number_of c.args.stop.now.refusal in
    let fits : n < 2 ^ 16 = search (rules, c.into.ensures, c.from.ensures) in
    let digits : length (decimal n) ≤ 5 = length-decimal-le 5 n (omega arith) (omega (arith, fits)) (omega (arith, fits)) in
    let rest = round_words c.args.stop.now.round in
    omega (arith, digits, c.write_round.ensures.short, length-append (decimal n) rest, length-append (decimal n ++ rest) (10 ∷ []))
