use Rattle.std.proofs.Common.{rules, ◌≡◌, ◌*◌, length, [], map, get_or, w16, Some, sym, ap, ◌∙◌, arith}
use Rattle.std.specs.Int.{from_le_bytes}
use Rattle.std.specs.Simd.{first_chunks}
use Rattle.std.proofs.lemmas.List.{ext_get_or, get_or-map, length-map}
use Rattle.std.proofs.lemmas.Bool.{cond-true, eq-eqb}
use Rattle.values.proofs.Bytes.{numbers_pairs, made_at}
use Rattle.values.proofs.reading.numbers.Goals as goal

pub returns : goal.returns
returns g c =
    let bytes = c.args.bytes.now in
    let pairs = c.as_chunks.result.0.now in
    let number = from_le_bytes w16 in
    let nil : length c.as_chunks.result.1.now ≡ 0 = search rules in
    let len : length bytes ≡ 2 * g.row.N = omega (arith, c.as_chunks.ensures.front_len, c.as_chunks.ensures.back_len, c.if-pairs.false, nil) in
    let same : c.from_fn.result ≡ map number pairs =
    ext_get_or 0 c.from_fn.result (map number pairs) (c.from_fn.ensures.items.long ∙ sym c.if-pairs.false ∙ sym (length-map pairs number)) (λ i lt.
    made_at _ _ (λ j. number (get_or pairs j [])) (λ j y q e. search rules) c.from_fn.result 0 g.row.N i 0 c.from_fn.ensures.items.each (omega arith) (omega (arith, c.from_fn.ensures.items.long)) ∙ sym (get_or-map number pairs i [] 0 (omega (arith, c.from_fn.ensures.items.long, c.if-pairs.false)))) in
    ap Some (same ∙ ap (map number) c.as_chunks.ensures.front ∙ ap (λ n. map number (first_chunks 2 n bytes)) (sym c.as_chunks.ensures.front_len ∙ c.if-pairs.false) ∙ sym (numbers_pairs g.row.N bytes len)) ∙ sym (cond-true _ _ _ (eq-eqb _ _ len))
