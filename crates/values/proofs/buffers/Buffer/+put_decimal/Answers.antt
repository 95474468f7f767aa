use Rattle.std.proofs.Common.{◌≡◌, ◌+◌, ◌%◌, [], ◌∷◌, decimal, sym, ap, ◌∙◌, subst, arith}
use Rattle.std.proofs.lemmas.Fmt.{decimal_digit, decimal_step}
use Rattle.values.specs.Added.{Puts}
use Rattle.values.proofs.Adding.{puts_chain}
use Rattle.values.proofs.buffers.Buffer.+put_decimal.Goals as goal
use Rattle.values.proofs.buffers.Buffer.+put_decimal.Goals.{then-number-ge10, else-number-ge10}

pub returns : goal.returns
returns t c =
    let n = c.args.number in
    elim c.if-number-ge10.branch [
      | then-number-ge10 w ↦ puts_chain (sym (decimal_step n (omega arith) (omega arith))) w.put_decimal.ensures (subst (λ b. Puts b ((48 + n % 10) ∷ []) c.put_byte.new.self) w.self-is c.put_byte.ensures)
      | else-number-ge10 w ↦
          let digit : 48 + n % 10 ≡ 48 + n = omega arith in
          let text : (48 + n % 10) ∷ [] ≡ decimal n = ap (λ d. d ∷ []) digit ∙ sym (decimal_digit n (omega arith)) in
          subst (λ bs. Puts c.args.self.now bs c.put_byte.new.self) text (subst (λ b. Puts b ((48 + n % 10) ∷ []) c.put_byte.new.self) w.self-is c.put_byte.ensures)
    ]
