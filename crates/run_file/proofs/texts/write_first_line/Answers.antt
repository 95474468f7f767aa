use Rattle.std.proofs.Common.{ℕ, ◌≡◌, refl, ◌++◌, ◌∷◌, []}
use Rattle.std.specs.Prelude.{codes}
use Rattle.values.specs.Rules.{text}
use Rattle.values.proofs.Adding.{puts_chain}
use Rattle.run_file.proofs.texts.write_first_line.Goals as goal

-- the words of the line from its three numbers
words : (n n' t t' r : ℕ) → n ≡ n' → t ≡ t' → codes "run " ++ text (n ∷ t ∷ r ∷ []) ≡ codes "run " ++ text (n' ∷ t' ∷ r ∷ [])
words n n' t t' r same alike = rw (same, alike) refl

pub returns : goal.returns
returns c =
    let h = c.args.header.now in
    puts_chain refl (puts_chain (words _ h.n _ h.t h.rounds c.into.ensures c.into-2.ensures) c.put_str.ensures c.put_numbers.ensures) c.put_byte.ensures
