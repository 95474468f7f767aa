-- The forged cells after a seat and after a forge.
use Rattle.std.proofs.Common.{◌≡◌, ℕ, ◌+◌, ◌*◌, ◌/◌, ◌%◌, ◌<◌, Bool, true, false, cond, nat_eq, nat_lt, ◌&&◌, arith, refl, sym, ap, ◌∙◌, List, None, Option, length, set, replicate}
use Rattle.std.proofs.lemmas.Bool.Decides.{nat_tests}
use Rattle.std.proofs.lemmas.Nat.{mul-add-lt, div-mul-add, mod-mul-add}
use Rattle.std.proofs.Math.Path.{fun_ext}
use Rattle.values.specs.Rules.{Rules}
use Rattle.values.specs.Cells.{shows, seen}
use Rattle.run.specs.Stores.{Store}
use Rattle.run.specs.Views.{forged_in}
use Rattle.run.proofs.Filling.{seen_empty, seen_written, seen_elsewhere}
use Rattle.run.proofs.Renewing.{either_none}

module _ {R : Type 0} (k : Rules) (plain : R → List ℕ) (n : ℕ) (s : Store R) where
  pub none_forged : (m : ℕ) → s.forged ≡ replicate m None → forged_in k plain n s ≡ (λ _ _ _. None)
  none_forged m e =
      fun_ext (λ j. fun_ext (λ i. fun_ext (λ column. either_none (nat_lt j n && nat_lt i n && nat_lt column n) (ap (λ cells. seen k plain cells ((j * n + i) * n + column)) e ∙ seen_empty k plain m ((j * n + i) * n + column)))))

  module _ (size : length s.forged ≡ n * n * n) (sender receiver column : ℕ) (cell : Option R) (sender_in : sender < n) (receiver_in : receiver < n) (column_in : column < n) where
    abbrev place : ℕ → ℕ → ℕ → ℕ
    place j i c = (j * n + i) * n + c

    in_forged : (j i c : ℕ) → j < n → i < n → c < n → place j i c < n * n * n
    in_forged j i c j_in i_in c_in = omega (arith, mul-add-lt (j * n + i) n c (n * n) (mul-add-lt j n i n j_in i_in) c_in)

    differ : {j i c : ℕ} → j ≡ sender → i ≡ receiver → c ≡ column → ¬ ((nat_eq j sender && nat_eq i receiver && nat_eq c column) ≡ false)
    differ j_is i_is c_is e = absurd (grind (arith, nat_tests))

    -- two places are one only if they are of one message's column
    apart : (j i c : ℕ) → i < n → c < n → place j i c ≡ place sender receiver column → (j ≡ sender) × (i ≡ receiver) × (c ≡ column)
    apart j i c i_in c_in e =
        let pair : j * n + i ≡ sender * n + receiver = sym (div-mul-add (j * n + i) n c c_in) ∙ ap (λ p. p / n) e ∙ div-mul-add (sender * n + receiver) n column column_in in (
          sym (div-mul-add j n i i_in) ∙ ap (λ p. p / n) pair ∙ div-mul-add sender n receiver receiver_in,
          sym (mod-mul-add j n i i_in) ∙ ap (λ p. p % n) pair ∙ mod-mul-add sender n receiver receiver_in,
          sym (mod-mul-add (j * n + i) n c c_in) ∙ ap (λ p. p % n) e ∙ mod-mul-add (sender * n + receiver) n column column_in,
        )

    abbrev written : Store R
    written = record s { forged = set s.forged (place sender receiver column) cell }

    pub one_forged : forged_in k plain n written ≡ (λ j i c. cond (nat_eq j sender && nat_eq i receiver && nat_eq c column) (shows k plain cell) (forged_in k plain n s j i c))
    one_forged = fun_ext (λ j. fun_ext (λ i. fun_ext (at j i)))
      where
        at : (j i c : ℕ) → forged_in k plain n written j i c ≡ cond (nat_eq j sender && nat_eq i receiver && nat_eq c column) (shows k plain cell) (forged_in k plain n s j i c)
        at j i c = go (nat_eq j sender && nat_eq i receiver && nat_eq c column) refl
          where
            Goal : Type 0
            Goal = forged_in k plain n written j i c ≡ cond (nat_eq j sender && nat_eq i receiver && nat_eq c column) (shows k plain cell) (forged_in k plain n s j i c)

            elsewhere : (b : Bool) → (nat_lt j n && nat_lt i n && nat_lt c n) ≡ b → (nat_eq j sender && nat_eq i receiver && nat_eq c column) ≡ false → Goal
            elsewhere true inside e =
                let i_in : i < n = grind (arith, nat_tests) in
                let c_in : c < n = grind (arith, nat_tests) in
                let other : ¬ (place j i c ≡ place sender receiver column) = λ same. let a = apart j i c i_in c_in same in absurd (differ a.0 a.1 a.2 e) in
                let stays = seen_elsewhere k plain s.forged (place sender receiver column) (place j i c) cell other in
                grind (arith, nat_tests)
            elsewhere false outside e = grind (arith, nat_tests)

            go : (b : Bool) → (nat_eq j sender && nat_eq i receiver && nat_eq c column) ≡ b → Goal
            go true e =
                let j_is : j ≡ sender = grind (arith, nat_tests) in
                let i_is : i ≡ receiver = grind (arith, nat_tests) in
                let c_is : c ≡ column = grind (arith, nat_tests) in
                let put = seen_written k plain s.forged (place sender receiver column) cell (omega (arith, size, in_forged sender receiver column sender_in receiver_in column_in)) in
                let here : place j i c ≡ place sender receiver column = rw (j_is, i_is, c_is) refl in
                let at = ap (seen k plain written.forged) here ∙ put in
                grind (arith, nat_tests)
            go false e = elsewhere (nat_lt j n && nat_lt i n && nat_lt c n) refl e
