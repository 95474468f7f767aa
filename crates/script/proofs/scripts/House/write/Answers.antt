use Rattle.std.proofs.Common.{◌≡◌, ℕ, List, [], ◌∷◌, ◌++◌, codes, replicate, string_bytes, sym, ap, ◌∙◌, append_assoc}
use Rattle.std.proofs.lemmas.Result.{IfOk-weaker}
use Rattle.script.specs.Written.{kind_word, model_word, behind_blanks}
use Rattle.script.proofs.Rereading.{join_is}
use Rattle.script.proofs.scripts.House.write.Goals as goal

-- four texts that are added one after another
added : (old a b c d s t u v : List ℕ) → s ≡ old ++ a → t ≡ s ++ b → u ≡ t ++ c → v ≡ u ++ d → v ≡ old ++ (a ++ (b ++ (c ++ d)))
added old a b c d s t u v e f g h = h ∙ ap (λ x. x ++ d) (g ∙ ap (λ x. x ++ c) (f ∙ ap (λ x. x ++ b) e))
    ∙ append_assoc ((old ++ a) ++ b) c d ∙ append_assoc (old ++ a) b (c ++ d) ∙ append_assoc old a (b ++ (c ++ d))

pub returns-clause-text : goal.returns-clause-text
returns-clause-text c =
    let h = c.args.self.now in
    let stamps = replicate h.stamps (codes "stamped") in
    IfOk-weaker c.put_stamps.result _ _ (λ _ e.
    added (string_bytes c.args.out.now) (kind_word h.kind) (32 ∷ []) (model_word h.base) (behind_blanks stamps) _ _ _ _
    (c.in_ok-push_str.ensures.bytes ∙ ap (λ name. string_bytes c.args.out.now ++ name) c.kind_name.ensures)
    c.in_ok-push_str-2.ensures.bytes
    (c.in_ok-push_str-3.ensures.bytes ∙ ap (λ name. string_bytes c.push_str-2.new.self ++ name) c.model_name.ensures)
    e
    ∙ ap (λ text. string_bytes c.args.out.now ++ (kind_word h.kind ++ (32 ∷ text))) (sym (join_is (model_word h.base) stamps))) c.put_stamps.ensures
