-- How additions to the text of a buffer follow on each other.
use Rattle.std.proofs.Common.{◌≡◌, ℕ, zero, suc, ◌+◌, ◌-◌, List, [], ◌∷◌, ◌++◌, length, take, drop, sym, refl, ap, ◌∙◌, subst, append_assoc, arith, drop-drop}
use Rattle.values.specs.declared.buffers.Buffer.{Buffer}
use Rattle.values.specs.Added.{Added, Puts}

-- what was cut once may be cut again
take_again : (n : ℕ) (u v : List ℕ) → take n (take n u ++ v) ≡ take n (u ++ v)
take_again zero u v = refl
take_again (suc n) [] v = refl
take_again (suc n) (x ∷ u) v = ap {B = List ℕ} (λ r. x ∷ r) (take_again n u v)

-- one addition after another
pub chain : {a b c : Buffer} {x y : List ℕ} → Added a x b → Added b y c → Added a (x ++ y) c
chain {a} {b} {c} {x} {y} p q = record {
  room = q.room ∙ p.room;
  text = q.text
      ∙ ap (λ n. take n (take b.len b.room.now ++ y)) p.room
      ∙ ap (λ w. take (length a.room.now) (w ++ y)) p.text
      ∙ take_again (length a.room.now) (take a.len a.room.now ++ x) y
      ∙ ap (take (length a.room.now)) (append_assoc (take a.len a.room.now) x y);
  rest = q.rest ∙ further;
  grows = omega (arith, p.grows, q.grows);
}
  where
    further : drop c.len b.room.now ≡ drop c.len a.room.now
    further =
        let e : b.len + (c.len - b.len) ≡ c.len = omega (arith, q.grows) in
        subst (λ n. drop n b.room.now ≡ drop n a.room.now) e (sym (drop-drop (c.len - b.len) b.len b.room.now) ∙ ap (drop (c.len - b.len)) p.rest ∙ drop-drop (c.len - b.len) b.len a.room.now)

-- one function that writes after another
pub puts_chain : {a b c : Buffer} {x y z : List ℕ} → x ++ y ≡ z → Puts a x b → Puts b y c → Puts a z c
puts_chain {a} {b} {c} e p q = record { named = q.named ∙ p.named; added = subst (λ w. Added a w c) e (chain p.added q.added) }
