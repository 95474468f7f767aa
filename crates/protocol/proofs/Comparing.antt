-- What a round of the run makes and sends, in the publications' terms.
use Rattle.std.proofs.Common.{◌≡◌, ℕ, suc, ◌+◌, ◌<◌, ◌≤◌, List, Some, None, inl, inr, refl, ap, ◌∙◌, arith}
use Rattle.std.specs.Option.{unwrap_or}
use Rattle.values.specs.Cells.{Held}
use Rattle.models.specs.declared.classes.Class.{Class}
use Rattle.models.specs.declared.classes.Class.TheVariants.{Honest, Silent, Uniform, Free}
use Rattle.models.specs.declared.classes.Counts.{Counts}
use Rattle.protocol.specs.Stages.{stage_of}
use Rattle.protocol.specs.Rounds.{told, sends, chosen, held_by, settled}
use Rattle.protocol.specs.Machine.{Setting, Block, Seating}
use Rattle.protocol.specs.Publications.{#, IfAny, IfAnyElse, SendValue, SendTuple}
use Rattle.protocol.specs.Compared.{sending, hearing}
use Rattle.protocol.proofs.Choosing.{Qualifies, chosen_qualifies, none_qualifies, cells_part}

-- a condition that says the same as a choice's bounds says of what is chosen what the publications say
pub if_chosen : (P : List ℕ → Type 0) (least most n : ℕ) (cells : ℕ → Held) → 1 ≤ least
    → ((w : List ℕ) → Qualifies least most cells n w → P w) → ((w : List ℕ) → P w → Qualifies least most cells n w) → IfAny P (chosen least most cells n)
if_chosen P least most n cells pos to back = go (chosen least most cells n) refl
  where
    go : (c : Held) → chosen least most cells n ≡ c → IfAny P c
    go None e = λ w p. none_qualifies least most cells n pos e w (back w p)
    go (Some w) e = to w (chosen_qualifies least most cells n w e)

-- "at least k times"
pub at_least : (k n : ℕ) (cells : ℕ → Held) → 1 ≤ k → IfAny (λ w. k ≤ # n w cells) (held_by k cells n)
at_least k n cells pos =
    if_chosen (λ w. k ≤ # n w cells) k n n cells pos (λ w q. q.0) (λ w m. (m, omega (arith, cells_part cells n w)))

-- "> k times"
pub more_than : (k n : ℕ) (cells : ℕ → Held) → IfAny (λ w. k < # n w cells) (held_by (suc k) cells n)
more_than k n cells = at_least (suc k) n cells (omega arith)

-- a value where one qualifies, and another where none does
or_else : (P Q : List ℕ → Type 0) (c : Held) (other : List ℕ) → IfAny P c → Q other → IfAnyElse P Q (unwrap_or c other)
or_else P Q None other none q = inr (none, q)
or_else P Q (Some w) other p q = inl p

pub settled_is : (n : ℕ) (most : Counts) (fallback : List ℕ) (cand row : ℕ → Held)
    → IfAnyElse (λ w. most.l + most.e < # n w cand) (IfAnyElse (λ w. most.l < # n w row) (λ w. w ≡ fallback)) (settled n most fallback cand row)
settled_is n most fallback cand row =
    or_else _ (IfAnyElse (λ w. most.l < # n w row) (λ w. w ≡ fallback)) (held_by (suc (most.l + most.e)) cand n) _ (more_than (most.l + most.e) n cand)
    (or_else _ (λ w. w ≡ fallback) (held_by (suc most.l) row n) fallback (more_than most.l n row) refl)

-- what is heard from a sender of a class, by any receiver, is what such a process sends
heard_from : (c : Class) (n : ℕ) (X own : ℕ → Held) (forged : ℕ → ℕ → Held) → ((k : ℕ) → k < n → own k ≡ X k)
    → SendTuple (sending c) n X (λ receiver k. told c (own k) (forged 0 k) (forged receiver k))
unfolding told
heard_from Honest n X own forged e = λ receiver k lt. e k lt
heard_from Silent n X own forged e = λ receiver k lt. refl
heard_from Uniform n X own forged e = λ receiver k lt. refl
heard_from Free n X own forged e = tt

module _ (x : Setting) (b : Block) (s : Seating) (i : ℕ) where
  -- what the others hear from a controller is what a process like it sends
  pub sends_tuple : (n : ℕ) (X : ℕ → Held) → ((k : ℕ) → k < n → sends (stage_of b.n b.round) (b.memory i) k ≡ X k)
      → SendTuple (sending (s.class i)) n X (λ receiver. hearing x b s receiver i)
  sends_tuple n X e = heard_from (s.class i) n X (sends (stage_of b.n b.round) (b.memory i)) (s.forged i) e

  pub sends_value : (w : Held) → sends (stage_of b.n b.round) (b.memory i) 0 ≡ w → SendValue (sending (s.class i)) w (λ receiver. hearing x b s receiver i)
  sends_value w e = sends_tuple 1 (λ _. w) (λ k lt. let zero_is : k ≡ 0 = omega arith in ap (λ (j : ℕ). sends (stage_of b.n b.round) (b.memory i) j) zero_is ∙ e)
