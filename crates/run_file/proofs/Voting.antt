-- Calls on a run, one after another.
use Rattle.std.proofs.Common.{◌≡◌, ◌<◌, ℕ, suc, arith, refl, ap, subst, ◌∙◌, append_assoc, true, eqb, List, [], ◌∷◌, ◌++◌, map, drop, Option, Result, inl, inr, ◌⊎◌, Ok, Err}
use Rattle.std.specs.Prelude.{⊤}
use Rattle.std.proofs.lemmas.Bool.Decides.{nat_tests}
use Rattle.values.specs.declared.kinds.Kind.{Ghosts}
use Rattle.values.specs.declared.refusals.Refusal.{Refusal}
use Rattle.values.specs.Rules.{Rules}
use Rattle.values.specs.Cells.{shows}
use Rattle.models.specs.Laws.{Meaning}
use Rattle.protocol.specs.Machine.{State, Call, Forge, Answer, needed, step}
use Rattle.run.specs.declared.run.Run.{Run}
use Rattle.run.specs.Turns.{size_of}
use Rattle.run.specs.Calls.{said_done}
use Rattle.run.specs.Runs.{setting, state, Keeps}
use Rattle.run_file.specs.Lines as format
use Rattle.run_file.specs.declared.lines.Line.{Line}
use Rattle.run_file.specs.Votes.{Asked, forges, lines_of, round_of, rounds_from, stopped, unless_stopped, run_through}
use Rattle.run_file.specs.declared.stops.Stop.{Stop}
use Rattle.run_file.specs.InCode.{IsLine, stop_at, GoesOn, Stops}

module _ {V R : Type 0} {kind : Ghosts V R} where
  -- past the cells of a block that is there all is as before it was opened
  pub past_block : (a b c : Run V R kind) → Keeps a b → Keeps b c → 0 < size_of b.turn → drop (needed (size_of b.turn)) c.cells.now ≡ drop (needed (size_of b.turn)) a.cells.now
  past_block a b c p q some = go q.size ∙ p.past
    where
      go : (size_of b.turn ≡ 0) ⊎ (size_of c.turn ≡ size_of b.turn) → drop (needed (size_of b.turn)) c.cells.now ≡ drop (needed (size_of b.turn)) b.cells.now
      go (inl none) = absurd (omega (arith, none, some))
      go (inr same) = subst (λ n. drop (needed n) c.cells.now ≡ drop (needed n) b.cells.now) same q.past

  -- a call that is performed, and one that is refused
  pub done : (m : Meaning) (call : Call) (round : Option ℕ) (a b : Run V R kind) (answer : Result ⊤ Refusal) → (state b, said_done kind.rules kind.plain answer) ≡ step (setting a) m (state a) call → stop_at round answer ≡ Ok tt
      → GoesOn m (record { call = call; round = round } ∷ []) a b
  done m call round a b (Ok x) stepped e more =
      subst (λ (q : State × Answer). unless_stopped (stopped round q.1) (run_through (setting a) m q.0 more) ≡ run_through (setting a) m (state b) more) stepped refl
  done m call round a b (Err why) stepped e more = absurd (grind arith)

  pub refused : (m : Meaning) (call : Call) (round : Option ℕ) (a b : Run V R kind) (answer : Result ⊤ Refusal) (stop : Stop) → (state b, said_done kind.rules kind.plain answer) ≡ step (setting a) m (state a) call → stop_at round answer ≡ Err stop
      → Stops m (record { call = call; round = round } ∷ []) a stop
  refused m call round a b (Ok x) stop stepped e more = absurd (grind arith)
  refused m call round a b (Err why) stop stepped e more =
      let same : record { refusal = why; round = round } ≡ stop = grind arith in
      subst (λ (q : State × Answer). unless_stopped (stopped round q.1) (run_through (setting a) m q.0 more) ≡ Err stop) stepped (ap (λ s. Err s) same)

  -- calls after others that are performed, and after some of which one is refused
  pub goes_then : (m : Meaning) (first then_these : List Asked) (a b c : Run V R kind) → GoesOn m first a b → Keeps a b → GoesOn m then_these b c → GoesOn m (first ++ then_these) a c
  goes_then m first then_these a b c p keeps q more =
      rw (append_assoc first then_these more) (p (then_these ++ more) ∙ subst (λ x. run_through x m (state b) (then_these ++ more) ≡ run_through x m (state c) more) keeps.setting_stays (q more))

  pub stops_then : (m : Meaning) (first then_these : List Asked) (a b : Run V R kind) (stop : Stop) → GoesOn m first a b → Keeps a b → Stops m then_these b stop → Stops m (first ++ then_these) a stop
  stops_then m first then_these a b stop p keeps q more =
      rw (append_assoc first then_these more) (p (then_these ++ more) ∙ subst (λ x. run_through x m (state b) (then_these ++ more) ≡ Err stop) keeps.setting_stays (q more))

  pub stops_first : (m : Meaning) (first then_these : List Asked) (a : Run V R kind) (stop : Stop) → Stops m first a stop → Stops m (first ++ then_these) a stop
  stops_first m first then_these a stop p more = rw (append_assoc first then_these more) (p (then_these ++ more))

  -- a forged line, in front of those of its round that are left
  pub forge_done : (m : Meaning) (a b c : Run V R kind) (r : ℕ) (all xs : List format.Line) (x : format.Line) → all ≡ x ∷ xs → x.round ≡ r → Keeps a b → GoesOn m (forges x ∷ []) b c
      → (more : List Asked) → run_through (setting a) m (state b) (map forges (lines_of r all) ++ more) ≡ run_through (setting a) m (state c) (map forges (lines_of r xs) ++ more)
  forge_done m a b c r all xs x is of_round keeps p more =
      let same : eqb x.round r ≡ true = grind (arith, nat_tests) in
      rw (is, same) (subst (λ s. run_through s m (state b) (forges x ∷ (map forges (lines_of r xs) ++ more)) ≡ run_through s m (state c) (map forges (lines_of r xs) ++ more)) keeps.setting_stays (p (map forges (lines_of r xs) ++ more)))

  pub forge_refused : (m : Meaning) (a b : Run V R kind) (r : ℕ) (all xs : List format.Line) (x : format.Line) (stop : Stop) → all ≡ x ∷ xs → x.round ≡ r → Keeps a b → Stops m (forges x ∷ []) b stop
      → (more : List Asked) → run_through (setting a) m (state b) (map forges (lines_of r all) ++ more) ≡ Err stop
  forge_refused m a b r all xs x stop is of_round keeps p more =
      let same : eqb x.round r ≡ true = grind (arith, nat_tests) in
      rw (is, same) (subst (λ s. run_through s m (state b) (forges x ∷ (map forges (lines_of r xs) ++ more)) ≡ Err stop) keeps.setting_stays (p (map forges (lines_of r xs) ++ more)))

-- the call that a line asks for
pub forge_call : {V R : Type 0} (k : Rules) (plain : R → List ℕ) (x : Line V R) (is : format.Line) → IsLine k plain x is → Forge x.place.sender x.place.receiver x.place.column (shows k plain x.cell) ≡ (forges is).call
forge_call k plain x is e =
    let i = e.sender in
    let j = e.receiver in
    let c = e.column in
    let v = e.cell in
    rw (i, j, c, v) refl

-- a round, in front of those that are left
module _ {V R : Type 0} {kind : Ghosts V R} where
  pub rounds_done : (m : Meaning) (a b c : Run V R kind) (r next set : ℕ) (sets all : List ℕ) (lines rest : List format.Line) → next ≡ suc r → all ≡ set ∷ sets → Keeps a b → GoesOn m (round_of r set lines) b c
      → ((sets : List ℕ) → rounds_from (suc r) sets lines ≡ rounds_from (suc r) sets rest)
      → run_through (setting a) m (state b) (rounds_from r all lines) ≡ run_through (setting a) m (state c) (rounds_from next sets rest)
  rounds_done m a b c r next set sets all lines rest is is_all keeps did same =
      rw (is, is_all) (subst (λ x. run_through x m (state b) (round_of r set lines ++ rounds_from (suc r) sets lines) ≡ run_through x m (state c) (rounds_from (suc r) sets rest)) keeps.setting_stays
      (did (rounds_from (suc r) sets lines) ∙ ap (run_through (setting b) m (state c)) (same sets)))
