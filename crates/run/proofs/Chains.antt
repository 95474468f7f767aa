-- Calls on a run, one after another: what a caller knows of the run and of the answers so far.
use Rattle.std.proofs.Common.{◌≡◌, ◌<◌, ℕ, zero, suc, arith, refl, sym, ap, subst, ◌∙◌, List, [], ◌∷◌, ◌++◌, map, take, drop, Some, inl, inr, ◌⊎◌}
use Rattle.std.specs.Prelude.{length, ⊤, Result, Ok, Err, IfErr}
use Rattle.values.specs.declared.refusals.Refusal.{Refusal}
use Rattle.std.specs.List.{slice_get}
use Rattle.std.specs.Option.{option_map}
use Rattle.std.proofs.lemmas.Option.{slice_get-map}
use Rattle.values.specs.Rules.{Rules}
use Rattle.run.specs.declared.calls.Call.{Call as RunCall}
use Rattle.run.specs.declared.calls.Answer.{Answer as RunAnswer}
use Rattle.run.specs.Calls.{asked, said, said_done}
use Rattle.values.specs.declared.kinds.Kind.{Ghosts}
use Rattle.models.specs.Laws.{Meaning}
use Rattle.protocol.specs.Machine.{Setting, State, Idle, Call, Answer, needed}
use Rattle.protocol.specs.Transcripts.{Transcript, transcript, state_after}
use Rattle.protocol.proofs.Joined.{state_joined, transcript_joined}
use Rattle.run.specs.declared.run.Run.{Run}
use Rattle.run.specs.Turns.{size_of}
use Rattle.run.specs.Runs.{setting, state, Unaltered, Performs, Keeps}
use Rattle.run.specs.Promises.{block_size, entries, log_of}
use Rattle.run.specs.Standing.{entry, Stands, Continues}
use Rattle.run.proofs.Sizes.{step_size, size_is}

module _ {V R : Type 0} {kind : Ghosts V R} where
  -- what is left as it was, by one call and by calls one after another
  pub keeps_all : (run : Run V R kind) → Keeps run run
  keeps_all run = record { size = inr refl; past = refl; setting_stays = refl; named = refl {a = run.cells.ghost_name} }

  pub keeps_more : (a b c : Run V R kind) → Keeps a b → Keeps b c → Keeps a c
  keeps_more a b c p q = record {
    size = sizes p.size q.size;
    past = q.past ∙ further q.size;
    setting_stays = q.setting_stays ∙ p.setting_stays;
    named = q.named ∙ p.named;
  }
    where
      sizes : (size_of a.turn ≡ 0) ⊎ (size_of b.turn ≡ size_of a.turn) → (size_of b.turn ≡ 0) ⊎ (size_of c.turn ≡ size_of b.turn) → (size_of a.turn ≡ 0) ⊎ (size_of c.turn ≡ size_of a.turn)
      sizes (inl none) f = inl none
      sizes (inr e) (inl none) = inl (sym e ∙ none)
      sizes (inr e) (inr f) = inr (f ∙ e)

      further : (size_of b.turn ≡ 0) ⊎ (size_of c.turn ≡ size_of b.turn) → drop (needed (size_of c.turn)) b.cells.now ≡ drop (needed (size_of c.turn)) a.cells.now
      further (inl none) = ap (drop (needed (size_of c.turn))) (subst (λ n. drop (needed n) b.cells.now ≡ drop (needed n) a.cells.now) none p.past)
      further (inr same) = subst (λ n. drop (needed n) b.cells.now ≡ drop (needed n) a.cells.now) (sym same) p.past

  pub performs_keeps : {m : Meaning} {c : Call} {answer : Answer} (a b : Run V R kind) → Performs m c answer a b → Keeps a b
  performs_keeps {m = m} {c = c} a b p = record { size = go (size_of a.turn) refl; past = p.past; setting_stays = p.setting_stays; named = p.named }
    where
      go : (n : ℕ) → size_of a.turn ≡ n → (size_of a.turn ≡ 0) ⊎ (size_of b.turn ≡ size_of a.turn)
      go zero e = inl e
      go (suc k) e = inr (sym (size_is b) ∙ ap (λ q. block_size q.0) p.stepped ∙ step_size (setting a) m k (state a) c (size_is a ∙ e) ∙ sym e)

  -- a call that is refused alters nothing
  pub refused_unaltered : {m : Meaning} {c : Call} (r : Result ⊤ Refusal) (a b : Run V R kind) → Performs m c (said_done kind.rules kind.plain r) a b → IfErr r (λ _. Unaltered a b)
  refused_unaltered (Ok x) a b p = tt
  refused_unaltered (Err why) a b p = p.refused why refl

  -- the store has as many cells as before
  pub same_cells : (a b : Run V R kind) → Keeps a b → length b.cells.now ≡ length a.cells.now
  same_cells a b p = ap (λ (x : Setting). x.cells) p.setting_stays

  -- between a moment and itself there is no call, and between two moments with one call between them there is that one
  pub stays : (m : Meaning) (run : Run V R kind) → Continues m [] run run
  stays m run = record { calls = []; log_is = refl; state_is = refl; keeps = keeps_all run }

  pub performed : {m : Meaning} (c : Call) (answer : Answer) (a b : Run V R kind) → Performs m c answer a b → Continues m (entry c answer ∷ []) a b
  performed c answer a b p = record {
    calls = c ∷ [];
    log_is = ap (λ q. entry c q.1 ∷ []) (sym p.stepped);
    state_is = ap (λ q. q.0) (sym p.stepped);
    keeps = performs_keeps a b p;
  }

  -- what was called from the first moment to the second, and from there to the third
  pub joined : {m : Meaning} {first second : Transcript} (a b c : Run V R kind) → Continues m first a b → Continues m second b c → Continues m (first ++ second) a c
  joined {m = m} {first = first} {second = second} a b c p q = record {
    calls = p.calls ++ q.calls;
    log_is = transcript_joined (setting a) m (state a) p.calls q.calls ∙ ap (λ log. log ++ transcript (setting a) m there q.calls) p.log_is ∙ ap (◌++◌ first) (at_second transcript ∙ q.log_is);
    state_is = state_joined (setting a) m (state a) p.calls q.calls ∙ at_second state_after ∙ q.state_is;
    keeps = keeps_more a b c p.keeps q.keeps;
  }
    where
      there : State
      there = state_after (setting a) m (state a) p.calls

      at_second : {A : Type 0} (f : Setting → Meaning → State → List Call → A) → f (setting a) m there q.calls ≡ f (setting b) m (state b) q.calls
      at_second f = ap (λ x. f x m there q.calls) (sym p.keeps.setting_stays) ∙ ap (λ s. f (setting b) m s q.calls) p.state_is

  -- a new run stands after no call
  pub begins : (x : Setting) (m : Meaning) (run : Run V R kind) → setting run ≡ x → state run ≡ Idle → Stands x m [] run
  begins x m run e idle = record { calls = []; log_is = refl; state_is = sym idle; setting_is = e }

  -- a run that stands after some calls, and goes on by further ones
  pub goes_further : {x : Setting} {m : Meaning} {log more : Transcript} (a b : Run V R kind) → Stands x m log a → Continues m more a b → Stands x m (log ++ more) b
  goes_further {x = x} {m = m} {log = log} {more = more} a b p q = record {
    calls = p.calls ++ q.calls;
    log_is = transcript_joined x m Idle p.calls q.calls ∙ ap (λ log. log ++ transcript x m there q.calls) p.log_is ∙ ap (◌++◌ log) (at_second transcript ∙ q.log_is);
    state_is = state_joined x m Idle p.calls q.calls ∙ at_second state_after ∙ q.state_is;
    setting_is = q.keeps.setting_stays ∙ p.setting_is;
  }
    where
      there : State
      there = state_after x m Idle p.calls

      at_second : {A : Type 0} (f : Setting → Meaning → State → List Call → A) → f x m there q.calls ≡ f (setting a) m (state a) q.calls
      at_second f = ap (λ y. f y m there q.calls) (sym p.setting_is) ∙ ap (λ s. f (setting a) m s q.calls) p.state_is

  -- the same by one call
  pub goes_on : {x : Setting} {m : Meaning} {log : Transcript} (c : Call) (answer : Answer) (a b : Run V R kind) → Stands x m log a → Performs m c answer a b → Stands x m (log ++ entry c answer ∷ []) b
  goes_on c answer a b p q = goes_further a b p (performed c answer a b q)

  pub logged : {x : Setting} {m : Meaning} {log log' : Transcript} (run : Run V R kind) → log ≡ log' → Stands x m log run → Stands x m log' run
  logged {x = x} {m = m} run e stands = subst (λ log. Stands x m log run) e stands

-- what lies at a place lies there also among the first so many
pub taken : {X : Type 0} (xs : List X) (n i : ℕ) (a : X) → i < n → slice_get xs i ≡ Some a → slice_get (take n xs) i ≡ Some a
taken [] n i a lt e = absurd (cc e)
taken (x ∷ xs) zero i a lt e = absurd (omega arith)
taken (x ∷ xs) (suc n) zero a lt e = e
taken (x ∷ xs) (suc n) (suc i) a lt e = taken xs n i a (omega arith) e

-- the entry at a place, where calls lie beside their answers
entries_at : (calls : List Call) (answers : List Answer) (i : ℕ) (c : Call) (a : Answer) → slice_get calls i ≡ Some c → slice_get answers i ≡ Some a → slice_get (entries calls answers) i ≡ Some (entry c a)
entries_at [] answers i c a c_is a_is = absurd (cc c_is)
entries_at (d ∷ calls) [] i c a c_is a_is = absurd (cc a_is)
entries_at (d ∷ calls) (b ∷ answers) zero c a c_is a_is = let same : d ≡ c = cc c_is in let told : b ≡ a = cc a_is in rw (same, told) refl
entries_at (d ∷ calls) (b ∷ answers) (suc i) c a c_is a_is = entries_at calls answers i c a c_is a_is

pub entry_at : {R : Type 0} (k : Rules) (plain : R → List ℕ) (count : ℕ) (calls : List (RunCall R)) (answers : List (Result (RunAnswer R) Refusal)) (i : ℕ) (call : RunCall R) (answer : Result (RunAnswer R) Refusal)
    → i < count → slice_get calls i ≡ Some call → slice_get answers i ≡ Some answer
    → slice_get (log_of k plain (take count calls) (take count answers)) i ≡ Some (entry (asked k plain call) (said k plain answer))
entry_at k plain count calls answers i call answer lt call_is answer_is =
    entries_at (map (asked k plain) (take count calls)) (map (said k plain) (take count answers)) i _ _
    (slice_get-map (asked k plain) (take count calls) i ∙ ap (option_map (asked k plain)) (taken calls count i call lt call_is))
    (slice_get-map (said k plain) (take count answers) i ∙ ap (option_map (said k plain)) (taken answers count i answer lt answer_is))
