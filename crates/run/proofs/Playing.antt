-- A list of calls that is performed one by one.
use Rattle.std.proofs.Common.{◌≡◌, ℕ, zero, suc, ◌+◌, ◌<◌, arith, refl, sym, ap, ◌∙◌, List, [], ◌∷◌, ◌++◌, map, length, take, drop, set, get_or, Some, None, Option, Result, subst}
use Rattle.std.specs.List.{slice_get}
use denote.Bor.{Bor}
use Rattle.std.specs.Option.{IfSome, option_copied, option_map}
use Rattle.std.proofs.lemmas.List.{map-append, take_more, take_more_set, drop-set-lt, drop-drop}
use Rattle.std.proofs.lemmas.Option.{slice_get-map}
use Rattle.values.specs.declared.kinds.Kind.{Ghosts}
use Rattle.values.specs.declared.refusals.Refusal.{Refusal}
use Rattle.values.specs.Cells.{shows}
use Rattle.models.specs.Laws.{Meaning}
use Rattle.protocol.specs.Machine as machine
use Rattle.protocol.specs.Machine.{Setting, State, Idle, Waiting, Seated, Open, Seat, Forge, Close, Decision, Decided, needed, unless, step, open_refusal, seat_refusal, forge_refusal, decision_refusal}
use Rattle.protocol.specs.Transcripts.{Entry, Law, cell_in, answered, transcript, state_after}
use Rattle.run.specs.declared.run.Run.{Run}
use Rattle.run.specs.declared.calls.Call.{Call}
use Rattle.run.specs.declared.calls.Answer.{Answer}
use Rattle.run.specs.Turns.{size_of}
use Rattle.run.specs.Calls.{asked, said}
use Rattle.run.specs.Runs.{setting_over, setting, state, Performs, Keeps}
use Rattle.run.specs.Standing.{entry}
use Rattle.run.specs.Promises.{block_size, replies, entries, log_of, TellsDecisions}
use Rattle.run.proofs.Sizes.{size_is}
use Rattle.protocol.proofs.Joined.{state_joined, transcript_joined}
use Rattle.run.proofs.Chains.{keeps_all, keeps_more, performs_keeps, taken}

-- the machine's answers to a list of calls, beside the calls, are the transcript
entries_are : (x : Setting) (m : Meaning) (s : State) (calls : List machine.Call) → entries calls (map (λ (e : Entry). e.answer) (transcript x m s calls)) ≡ transcript x m s calls
entries_are x m s [] = refl
entries_are x m s (c ∷ calls) = ap (◌∷◌ (entry c (step x m s c).1)) (entries_are x m (step x m s c).0 calls)

-- only a decision is answered a cell
unless_decides : (c : machine.Call) (cell : _) (why : Option Refusal) (before after : State) → (unless why before after machine.Done).1 ≡ Decided cell → cell_in c (Decided cell) ≡ Some cell
unless_decides c cell None before after e = absurd (grind arith)
unless_decides c cell (Some why) before after e = absurd (grind arith)

decides : (x : Setting) (m : Meaning) (s : State) (c : machine.Call) (cell : _) → (step x m s c).1 ≡ Decided cell → cell_in c (Decided cell) ≡ Some cell
decides x m s (Decision i) cell e = refl
decides x m Idle (Open n t proposals initial) cell e = unless_decides (Open n t proposals initial) cell (open_refusal x m n t proposals initial) Idle _ e
decides x m (Waiting b) (Open n t proposals initial) cell e = absurd (grind arith)
decides x m (Seated b s) (Open n t proposals initial) cell e = absurd (grind arith)
decides x m Idle (Seat set) cell e = absurd (grind arith)
decides x m (Waiting b) (Seat set) cell e = unless_decides (Seat set) cell (seat_refusal m b set) (Waiting b) _ e
decides x m (Seated b s) (Seat set) cell e = absurd (grind arith)
decides x m Idle (Forge j i k c) cell e = absurd (grind arith)
decides x m (Waiting b) (Forge j i k c) cell e = absurd (grind arith)
decides x m (Seated b s) (Forge j i k c) cell e = unless_decides (Forge j i k c) cell (forge_refusal b s j i k) (Seated b s) _ e
decides x m Idle Close cell e = absurd (grind arith)
decides x m (Waiting b) Close cell e = absurd (grind arith)
decides x m (Seated b s) Close cell e = absurd (grind arith)

-- so what is told as a cell is an answered decision
answered_at : (x : Setting) (m : Meaning) (s : State) (calls : List machine.Call) (i : ℕ) (cell : _)
    → slice_get (map (λ (e : Entry). e.answer) (transcript x m s calls)) i ≡ Some (Decided cell) → answered (transcript x m s calls) i ≡ Some cell
answered_at x m s [] i cell e = absurd (cc e)
answered_at x m s (c ∷ calls) zero cell e = let is : (step x m s c).1 ≡ Decided cell = grind arith in ap (cell_in c) is ∙ decides x m s c cell is
answered_at x m s (c ∷ calls) (suc i) cell e = answered_at x m (step x m s c).0 calls i cell e

-- what a look-up found
pub found : {X : Type 0} (xs : List X) (i : ℕ) (x : X) (o : Option (Bor X)) → IfSome o (λ y. y.now ≡ get_or xs i y.now) → option_copied o ≡ Some x → x ≡ get_or xs i x
found xs i x None m e = absurd (cc e)
found xs i x (Some y) m e = let same : y.now ≡ x = cc e in subst (λ x. x ≡ get_or xs i x) same m

module _ {V R : Type 0} (kind : Ghosts V R) (m : Meaning) (calls : List (Call R)) (cells : List (Option R)) where
  abbrev x : Setting
  x = setting_over kind.rules cells

  -- the first so many calls, as the machine has them
  abbrev acts : ℕ → List machine.Call
  acts at = map (asked kind.rules kind.plain) (take at calls)

  abbrev saids : List (Result (Answer R) Refusal) → List machine.Answer
  saids = map (said kind.rules kind.plain)

  -- the first so many calls are performed, and their answers in their places
  pub record InPlay (first run : Run V R kind) (before answers : List (Result (Answer R) Refusal)) (at : ℕ) : Type 0 where
    pub told : saids (take at answers) ≡ replies x m (acts at)
    pub stands : state_after x m Idle (acts at) ≡ state run
    pub keeps : Keeps first run
    pub rest : drop at answers ≡ drop at before

  pub none_played : (first : Run V R kind) (answers : List (Result (Answer R) Refusal)) → state first ≡ Idle → InPlay first first answers answers 0
  none_played first answers idle = record { told = refl; stands = sym idle; keeps = keeps_all first; rest = refl }

  pub one_played : (first run next : Run V R kind) (before answers : List (Result (Answer R) Refusal)) (at : ℕ) (call : Call R) (answer : Result (Answer R) Refusal) → setting first ≡ x
      → InPlay first run before answers at → at < length calls → at < length answers → call ≡ get_or calls at call
      → Performs m (asked kind.rules kind.plain call) (said kind.rules kind.plain answer) run next → InPlay first next before (set answers at answer) (at + 1)
  one_played first run next before answers at call answer same so_far in_calls in_answers is performs = record {
    told = ap saids (take_more_set answers at answer in_answers) ∙ map-append (said kind.rules kind.plain) (take at answers) (answer ∷ [])
        ∙ ap (λ done. done ++ (said kind.rules kind.plain answer ∷ [])) so_far.told ∙ ap (λ (a : machine.Answer). replies x m (acts at) ++ (a ∷ [])) (ap (λ (q : State × machine.Answer). q.1) stepped) ∙ sym more_replies;
    stands = ap (state_after x m Idle) more_acts ∙ state_joined x m Idle (acts at) (c ∷ []) ∙ sym (ap (λ (q : State × machine.Answer). q.0) stepped);
    keeps = keeps_more first run next so_far.keeps (performs_keeps run next performs);
    rest = past;
  }
    where
      c : machine.Call
      c = asked kind.rules kind.plain call

      more_acts : acts (at + 1) ≡ acts at ++ c ∷ []
      more_acts = ap (map (asked kind.rules kind.plain)) (take_more calls at call in_calls ∙ ap (λ call. take at calls ++ call ∷ []) (sym is)) ∙ map-append (asked kind.rules kind.plain) (take at calls) (call ∷ [])

      stepped : (state next, said kind.rules kind.plain answer) ≡ step x m (state_after x m Idle (acts at)) c
      stepped = performs.stepped ∙ ap (λ y. step y m (state run) c) (so_far.keeps.setting_stays ∙ same) ∙ ap (λ s. step x m s c) (sym so_far.stands)

      more_replies : replies x m (acts (at + 1)) ≡ replies x m (acts at) ++ ((step x m (state_after x m Idle (acts at)) c).1 ∷ [])
      more_replies = ap (replies x m) more_acts ∙ ap (map (λ (e : Entry). e.answer)) (transcript_joined x m Idle (acts at) (c ∷ [])) ∙ map-append (λ (e : Entry). e.answer) (transcript x m Idle (acts at)) _

      past : drop (at + 1) (set answers at answer) ≡ drop (at + 1) before
      past = drop-set-lt (at + 1) answers at answer (omega arith) ∙ sym (drop-drop 1 at answers) ∙ ap (drop 1) so_far.rest ∙ drop-drop 1 at before

  -- what was told in all
  module _ (answers : List (Result (Answer R) Refusal)) (at : ℕ) (told_all : saids (take at answers) ≡ replies x m (acts at)) where
    log_is : log_of kind.rules kind.plain (take at calls) (take at answers) ≡ transcript x m Idle (acts at)
    log_is = ap (entries (acts at)) told_all ∙ entries_are x m Idle (acts at)

    pub law_told : Law m (transcript x m Idle (acts at)) → Law m (log_of kind.rules kind.plain (take at calls) (take at answers))
    law_told law = subst (Law m) (sym log_is) law

    pub decisions_told : TellsDecisions kind.rules kind.plain at calls answers
    decisions_told i cell lt e =
        ap (λ log. answered log i) log_is
        ∙ answered_at x m Idle (acts at) i (shows kind.rules kind.plain cell)
        (ap (λ all. slice_get all i) (sym told_all) ∙ slice_get-map (said kind.rules kind.plain) (take at answers) i ∙ ap (option_map (said kind.rules kind.plain)) (taken answers at i _ lt e))

  -- past the cells of the block that there is at the end, all is as before
  pub past_end : (first run : Run V R kind) (before answers : List (Result (Answer R) Refusal)) (at : ℕ) → InPlay first run before answers at → first.cells.now ≡ cells
      → drop (needed (block_size (state_after x m Idle (acts at)))) run.cells.now ≡ drop (needed (block_size (state_after x m Idle (acts at)))) cells
  past_end first run before answers at play same =
      let size : block_size (state_after x m Idle (acts at)) ≡ size_of run.turn = ap block_size play.stands ∙ size_is run in
      rw size (play.keeps.past ∙ ap (drop (needed (size_of run.turn))) same)
