-- What callers need: laws of two lists of calls that are made one after the other, and what it says of the states
-- before and after a call that it was accepted.
use Rattle.std.specs.Option.{option_or}
use Rattle.std.proofs.Common.{◌≡◌, ℕ, zero, suc, ◌+◌, ◌<◌, ◌≤◌, true, List, [], ◌∷◌, ◌++◌, length, take, Some, None, Option, refl, sym, ap, ◌∙◌, arith}
use Rattle.std.proofs.lemmas.List.{append_assoc, take-append-le}
use Rattle.std.proofs.Math.Seq.{take-append-add}
use Rattle.values.specs.declared.refusals.Refusal.{Refusal}
use Rattle.models.specs.Laws.{Meaning}
use Rattle.protocol.specs.Machine.{
  Setting,
  Block,
  Seating,
  State,
  Idle,
  Waiting,
  Seated,
  Call,
  Open,
  Seat,
  Forge,
  Close,
  Decision,
  Answer,
  Done,
  Refused,
  open_refusal,
  seat_refusal,
  opened,
  seating,
  closed,
  unless,
  step,
}
use Rattle.protocol.specs.Transcripts.{Transcript, Opening, accepted, opening_in, sets_in, closes_in, cell_in, opening, sets, closes, answered, transcript, state_after}
use Rattle.protocol.proofs.Accepted.{Opens, open_accepted}

-- calls b after calls a: the state that they leave, and what was answered

pub state_joined : (x : Setting) (m : Meaning) (s : State) (a b : List Call) → state_after x m s (a ++ b) ≡ state_after x m (state_after x m s a) b
state_joined x m s [] b = refl
state_joined x m s (c ∷ a) b = state_joined x m (step x m s c).0 a b

pub transcript_joined : (x : Setting) (m : Meaning) (s : State) (a b : List Call) → transcript x m s (a ++ b) ≡ transcript x m s a ++ transcript x m (state_after x m s a) b
transcript_joined x m s [] b = refl
transcript_joined x m s (c ∷ a) b = ap (◌∷◌ (record { call = c; answer = (step x m s c).1 })) (transcript_joined x m (step x m s c).0 a b)

-- each call has one answer
pub transcript_length : (x : Setting) (m : Meaning) (s : State) (calls : List Call) → length (transcript x m s calls) ≡ length calls
transcript_length x m s [] = refl
transcript_length x m s (c ∷ calls) = ap suc (transcript_length x m (step x m s c).0 calls)

-- the sets of transcript a, and then those of transcript b
pub sets_joined : (a b : Transcript) → sets (a ++ b) ≡ sets a ++ sets b
sets_joined [] b = refl
sets_joined (e ∷ a) b = ap (◌++◌ (sets_in e.call e.answer)) (sets_joined a b) ∙ sym (append_assoc (sets_in e.call e.answer) (sets a) (sets b))

-- the rounds closed in both
pub closes_joined : (a b : Transcript) → closes (a ++ b) ≡ closes a + closes b
closes_joined [] b = omega arith
closes_joined (e ∷ a) b = omega (arith, closes_joined a b)

-- the open of the first, or where that has none the open of the second
pub opening_joined : (a b : Transcript) → opening (a ++ b) ≡ option_or (opening a) (opening b)
opening_joined [] b = refl
opening_joined (e ∷ a) b = ap (option_or (opening_in e.call e.answer)) (opening_joined a b) ∙ regroup (opening_in e.call e.answer)
  where
    regroup : (o : Option Opening) → option_or o (option_or (opening a) (opening b)) ≡ option_or (option_or o (opening a)) (opening b)
    regroup None = refl
    regroup (Some p) = refl

-- what is answered by the calls of the first
pub answered_before : (a b : Transcript) (i : ℕ) → i < length a → answered (a ++ b) i ≡ answered a i
answered_before [] b i lt = absurd (omega arith)
answered_before (e ∷ a) b zero lt = refl
answered_before (e ∷ a) b (suc i) lt = answered_before a b i (omega arith)

-- and by those of the second
pub answered_later : (a b : Transcript) (i : ℕ) → answered (a ++ b) (length a + i) ≡ answered b i
answered_later [] b i = ap (answered b) (omega arith)
answered_later (e ∷ a) b i = let later : suc (length a) + i ≡ suc (length a + i) = omega arith in ap (answered (e ∷ (a ++ b))) later ∙ answered_later a b i

-- how many rounds are closed before a call of the first
pub closes_before : (a b : Transcript) (i : ℕ) → i ≤ length a → closes (take i (a ++ b)) ≡ closes (take i a)
closes_before a b i le = ap closes (take-append-le i a b le)

-- and before one of the second
pub closes_later : (a b : Transcript) (i : ℕ) → closes (take (length a + i) (a ++ b)) ≡ closes a + closes (take i b)
closes_later a b i = ap closes (take-append-add a b i) ∙ closes_joined a (take i b)

-- a call that is refused adds nothing to a transcript's opening, sets, closes and decisions
pub record AddsNothing (c : Call) (a : Answer) : Type 0 where
  pub opens : opening_in c a ≡ None
  pub seats : sets_in c a ≡ []
  pub closes : closes_in c a ≡ 0
  pub decides : cell_in c a ≡ None

pub refused_adds : (c : Call) (why : Refusal) → AddsNothing c (Refused why)
refused_adds (Open n t proposals initial) why = record { opens = refl; seats = refl; closes = refl; decides = refl }
refused_adds (Seat set) why = record { opens = refl; seats = refl; closes = refl; decides = refl }
refused_adds (Forge j i k cell) why = record { opens = refl; seats = refl; closes = refl; decides = refl }
refused_adds Close why = record { opens = refl; seats = refl; closes = refl; decides = refl }
refused_adds (Decision i) why = record { opens = refl; seats = refl; closes = refl; decides = refl }

-- a call that was accepted was not refused, and so left what it leaves then
unrefused : (why : Option Refusal) (before after next : State) (given a : Answer) → (next, a) ≡ unless why before after given → accepted a ≡ true → (why ≡ None) × (next ≡ after)
unrefused None before after next given a e ok = (refl, ap (λ (p : State × Answer). p.0) e)
unrefused (Some refusal) before after next given a e ok = absurd (grind arith)

-- an open is accepted where the run is idle, and leaves its block waiting
pub record OpenStep (x : Setting) (m : Meaning) (n t : ℕ) (proposals : List (List ℕ)) (initial : ℕ) (before next : State) : Type 0 where
  pub was : before ≡ Idle
  pub now : next ≡ Waiting (opened m n t proposals initial)
  pub opens : Opens x m n t proposals initial

pub open_step : (x : Setting) (m : Meaning) (before next : State) (a : Answer) (n t : ℕ) (proposals : List (List ℕ)) (initial : ℕ)
    → (next, a) ≡ step x m before (Open n t proposals initial) → accepted a ≡ true → OpenStep x m n t proposals initial before next
open_step x m Idle next a n t proposals initial e ok =
    let u = unrefused (open_refusal x m n t proposals initial) Idle (Waiting (opened m n t proposals initial)) next Done a e ok in
    record { was = refl; now = u.1; opens = open_accepted x m n t proposals initial u.0 }
open_step x m (Waiting b) next a n t proposals initial e ok = absurd (grind arith)
open_step x m (Seated b s) next a n t proposals initial e ok = absurd (grind arith)

-- a seat is accepted where a block waits, and leaves its round seated
pub seat_waiting : (x : Setting) (m : Meaning) (b : Block) (next : State) (a : Answer) (set : ℕ)
    → (next, a) ≡ step x m (Waiting b) (Seat set) → accepted a ≡ true → (seat_refusal m b set ≡ None) × (next ≡ Seated b (seating m b set))
seat_waiting x m b next a set e ok = unrefused (seat_refusal m b set) (Waiting b) (Seated b (seating m b set)) next Done a e ok

pub record SeatStep (m : Meaning) (set : ℕ) (before next : State) : Type 0 where
  pub block : Block
  pub was : before ≡ Waiting block
  pub may : seat_refusal m block set ≡ None
  pub now : next ≡ Seated block (seating m block set)

pub seat_step : (x : Setting) (m : Meaning) (before next : State) (a : Answer) (set : ℕ) → (next, a) ≡ step x m before (Seat set) → accepted a ≡ true → SeatStep m set before next
seat_step x m Idle next a set e ok = absurd (grind arith)
seat_step x m (Waiting b) next a set e ok = let w = seat_waiting x m b next a set e ok in record { block = b; was = refl; may = w.0; now = w.1 }
seat_step x m (Seated b s) next a set e ok = absurd (grind arith)

-- a close is accepted where a round is seated, and leaves the block waiting; there it is always accepted
pub close_seated : (x : Setting) (m : Meaning) (b : Block) (s : Seating) (next : State) (a : Answer)
    → (next, a) ≡ step x m (Seated b s) Close → (accepted a ≡ true) × (next ≡ Waiting (closed x b s))
close_seated x m b s next a e = (ap (λ (p : State × Answer). accepted p.1) e, ap (λ (p : State × Answer). p.0) e)

pub record CloseStep (x : Setting) (before next : State) : Type 0 where
  pub block : Block
  pub seating : Seating
  pub was : before ≡ Seated block seating
  pub now : next ≡ Waiting (closed x block seating)

pub close_step : (x : Setting) (m : Meaning) (before next : State) (a : Answer) → (next, a) ≡ step x m before Close → accepted a ≡ true → CloseStep x before next
close_step x m Idle next a e ok = absurd (grind arith)
close_step x m (Waiting b) next a e ok = absurd (grind arith)
close_step x m (Seated b s) next a e ok = record { block = b; seating = s; was = refl; now = (close_seated x m b s next a e).1 }
