-- A seated round is that of the calls that led to it: from the round back over the calls, to where the run was idle.
use Rattle.std.specs.Option.{option_or}
use Rattle.std.proofs.Common.{◌≡◌, ℕ, suc, ◌+◌, List, [], ◌∷◌, ◌++◌, length, Some, None, Option, slice_index, refl, sym, subst, arith}
use Rattle.values.specs.declared.refusals.Refusal.{Refusal}
use Rattle.values.specs.declared.refusals.Refusal.TheVariants.{OutOfTurn}
use Rattle.models.specs.Laws.{Meaning}
use Rattle.protocol.specs.Machine.{
  Setting,
  Block,
  Seating,
  State,
  Idle,
  Waiting,
  Seated,
  Call,
  Open,
  Seat,
  Forge,
  Close,
  Decision,
  Answer,
  Refused,
  open_refusal,
  seat_refusal,
  forge_refusal,
  decision_refusal,
  opened,
  unless,
  step,
}
use Rattle.protocol.specs.MachineLaws.{RoundsAreOfTheirCalls}
use Rattle.protocol.specs.Transcripts.{Opening, opening_in, sets_in, closes_in, opening, sets, closes, transcript, state_after}
use Rattle.protocol.proofs.Joined.{refused_adds}

module _ (x : Setting) (m : Meaning) (b : Block) (s : Seating) where
  -- from a block to the round, with these sets and so many closes in between
  record Reaches (from : Block) (all : List ℕ) (done : ℕ) : Type 0 where
    n : b.n ≡ from.n
    t : b.t ≡ from.t
    number : b.round ≡ from.round + done
    seats : length all ≡ suc done
    set : s.set ≡ slice_index all done
    last : b.last ≡ slice_index (from.last ∷ all) done

  -- from a state to the round, by what the calls in between opened, seated and closed; a round that is seated before
  -- them already has its set
  abbrev Leads : State → Option Opening → List ℕ → ℕ → Type 0
  Leads Idle o all done = (by : Opening) × (o ≡ Some by) × Reaches (opened m by.n by.t by.proposals by.initial) all done
  Leads (Waiting from) o all done = Reaches from all done
  Leads (Seated from now) o all done = Reaches from (now.set ∷ all) done

  -- what leads to the round from the state that a call leaves leads there, with the call put first, from the state
  -- before it
  abbrev Behind : State → Call → State × Answer → Type 0
  Behind before c r = (o : Option Opening) (all : List ℕ) (done : ℕ)
      → Leads r.0 o all done → Leads before (option_or (opening_in c r.1) o) (sets_in c r.1 ++ all) (closes_in c r.1 + done)

  -- a call that adds nothing
  nothing : (before : State) (o : Option Opening) (all : List ℕ) (done : ℕ) → Leads before o all done → Leads before o all (0 + done)
  nothing before o all done = subst (Leads before o all) (omega arith)

  refused : (before : State) (c : Call) (why : Refusal) → Behind before c (before, Refused why)
  refused before c why o all done p = let r = refused_adds c why in rw (r.opens, r.seats, r.closes) (nothing before o all done p)

  -- a call that this check refuses, or else leads there
  either : (before : State) (c : Call) (why : Option Refusal) (next : State) (a : Answer) → Behind before c (next, a) → Behind before c (unless why before next a)
  either before c None next a f = f
  either before c (Some why) next a f = refused before c why

  behind : (before : State) (c : Call) → Behind before c (step x m before c)
  behind Idle (Open n t proposals initial) =
      let by : Opening = record { n = n; t = t; proposals = proposals; initial = initial } in
      let first = Waiting (opened m n t proposals initial) in
      either Idle (Open n t proposals initial) (open_refusal x m n t proposals initial) _ _ (λ o all done p. (by, refl, nothing first o all done p))
  behind (Waiting from) (Seat set) = either (Waiting from) (Seat set) (seat_refusal m from set) _ _ (λ o all. nothing (Waiting from) o (set ∷ all))
  behind (Waiting from) (Decision i) = either (Waiting from) (Decision i) (decision_refusal from i) _ _ (nothing (Waiting from))
  behind (Seated from now) (Forge j i k cell) = either (Seated from now) (Forge j i k cell) (forge_refusal from now j i k) _ _ (nothing (Seated from now))
  behind (Seated from now) (Decision i) = either (Seated from now) (Decision i) (decision_refusal from i) _ _ (nothing (Seated from now))
  behind (Seated from now) Close = λ o all done p.
      let more : suc done ≡ 1 + done = omega arith in
      subst (Reaches from (now.set ∷ all)) more
      (record { n = p.n; t = p.t; number = omega (arith, p.number); seats = omega (arith, p.seats); set = p.set; last = p.last })
  behind before c = refused before c OutOfTurn

  leads : (calls : List Call) (before : State) → state_after x m before calls ≡ Seated b s
      → let log = transcript x m before calls in Leads before (opening log) (sets log) (closes log)
  leads [] before e = subst (λ (now : State). Leads now None [] 0) (sym e) (record { n = refl; t = refl; number = omega arith; seats = refl; set = refl; last = refl })
  leads (c ∷ calls) before e =
      let next = (step x m before c).0 in
      let log = transcript x m next calls in
      behind before c (opening log) (sets log) (closes log) (leads calls next e)

pub rounds_are_of_their_calls : RoundsAreOfTheirCalls
rounds_are_of_their_calls x m calls b s e =
    let l = leads x m b s calls Idle e in
    record { by = l.0; opens = l.1; n = l.2.n; t = l.2.t; number = omega (arith, l.2.number); seats = l.2.seats; set = l.2.set; last = l.2.last }
