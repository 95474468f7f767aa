-- The size of the block that a run stands at.
use Rattle.std.proofs.Common.{◌≡◌, ℕ, suc, arith, refl, Some, None, Option}
use Rattle.values.specs.declared.kinds.Kind.{Ghosts}
use Rattle.values.specs.declared.refusals.Refusal.{Refusal}
use Rattle.models.specs.Laws.{Meaning}
use Rattle.protocol.specs.Machine as machine
use Rattle.protocol.specs.Machine.{Setting, State, Idle, Waiting, Seated, Open, Seat, Forge, Close, Decision, unless, step, seat_refusal, forge_refusal, decision_refusal}
use Rattle.run.specs.declared.run.Run.{Run}
use Rattle.run.specs.declared.turns.Turn.{Turn}
use Rattle.run.specs.declared.turns.Turn.TheVariants as turns
use Rattle.run.specs.Turns.{size_of}
use Rattle.run.specs.Views.{view}
use Rattle.run.specs.Runs.{state}
use Rattle.run.specs.Promises.{block_size}

-- once there is a block its size stays
unless_size : (k : ℕ) (why : Option Refusal) (before next : State) (answer : machine.Answer) → block_size before ≡ k → block_size next ≡ k → block_size (unless why before next answer).0 ≡ k
unless_size k None before next answer e f = f
unless_size k (Some why) before next answer e f = e

pub step_size : (x : Setting) (m : Meaning) (k : ℕ) (s : State) (c : machine.Call) → block_size s ≡ suc k → block_size (step x m s c).0 ≡ suc k
step_size x m k Idle c e = absurd (omega (arith, e))
step_size x m k (Waiting b) (Open n t proposals initial) e = e
step_size x m k (Waiting b) (Seat set) e = unless_size (suc k) (seat_refusal m b set) (Waiting b) _ machine.Done e e
step_size x m k (Waiting b) (Forge j i c cell) e = e
step_size x m k (Waiting b) Close e = e
step_size x m k (Waiting b) (Decision i) e = unless_size (suc k) (decision_refusal b i) (Waiting b) (Waiting b) _ e e
step_size x m k (Seated b s) (Open n t proposals initial) e = e
step_size x m k (Seated b s) (Seat set) e = e
step_size x m k (Seated b s) (Forge j i c cell) e = unless_size (suc k) (forge_refusal b s j i c) (Seated b s) _ machine.Done e e
step_size x m k (Seated b s) Close e = e
step_size x m k (Seated b s) (Decision i) e = unless_size (suc k) (decision_refusal b i) (Seated b s) (Seated b s) _ e e

-- a run's state has the block of its turn
pub size_is : {V R : Type 0} {kind : Ghosts V R} (r : Run V R kind) → block_size (state r) ≡ size_of r.turn
size_is {kind = kind} r = go r.turn
  where
    go : (turn : Turn) → block_size (view kind.rules kind.plain turn r.cells.now) ≡ size_of turn
    go turns.Idle = refl
    go (turns.Waiting b) = refl
    go (turns.Seated b s) = refl
