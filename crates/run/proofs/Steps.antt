-- What a seat, a forge and an open do to the cells, against the machine's step.
use Rattle.std.proofs.Common.{◌≡◌, ℕ, ◌+◌, ◌*◌, ◌<◌, ◌≤◌, cond, nat_eq, ◌&&◌, arith, refl, subst, List, None, Option, length, set, replicate}
use Rattle.std.proofs.lemmas.Bool.Decides.{nat_tests}
use Rattle.std.proofs.lemmas.List.{length-take-le}
use Rattle.values.specs.Rules.{Rules}
use Rattle.values.specs.Cells.{shows}
use Rattle.models.specs.Laws.{Meaning}
use Rattle.protocol.specs.Stages.{stage_of}
use Rattle.protocol.specs.Machine as machine
use Rattle.protocol.specs.Machine.{Setting, needed, forge_refusal, step}
use Rattle.run.specs.declared.calls.Place.{Place}
use Rattle.run.specs.declared.turns.Turn.{Turn}
use Rattle.run.specs.declared.turns.Turn.TheVariants.{Waiting, Seated}
use Rattle.run.specs.declared.turns.Block.{Block}
use Rattle.run.specs.declared.turns.Seating.{Seating}
use Rattle.run.specs.Turns.{size_of}
use Rattle.run.specs.Stores.{store}
use Rattle.run.specs.Views.{forged_in, view}
use Rattle.run.specs.Checks.{IsSeated, bare, bare_seating}
use Rattle.run.proofs.Heard.{column_fits}
use Rattle.run.proofs.Forging.{none_forged, one_forged}

-- after an open nothing is forged
pub open_empties : {R : Type 0} (k : Rules) (plain : R → List ℕ) (n n' : ℕ) (after : List (Option R)) → n' ≡ n → (store n after).forged ≡ replicate (n * n * n) None → forged_in k plain n' (store n' after) ≡ (λ _ _ _. None)
open_empties k plain n n' after n_is emptied = rw n_is (none_forged k plain n (store n after) (n * n * n) emptied)

module _ {R : Type 0} (k : Rules) (plain : R → List ℕ) (turn : Turn) (cells after : List (Option R)) (block : Block) where
  module _ (set : ℕ) (emptied : store block.n after ≡ record (store block.n cells) { forged = replicate (block.n * block.n * block.n) None }) where
    pub seat_step : (x : Setting) (m : Meaning) (seating : Seating) → turn ≡ Waiting block → IsSeated m block set seating
        → ◌≡◌ {A = machine.State × machine.Answer} (view k plain (Seated block seating) after, machine.Done) (step x m (view k plain turn cells) (machine.Seat set))
    seat_step x m seating at_turn fixed =
        let nothing = none_forged k plain block.n (record (store block.n cells) { forged = replicate (block.n * block.n * block.n) None }) (block.n * block.n * block.n) refl in
        rw (at_turn, emptied, fixed.accepted, fixed.set_is, fixed.classes, nothing) refl

  module _ (seating : Seating) (place : Place) (cell : Option R) (at_turn : turn ≡ Seated block seating)
      (accepted : forge_refusal (bare block) (bare_seating block seating) place.sender place.receiver place.column ≡ None) (roomy : needed (size_of turn) ≤ length cells)
      (put : store block.n after ≡ record (store block.n cells) { forged = set (store block.n cells).forged ((place.sender * block.n + place.receiver) * block.n + place.column) cell }) where
    one : forged_in k plain block.n (record (store block.n cells) { forged = set (store block.n cells).forged ((place.sender * block.n + place.receiver) * block.n + place.column) cell })
        ≡ (λ j i c. cond (nat_eq j place.sender && nat_eq i place.receiver && nat_eq c place.column) (shows k plain cell) (forged_in k plain block.n (store block.n cells) j i c))
    one =
        let room : needed block.n ≤ length cells = subst (λ t. needed (size_of t) ≤ length cells) at_turn roomy in
        let size : length (store block.n cells).forged ≡ block.n * block.n * block.n = length-take-le (block.n * block.n * block.n) cells (omega (arith, room)) in
        let sender_in : place.sender < block.n = grind (arith, nat_tests) in
        let receiver_in : place.receiver < block.n = grind (arith, nat_tests) in
        let column_in = column_fits (stage_of block.n block.round) block.n place.column place.sender sender_in (grind (arith, nat_tests)) in
        one_forged k plain block.n (store block.n cells) size place.sender place.receiver place.column cell sender_in receiver_in column_in

    pub forge_step : (x : Setting) (m : Meaning)
        → ◌≡◌ {A = machine.State × machine.Answer} (view k plain turn after, machine.Done) (step x m (view k plain turn cells) (machine.Forge place.sender place.receiver place.column (shows k plain cell)))
    forge_step x m = rw (at_turn, put, accepted, one) refl
