use Rattle.std.proofs.Common.{arith, ◌+◌, sym, ◌∙◌, subst}
use Rattle.std.proofs.lemmas.Bool.{false≢true}
use Rattle.transcript.proofs.OutcomeSets.{CleanBelow, clean_more, clean_still, all_clean}
use Rattle.transcript.proofs.tallies.Tally.clean.Goals as goal
use Rattle.transcript.proofs.tallies.Tally.clean.Goals.{then-was_clean, else-was_clean}

pub loop-controller-preserved : goal.loop-controller-preserved
loop-controller-preserved c = λ log tells.
    let below = c.loop-controller.invariant log tells in
    let told = c.was_clean.ensures log tells in
    let l = c.loop-controller in
    elim c.if-was_clean.branch [
      | then-was_clean w ↦ subst (λ set. CleanBelow log set (l.controller + 1)) (sym w.clean-is) (clean_more log l.clean l.controller (omega arith) (told.0 w.if-was_clean.true) below)
      | else-was_clean w ↦ subst (λ set. CleanBelow log set (l.controller + 1)) (sym w.clean-is) (clean_still log l.clean l.controller (omega arith) (λ was. absurd (false≢true (sym w.if-was_clean.false ∙ told.1 was))) below)
    ]

pub returns : goal.returns
returns c = λ log tells. all_clean log c.loop-controller.clean c.loop-controller.controller (omega arith) (c.loop-controller.invariant log tells)
