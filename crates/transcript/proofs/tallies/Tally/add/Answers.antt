use Rattle.std.proofs.Common.{arith}
use Rattle.std.proofs.lemmas.Grind.{common_steps}
use Rattle.transcript.proofs.OutcomeLogs.{tells_more, decided_still}
use Rattle.transcript.proofs.tallies.Tally.add.Goals as goal

pub returns-in_default-clause-tells : goal.returns-in_default-clause-tells
returns-in_default-clause-tells c = λ means log tells. tells_more log _ _ _ tells (grind arith) (grind arith) (grind (arith, common_steps)) (decided_still log _ _ (λ x adds. grind arith) tells.decided)

pub returns-in-Open-clause-tells : goal.returns-in-Open-clause-tells
returns-in-Open-clause-tells c = λ means log tells. tells_more log _ _ _ tells (grind arith) (grind arith) (grind (arith, common_steps)) (decided_still log _ _ (λ x adds. grind arith) tells.decided)

pub returns-in_ok-push-in-Seat-clause-tells : goal.returns-in_ok-push-in-Seat-clause-tells
returns-in_ok-push-in-Seat-clause-tells c = λ means log tells. tells_more log _ _ _ tells (grind arith) (grind arith) (grind (arith, common_steps)) (decided_still log _ _ (λ x adds. grind arith) tells.decided)

pub returns-in-Close-clause-tells : goal.returns-in-Close-clause-tells
returns-in-Close-clause-tells c = λ means log tells. tells_more log _ _ _ tells (grind arith) (grind arith) (grind (arith, common_steps)) (decided_still log _ _ (λ x adds. grind arith) tells.decided)

pub returns-in-Decided-Some-clause-tells : goal.returns-in-Decided-Some-clause-tells
returns-in-Decided-Some-clause-tells c = λ means log tells. tells_more log _ _ _ tells (grind arith) (grind arith) (grind (arith, common_steps)) (c.with-self.ensures log _ tells.decided (grind arith))

pub returns-in-Decision-clause-tells : goal.returns-in-Decision-clause-tells
returns-in-Decision-clause-tells c = λ means log tells. tells_more log _ _ _ tells (grind arith) (grind arith) (grind (arith, common_steps)) (decided_still log _ _ (λ x adds. grind arith) tells.decided)

pub returns-in-Decision-2-clause-tells : goal.returns-in-Decision-2-clause-tells
returns-in-Decision-2-clause-tells c = λ means log tells. tells_more log _ _ _ tells (grind arith) (grind arith) (grind (arith, common_steps)) (decided_still log _ _ (λ x adds. grind arith) tells.decided)

pub returns-in-Forge-clause-tells : goal.returns-in-Forge-clause-tells
returns-in-Forge-clause-tells c = λ means log tells. tells_more log _ _ _ tells (grind arith) (grind arith) (grind (arith, common_steps)) (decided_still log _ _ (λ x adds. grind arith) tells.decided)
