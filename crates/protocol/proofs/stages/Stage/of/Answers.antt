use Rattle.std.proofs.Common.{arith}
use Rattle.std.proofs.lemmas.Bool.Decides.{nat_tests}
use Rattle.protocol.specs.Stages.{stage_of}
use Rattle.protocol.proofs.stages.Stage.of.Goals as goal

pub returns-then-round-n : goal.returns-then-round-n
unfolding stage_of
returns-then-round-n c = grind (arith, nat_tests)

pub returns-in-0 : goal.returns-in-0
unfolding stage_of
returns-in-0 c = grind (arith, nat_tests)

pub returns-in-1 : goal.returns-in-1
unfolding stage_of
returns-in-1 c = grind (arith, nat_tests)

pub returns-in_default : goal.returns-in_default
unfolding stage_of
returns-in_default c = grind (arith, nat_tests)
