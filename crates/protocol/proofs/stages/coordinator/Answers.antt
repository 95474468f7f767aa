use Rattle.std.proofs.Common.{rules}
use Rattle.protocol.specs.Stages.{coordinator_of}
use Rattle.protocol.proofs.stages.coordinator.Goals as goal

pub returns : goal.returns
unfolding coordinator_of
returns c = search rules
