-- The worked votes, by computing them.
use Rattle.std.proofs.Common.{refl}
use Rattle.values.specs.Counting.{count, lowest}
use Rattle.values.specs.Cells.{holds, differs, passes}
use Rattle.models.specs.Sets.{members}
use Rattle.protocol.specs.Stages.{stage_of, coordinator_of}
use Rattle.protocol.specs.Rounds.{told, chosen, make}
use Rattle.protocol.specs.Votes.{WorkedVotes}
use Rattle.protocol.specs.FurtherVotes.{FurtherVotes}

pub worked : WorkedVotes
unfolding count lowest holds differs passes members stage_of coordinator_of told chosen make
worked = (refl, (refl, (refl, (refl, (refl, (refl, ((refl, refl), ((refl, refl), ((refl, refl), (refl, (refl, (refl, (refl, (refl, (refl, (refl, (refl, (refl, (refl, (refl, (refl, (refl, (refl, (refl, tt))))))))))))))))))))))))

pub further : FurtherVotes
unfolding count lowest holds differs passes members stage_of coordinator_of told chosen make
further = (refl, (refl, (refl, (refl, (refl, (refl, (refl, (refl, (refl, (refl, ((refl, refl, refl), ((refl, refl, refl), ((refl, refl, refl), ((refl, refl, refl), ((refl, refl, refl), ((refl, refl, refl), ((refl, refl, refl), ((refl, refl, refl), ((refl, refl), tt)))))))))))))))))))
