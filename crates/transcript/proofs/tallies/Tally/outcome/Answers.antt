use Rattle.transcript.proofs.tallies.Tally.outcome.Goals as goal

pub returns : goal.returns
returns c = λ log tells. record { closed = tells.closed; clean = c.clean.ensures log tells; decided = tells.decided }
