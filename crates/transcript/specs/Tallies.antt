-- What a tally holds of the transcript that was read. Assumes nothing.
use Rattle.std.specs.Prelude.{◌≡◌, map}
use Rattle.std.specs.Option.{option_map}
use Rattle.models.specs.declared.sets.Set.{Set}
use Rattle.protocol.specs.Transcripts.{Transcript, Opening, opening, sets, closes}
use Rattle.transcript.specs.Outcomes.{IsDecided}
use Rattle.transcript.specs.declared.tallies.Tally.{Tally}

-- a tally tells a transcript: the size of the block that was opened first, the closes, the sets and the decisions
pub record Tells (log : Transcript) (t : Tally) : Type 0 where
  pub block : t.block ≡ option_map (λ (o : Opening). o.n) (opening log)
  pub closed : t.closed ≡ closes log
  pub sets : map (λ (s : Set). s.0) t.sets.items ≡ sets log
  pub decided : IsDecided log t.decisions
