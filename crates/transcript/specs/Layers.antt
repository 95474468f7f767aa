-- Any number of stamp layers over a model. Assumes nothing.
use Rattle.std.specs.Prelude.{ℕ, zero, suc}
use Rattle.std.proofs.Common.{ap}
use Rattle.std.proofs.Math.Dec.{lit≤}
use Rattle.models.specs.declared.classes.Counts.{Counts}
use Rattle.models.specs.Laws.{Meaning, Bounded, Capped}
use Rattle.models.specs.Stamps.{stamp, stamped}
use Rattle.models.specs.Standards.{standard}
use Rattle.transcript.specs.declared.layers.Layered.{Layered}

-- a model under so many layers of stamps
abbrev pub under_stamps : (layers : ℕ) → Meaning → Meaning
under_stamps zero m = m
under_stamps (suc layers) m = stamped (under_stamps layers m)

abbrev pub layered : Layered → Meaning
layered s = under_stamps s.layers (standard s.base)

-- What a model owes it owes under stamps too. The impl of `Layered` cites these, and so they stand here.

pub stay_bounded : (layers : ℕ) (m : Meaning) → Bounded m → Bounded (under_stamps layers m)
stay_bounded zero m below = below
stay_bounded (suc layers) m below = let b = stay_bounded layers m below in record { b_most = b.b_most; e_most = λ t. lit≤ tt; l_most = b.l_most }

pub stay_capped : (layers : ℕ) (m : Meaning) → Capped m → Capped (under_stamps layers m)
stay_capped zero m below = below
stay_capped (suc layers) m below = let c = stay_capped layers m below in record {
  allowed_at = c.allowed_at;
  class_at = λ before after t i above. ap stamp (c.class_at before after t i above);
  counts_at = λ t above. ap (λ (most : Counts). record { b = most.b; e = 0; l = most.l }) (c.counts_at t above);
}
