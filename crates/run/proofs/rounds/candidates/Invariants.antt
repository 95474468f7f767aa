use Rattle.std.proofs.Common.{◌≡◌, suc, length}
use Rattle.values.specs.Cells.{winning}
use Rattle.run.specs.Hearing.{hears, IsWithin}
use Rattle.run.proofs.Filling.{Placed}
use Rattle.run.proofs.rounds.candidates.Given as goal

abbrev pub invariant-loop-k : goal.invariant-loop-k
invariant-loop-k g l =
    let n = l.fn.sent.n in
    (length l.places ≡ 16)
    × Placed (λ k place. place ≡ winning (suc l.fn.counts.l) n (λ j. hears l.fn.sent l.fn.receiver j k) n) l.places l.k
    × Placed (λ k place. IsWithin n place) l.places l.k
