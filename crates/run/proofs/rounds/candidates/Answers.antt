use Rattle.std.proofs.Common.{arith, ◌≡◌, suc, ◌∙◌, subst, length}
use Rattle.std.proofs.lemmas.List.{length-set}
use Rattle.values.specs.Cells.{seen, winning}
use Rattle.run.specs.Hearing.{hears, IsWithin}
use Rattle.run.proofs.Filling.{place_more, by_cells}
use Rattle.run.proofs.rounds.candidates.Goals as goal

pub loop-k-preserved : goal.loop-k-preserved
loop-k-preserved g c =
    let sent = c.args.sent.now in
    let n = sent.n in
    let l = c.loop-k in
    let column = c.hear_senders.new.cells in
    let size : length column ≡ n = omega arith in
    let shown = seen g.K.Kind.rules g.K.Kind.plain column in (
      length-set l.places l.k c.candidate.result ∙ l.invariant.0,
      place_more (λ k place. place ≡ winning (suc c.args.counts.l) n (λ j. hears sent c.args.receiver j k) n) l.places l.k c.candidate.result (omega arith)
          (by_cells (λ cells n. winning (suc c.args.counts.l) n cells n) c.candidate.result shown (λ j. hears sent c.args.receiver j l.k) (length column) n c.candidate.ensures.place c.hear_senders.ensures (omega arith)) l.invariant.1,
      place_more (λ k place. IsWithin n place) l.places l.k c.candidate.result (omega arith) (subst (λ m. IsWithin m c.candidate.result) size c.candidate.ensures.within) l.invariant.2,
    )
