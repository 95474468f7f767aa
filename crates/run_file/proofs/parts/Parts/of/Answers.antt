use Rattle.std.proofs.Common.{rules, arith, ap, ◌∙◌, ◌+◌, ◌*◌, map, drop}
use Rattle.std.proofs.lemmas.List.{take_rest}
use Rattle.std.proofs.lemmas.Bool.Decides.{nat_tests}
use Rattle.run_file.specs.Files.{number_at, pieces}
use Rattle.run_file.proofs.parts.Parts.of.Goals as goal

pub returns-clause-parts : goal.returns-clause-parts
returns-clause-parts c =
    let file = c.args.file.now in
    let w = c.args.width in
    let h = c.args.header.now in
    let n = c.from-n.ensures in
    let r = c.from-rounds.ensures in
    let g = c.from-forgeries.ensures in
    record {
      laid = grind (arith, nat_tests);
      proposals_are = c.over.ensures.pieces ∙ ap (pieces w c.from-n.result) (take_rest file 16) ∙ ap (λ n. pieces w n (drop 16 file)) n;
      proposal_count = c.over.ensures.shape.1 ∙ n;
      initial_is = c.number_at.ensures ∙ ap (λ n. number_at file (16 + n * w)) n;
      sets_are = ap (map (λ two. number_at two 0)) (c.over-2.ensures.pieces ∙ ap (pieces 2 c.from-rounds.result) (take_rest file (16 + c.from-n.result * w + 2)) ∙ ap (λ r. pieces 2 r (drop (16 + c.from-n.result * w + 2) file)) r ∙ ap (λ n. pieces 2 h.rounds (drop (16 + n * w + 2) file)) n);
      set_count = c.over-2.ensures.shape.1 ∙ r;
      set_width = c.over-2.ensures.shape.0;
      lines_are = c.over-3.ensures.pieces ∙ ap (pieces (6 + w) c.from-forgeries.result) (take_rest file (16 + c.from-n.result * w + 2 * (c.from-rounds.result + 1))) ∙ ap (λ g. pieces (6 + w) g (drop (16 + c.from-n.result * w + 2 * (c.from-rounds.result + 1)) file)) g
          ∙ ap (λ r. pieces (6 + w) h.forgeries (drop (16 + c.from-n.result * w + 2 * (r + 1)) file)) r ∙ ap (λ n. pieces (6 + w) h.forgeries (drop (16 + n * w + 2 * (h.rounds + 1)) file)) n;
      line_width = c.over-3.ensures.shape.0;
      t_small = search rules;
      rounds_small = search rules;
    }
