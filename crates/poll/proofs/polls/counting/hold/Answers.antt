use Rattle.std.proofs.Common.{◌≡◌, map, sym, ap, ◌∙◌, subst}
use Rattle.values.specs.Rules.{meant}
use Rattle.values.specs.Setpoints.{tenths_of}
use Rattle.poll.specs.Polls.{proposed, cells_of, sized, shown, standings_of, told, Once}
use Rattle.poll.proofs.Once.{once}
use Rattle.poll.proofs.polls.counting.hold.Goals as goal

pub returns : goal.returns
returns c =
    let all = cells_of (proposed c.args.input.now) in
    let read = c.in_ok-proposals.ensures in
    let cells : map shown c.in_ok-cells.cells.items ≡ all = c.in_ok-cells.ensures ∙ ap (λ ps. cells_of (map (meant tenths_of) ps)) c.deref.ensures.value ∙ ap cells_of read in
    let stand : map told c.in_ok-standings.standings.items ≡ standings_of all = c.in_ok-standings.ensures ∙ ap (λ cs. standings_of (map shown cs)) c.deref-2.ensures.value ∙ ap standings_of cells in
    record {
      size = ap sized (sym c.controllers.ensures) ∙ sym c.check_size.ensures ∙ c.in_ok-check_size.was;
      proposals = read;
      standings = stand;
      once = subst (Once all) (sym stand) (once all);
    }
