use Rattle.std.proofs.Common.{rules, ◌≡◌, ◌++◌, map, ap, ◌∙◌}
use Rattle.std.specs.Option.{option_to_list}
use Rattle.poll.specs.Polls.{shown, counted}
use Rattle.poll.proofs.Steps.{shown_at, standings_more}
use Rattle.poll.proofs.polls.counting.standings.Goals as goal
use Rattle.poll.proofs.polls.counting.standings.Goals.{in-Some+in_ok-push, in_default}

pub loop-i-preserved : goal.loop-i-preserved
loop-i-preserved c =
    let old = c.loop-i.found.items in
    let new = c.match-first_standing.found.items in
    let grown : new ≡ old ++ option_to_list c.first_standing.result = elim c.match-first_standing.branch [
      | in-Some+in_ok-push w ↦ search rules
      | in_default w ↦ search rules
    ] in
    let all = map shown c.args.cells.now in
    standings_more all old new c.first_standing.result c.loop-i.i grown (c.first_standing.ensures ∙ ap (map (counted all)) (shown_at c.args.cells.now c.loop-i.i)) c.loop-i.invariant
