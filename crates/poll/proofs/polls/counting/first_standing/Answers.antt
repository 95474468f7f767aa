use Rattle.std.proofs.Common.{◌≡◌, [], ◌∷◌, map, Some, sym, ap, ◌∙◌, arith}
use Rattle.std.proofs.lemmas.Bool.{cond-true, cond-false, eq-eqb, ne_eqb}
use Rattle.values.specs.Rules.{stands}
use Rattle.values.specs.Setpoints.{setpoint_rules, tenths_of}
use Rattle.values.specs.Cells.{holders_in, others_in}
use Rattle.values.proofs.Seen.{holders_list, others_list}
use Rattle.poll.specs.Polls.{shown, unseen, counted}
use Rattle.poll.proofs.polls.counting.first_standing.Goals as goal

pub returns-then-before-gt0 : goal.returns-then-before-gt0
returns-then-before-gt0 c =
    let earlier = map shown c.args.earlier.now in
    let v = stands setpoint_rules (c.in_ok-row.row ∷ []) in
    let before : c.tally-before.result.0 ≡ holders_in earlier v = c.tally-before.ensures.held ∙ holders_list setpoint_rules (λ r. r ∷ []) c.args.earlier.now v in
    let again : unseen earlier (Some v) ≡ [] = cond-false _ _ _ (ne_eqb _ 0 (λ h. let none = before ∙ h in omega arith)) in
    sym (ap (λ cell. map (counted (map shown c.args.cells.now)) (unseen earlier (shown cell))) c.in_ok-row.was ∙ ap (map (counted (map shown c.args.cells.now))) again)

pub returns : goal.returns
returns c =
    let cells = map shown c.args.cells.now in
    let earlier = map shown c.args.earlier.now in
    let v = stands setpoint_rules (c.in_ok-row.row ∷ []) in
    let before : c.tally-before.result.0 ≡ holders_in earlier v = c.tally-before.ensures.held ∙ holders_list setpoint_rules (λ r. r ∷ []) c.args.earlier.now v in
    let new : unseen earlier (Some v) ≡ v ∷ [] = cond-true _ _ _ (eq-eqb _ 0 (sym before ∙ omega arith)) in
    let value : tenths_of c.value.result ≡ v = c.value.ensures in
    let held : c.tally-holding.result.0 ≡ holders_in cells v = c.tally-holding.ensures.held ∙ holders_list setpoint_rules (λ r. r ∷ []) c.args.cells.now v in
    let otherwise : c.tally-holding.result.1 ≡ others_in cells v = c.tally-holding.ensures.otherwise ∙ others_list setpoint_rules (λ r. r ∷ []) c.args.cells.now v in
    (λ i. (value i, held i, otherwise i) ∷ []) ∙ ap (map (counted cells)) (sym new) ∙ sym (ap (λ cell. map (counted cells) (unseen earlier (shown cell))) c.in_ok-row.was)
