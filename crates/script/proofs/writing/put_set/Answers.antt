use Rattle.std.proofs.Common.{◌==◌, ◌∷◌, ◌++◌, length, rules, sym, ap, ◌∙◌, string_bytes}
use Rattle.script.proofs.Setting.{joined, no_members, with_member, not_first, without_member}
use Rattle.script.proofs.writing.put_set.Goals as goal
use Rattle.script.proofs.writing.put_set.Goals.{then-holds+in_ok-put_member, else-holds}

pub loop-controller-init : goal.loop-controller-init
loop-controller-init c = let none = no_members c.args.set.0 in search (rules, none)

pub loop-controller-preserved : goal.loop-controller-preserved
loop-controller-preserved c =
    let set = c.args.set.0 in
    let n = c.loop-controller.controller in
    elim c.if-holds.branch [
      | then-holds+in_ok-put_member w ↦
          let held = sym c.holds.ensures ∙ w.if-holds.true in (
            w.first-is ∙ not_first set n held,
            ap string_bytes w.out-is ∙ with_member set n (string_bytes c.args.out.now) (string_bytes c.loop-controller.out) (string_bytes w.put_member.new.out) c.loop-controller.first held c.loop-controller.invariant.0 c.loop-controller.invariant.1 w.in_ok-put_member.ensures,
          )
      | else-holds w ↦
          let same = without_member set n (sym c.holds.ensures ∙ w.if-holds.false) in (
            w.first-is ∙ c.loop-controller.invariant.0 ∙ ap (λ ms. length ms == 0) (sym same),
            ap string_bytes w.out-is ∙ c.loop-controller.invariant.1 ∙ ap (λ ms. string_bytes c.args.out.now ++ (123 ∷ joined ms)) (sym same),
          )
    ]
