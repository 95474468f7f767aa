use Rattle.std.proofs.Common.{◌≡◌, refl, subst, ap, ◌+◌, ◌++◌, ◌∷◌, [], decimal, append_assoc, arith}
use Rattle.values.specs.Added.{Puts}
use Rattle.values.proofs.Adding.{puts_chain}
use Rattle.protocol.specs.Machine.{Decision}
use Rattle.run.specs.Calls.{said_cell}
use Rattle.run.specs.Runs.{setting, state, Performs}
use Rattle.run_file.specs.Texts.{shown, controller_line, controller_lines}
use Rattle.run_file.proofs.Listed.{lines_more}
use Rattle.run_file.proofs.texts.write_controllers.Goals as goal

pub loop-controller-preserved : goal.loop-controller-preserved
loop-controller-preserved g c m =
    let l = c.loop-controller in
    let i = l.controller in
    let run = c.args.run.now in
    let answer = said_cell g.K.Kind.rules g.K.Kind.plain c.decision.result in
    let performed : Performs m (Decision i) answer run run = subst (λ j. Performs m (Decision j) answer run run) c.into-in-loop-controller.ensures (c.decision.ensures.performed m) in
    let line : Puts l.out (controller_line i answer) c.put_byte-in-loop-controller.new.self =
    puts_chain refl (puts_chain (append_assoc (decimal i) (32 ∷ []) (shown answer)) (puts_chain (ap (λ n. decimal n ++ (32 ∷ [])) c.into.ensures) c.put_decimal.ensures c.put_byte.ensures) c.write_decision.ensures) c.put_byte-in-loop-controller.ensures in
    puts_chain (lines_more m run i (i + 1) answer (omega arith) performed) (l.invariant m) line

pub returns : goal.returns
returns g c m =
    let all : c.loop-controller.controller ≡ c.args.n = omega arith in
    subst (λ n. Puts c.args.out.now (controller_lines (setting c.args.run.now) m (state c.args.run.now) n) c.loop-controller.out) all (c.loop-controller.invariant m)
