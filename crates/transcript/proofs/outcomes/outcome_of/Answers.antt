use Rattle.std.proofs.Common.{◌≡◌, ℕ, suc, [], ◌∷◌, ◌++◌, List, length, take, sym, subst, arith}
use Rattle.std.proofs.lemmas.List.{length_push}
use Rattle.std.proofs.lemmas.Slice.Zip.{zip_turn, zip_end}
use Rattle.script.specs.Statements.{log_by}
use Rattle.script.specs.declared.figures.Figure.{Figure}
use Rattle.transcript.specs.Tallies.{Tells}
use Rattle.transcript.specs.Outcomes.{IsOutcome}
use Rattle.transcript.proofs.OutcomeLogs.{log_more, log_whole, agree_if_clean}
use Rattle.transcript.proofs.outcomes.outcome_of.Goals as goal

pub loop-line-preserved : goal.loop-line-preserved
loop-line-preserved c =
    let l = c.loop-line in
    let lines = c.args.lines.now in
    let answers = c.args.answers.now in
    let t = zip_turn lines answers l.yielded _ _ c.next.new.self _ (cc) (cc) l.yielded_by (c.in-Some.line, c.in-Some.answer) c.in-Some.is c.next.ensures.steps in
    let n : length (l.yielded ++ (c.in-Some.line, c.in-Some.answer) ∷ []) ≡ suc (length l.yielded) = omega (arith, length_push l.yielded (c.in-Some.line, c.in-Some.answer)) in (
      λ means. subst (λ k. Tells (log_by means (take k lines) (take k answers)) c.add.new.self) (sym n) (subst (λ log. Tells log c.add.new.self) (sym (log_more means lines answers (length l.yielded) c.in-Some.line.now c.in-Some.answer.now t.0 t.1 t.2 t.3)) (c.in_ok-add.ensures.tells means _ (l.invariant.0 means))),
      omega (arith, n, l.invariant.1, c.in_ok-add.ensures.closed),
    )

pub returns : goal.returns
returns c =
    let l = c.loop-line in
    let lines = c.args.lines.now in
    let answers = c.args.answers.now in
    let n = zip_end lines answers l.yielded _ _ c.next.new.self _ (cc) (cc) l.yielded_by c.in-None.is c.next.ensures.steps in
    let told : (means : Figure → List ℕ) → IsOutcome (log_by means lines answers) c.outcome.result = λ means. c.outcome.ensures _ (subst (λ log. Tells log l.tally) (log_whole means lines answers (length l.yielded) n) (l.invariant.0 means)) in
    record { told = told; agreed = λ means. agree_if_clean _ _ (told means) }
