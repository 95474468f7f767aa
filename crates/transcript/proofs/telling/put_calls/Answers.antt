use Rattle.std.proofs.Common.{◌≡◌, suc, ◌+◌, [], ◌∷◌, ◌++◌, None, length, take, sym, ap, ◌∙◌, subst, arith, append_assoc, string_bytes}
use Rattle.std.specs.Option.{unwrap_or}
use Rattle.std.proofs.lemmas.List.{length_push}
use Rattle.std.proofs.lemmas.Slice.Zip.{zip_turn, zip_end}
use Rattle.protocol.specs.Transcripts.{closes_in}
use Rattle.run.specs.Standing.{entry}
use Rattle.script.specs.Figures.{numbers_of}
use Rattle.script.specs.Statements.{log_by, written_call, replied}
use Rattle.transcript.specs.Told.{opened_first, TellsCall, TellsCalls}
use Rattle.transcript.proofs.OutcomeLogs.{log_more, log_whole}
use Rattle.transcript.proofs.TellingCalls.{opened_after, closed_after, opened_more, closed_more, tells_more, closes_once}
use Rattle.transcript.proofs.telling.put_calls.Goals as goal

pub loop-line-preserved : goal.loop-line-preserved
loop-line-preserved c =
    let l = c.loop-line in
    let lines = c.args.lines.now in
    let answers = c.args.answers.now in
    let t = zip_turn lines answers l.yielded _ _ c.next.new.self _ (cc) (cc) l.yielded_by (c.in-Some.line, c.in-Some.answer) c.in-Some.is c.next.ensures.steps in
    let k = length l.yielded in
    let n : length (l.yielded ++ (c.in-Some.line, c.in-Some.answer) ∷ []) ≡ suc k = omega (arith, length_push l.yielded (c.in-Some.line, c.in-Some.answer)) in
    let log = log_by numbers_of (take k lines) (take k answers) in
    let e = entry (written_call c.in-Some.line.now.statement) (replied c.in-Some.answer.now) in
    let grown : log_by numbers_of (take (length (l.yielded ++ (c.in-Some.line, c.in-Some.answer) ∷ [])) lines) (take (length (l.yielded ++ (c.in-Some.line, c.in-Some.answer) ∷ [])) answers) ≡ log ++ e ∷ [] =
    ap (λ m. log_by numbers_of (take m lines) (take m answers)) n ∙ log_more numbers_of lines answers k c.in-Some.line.now c.in-Some.answer.now t.0 t.1 t.2 t.3 in
    let so_far = l.invariant.0 in
    let put = c.in_ok-put_call.ensures in
    let told : TellsCall (unwrap_or (opened_after None log) 0) (closed_after 0 log) e put.0 =
    subst (λ o. TellsCall (unwrap_or o 0) (closed_after 0 log) e put.0) l.invariant.1 (subst (λ closed. TellsCall (unwrap_or l.progress.opened 0) closed e put.0) l.invariant.2 put.1) in
    let after = c.after-progress.ensures in (
      (
        so_far.0 ++ put.0,
        subst (λ log. TellsCalls None 0 log (so_far.0 ++ put.0)) (sym grown) (tells_more None 0 log e so_far.0 put.0 so_far.1 told),
        put.2 ∙ ap (λ text. text ++ put.0) so_far.2 ∙ append_assoc (string_bytes c.args.out.now) so_far.0 put.0,
      ),
      after.opened ∙ ap (λ o. opened_first o e) l.invariant.1 ∙ sym (opened_more None log e) ∙ ap (opened_after None) (sym grown),
      after.closed ∙ ap (λ closed. closed + closes_in e.call e.answer) l.invariant.2 ∙ sym (closed_more 0 log e) ∙ ap (closed_after 0) (sym grown),
      omega (arith, n, l.invariant.3, after.closed, closes_once e.call e.answer),
    )

pub returns : goal.returns
returns c =
    let l = c.loop-line in
    let lines = c.args.lines.now in
    let answers = c.args.answers.now in
    let n = zip_end lines answers l.yielded _ _ c.next.new.self _ (cc) (cc) l.yielded_by c.in-None.is c.next.ensures.steps in
    let so_far = l.invariant.0 in
    (so_far.0, subst (λ log. TellsCalls None 0 log so_far.0) (log_whole numbers_of lines answers (length l.yielded) n) so_far.1, so_far.2)
