use Rattle.std.proofs.Common.{rules, ◌≡◌, ◌<◌, ◌∙◌, sym, ap, subst, Err, drop}
use Rattle.protocol.specs.Machine.{Idle, needed}
use Rattle.run.specs.Turns.{size_of}
use Rattle.run.specs.Runs.{setting}
use Rattle.run.specs.Promises.{block_size}
use Rattle.run.proofs.Sizes.{size_is}
use Rattle.run_file.specs.Votes.{rounds_from, run_through}
use Rattle.run_file.specs.InCode.{calls_in, sets_in, lines_in}
use Rattle.run_file.proofs.Voting.{past_block}
use Rattle.run_file.proofs.votes.perform.Goals as goal

pub returns-in_err-open_block-clause-performed : goal.returns-in_err-open_block-clause-performed
returns-in_err-open_block-clause-performed g c =
    let p = c.args.parts.now in
    let m = g.M.Model.meaning c.args.model.now in
    let stop = c.in_err-open_block.field-0.0 in
    let stops : run_through (setting c.args.run.now) m Idle (calls_in c.args.header.now p) ≡ Err stop =
    subst (λ s. run_through (setting c.args.run.now) m s (calls_in c.args.header.now p) ≡ Err stop) c.requires.idle (c.in_err-open_block.ensures.opened (rounds_from 0 (sets_in p.sets) (lines_in p.lines))) in
    let gone : c.from_residual.result ≡ Err stop = search rules in
    rw gone stops

pub returns-clause-used : goal.returns-clause-used
returns-clause-used g c =
    let mid = c.open_block.new.run in
    let end = c.perform_rounds.new.run in
    let block = sym (ap block_size c.open_block.ensures.left) ∙ size_is mid in
    let size = c.in_ok-open_block.ensures.size in
    let some : 0 < size_of mid.turn = subst (λ k. 0 < k) (sym size.0) size.1 in
    subst (λ n. drop (needed n) end.cells.now ≡ drop (needed n) c.args.run.now.cells.now) (sym block) (past_block c.args.run.now mid end c.open_block.ensures.keeps c.perform_rounds.ensures.keeps some)
