use Rattle.std.proofs.Common.{rules, refl, ap, sym, subst, ◌≡◌, ◌∙◌, ℕ, suc, List, ◌∷◌, ◌+◌, ◌++◌, Err, arith}
use Rattle.std.specs.Prelude.{map}
use Rattle.values.specs.declared.kinds.Kind.{Ghosts}
use Rattle.models.specs.Laws.{Meaning}
use Rattle.run.specs.declared.run.Run.{Run}
use Rattle.run.specs.Runs.{setting, state, Keeps}
use Rattle.run.proofs.Chains.{keeps_all, keeps_more}
use Rattle.run_file.specs.declared.stops.Stop.{Stop}
use Rattle.run_file.specs.Files.{number_at}
use Rattle.run_file.specs.Lines as format
use Rattle.run_file.specs.Votes.{round_of, rounds_from, run_through}
use Rattle.run_file.specs.InCode.{lines_in, sets_in, Checked, Stops}
use Rattle.run_file.proofs.Voting.{rounds_done}
use Rattle.run_file.proofs.votes.perform_rounds.Goals as goal

-- a round of which a call is refused, in front of those that are left
rounds_stopped : {V R : Type 0} {kind : Ghosts V R} (m : Meaning) (a b : Run V R kind) (r set : ℕ) (sets all : List ℕ) (lines : List format.Line) (stop : Stop) → all ≡ set ∷ sets → Keeps a b → Stops m (round_of r set lines) b stop
    → run_through (setting a) m (state b) (rounds_from r all lines) ≡ Err stop
rounds_stopped m a b r set sets all lines stop is_all keeps did =
    rw is_all (subst (λ x. run_through x m (state b) (round_of r set lines ++ rounds_from (suc r) sets lines) ≡ Err stop) keeps.setting_stays (did (rounds_from (suc r) sets lines)))

pub loop-set-init : goal.loop-set-init
loop-set-init g c = record {
  set_width = c.requires.narrow;
  line_width = refl;
  count = omega arith;
  checked = c.requires.checked;
  performed = refl;
  keeps = keeps_all c.args.run.now;
}

pub returns-in_err-lines-clause-performed : goal.returns-in_err-lines-clause-performed
returns-in_err-lines-clause-performed g c =
    let m = g.M.Model.meaning c.args.model.now in
    let l = c.loop-set in
    let stop = c.in_err-lines.field-0.0 in
    let rest = sets_in c.in-Some.after in
    let next : sets_in l.sets ≡ c.number_at.result ∷ rest = ap (map (λ two. number_at two 0)) c.in-Some.ensures.pieces ∙ ap (λ set. set ∷ rest) (sym c.number_at.ensures) in
    let stops = l.invariant.performed ∙ rounds_stopped m c.args.run.now l.run l.round c.number_at.result rest (sets_in l.sets) (lines_in l.lines) stop next l.invariant.keeps c.in_err-lines.ensures.performed in
    let gone : c.from_residual.result ≡ Err stop = search rules in
    rw gone stops

pub returns-in_err-lines-clause-keeps : goal.returns-in_err-lines-clause-keeps
returns-in_err-lines-clause-keeps g c = keeps_more c.args.run.now c.loop-set.run c.perform_round.new.run c.loop-set.invariant.keeps c.perform_round.ensures.keeps

pub returns-clause-performed : goal.returns-clause-performed
returns-clause-performed g c =
    let l = c.loop-set in
    l.invariant.performed ∙ ap (λ pieces. run_through (setting c.args.run.now) (g.M.Model.meaning c.args.model.now) (state l.run) (rounds_from l.round (map (λ two. number_at two 0) pieces) (lines_in l.lines))) c.in_default.ensures.0

pub returns-clause-keeps : goal.returns-clause-keeps
returns-clause-keeps g c = c.loop-set.invariant.keeps

pub loop-set-preserved : goal.loop-set-preserved
loop-set-preserved g c =
    let l = c.loop-set in
    let did = c.in_ok-lines.ensures in
    let split = c.in-Some.ensures in
    let rest = sets_in c.in-Some.after in
    let next : sets_in l.sets ≡ c.number_at.result ∷ rest = ap (map (λ two. number_at two 0)) split.pieces ∙ ap (λ set. set ∷ rest) (sym c.number_at.ensures) in
    let goes = rounds_done (g.M.Model.meaning c.args.model.now) c.args.run.now l.run c.perform_round.new.run l.round (l.round + 1) c.number_at.result rest (sets_in l.sets) (lines_in l.lines) (lines_in c.in_ok-lines.lines)
    (omega arith) next l.invariant.keeps did.performed did.left.same in
    record {
      set_width = split.width ∙ l.invariant.set_width;
      line_width = did.left.width ∙ l.invariant.line_width;
      count = omega (arith, split.count, l.invariant.count);
      checked = subst (λ r. Checked g.K.Kind.rules c.args.rounds r (lines_in c.in_ok-lines.lines)) (omega arith) did.left.checked;
      performed = l.invariant.performed ∙ goes;
      keeps = keeps_more c.args.run.now l.run c.perform_round.new.run l.invariant.keeps c.perform_round.ensures.keeps;
    }
