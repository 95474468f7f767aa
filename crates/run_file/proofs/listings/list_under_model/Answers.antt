use Rattle.std.proofs.Common.{rules, ◌≡◌, ◌∙◌, ap, subst, Ok, Err, ◌∷◌, ◌++◌, length, drop, arith}
use Rattle.values.proofs.Adding.{puts_chain}
use Rattle.protocol.specs.Machine.{Idle}
use Rattle.run.specs.Runs.{setting, state}
use Rattle.run_file.specs.Texts.{first_line, controller_lines}
use Rattle.run_file.specs.Votes.{rounds_from, run_through}
use Rattle.run_file.specs.Listings.{stop, setting_of, cells_used, listing}
use Rattle.run_file.specs.InCode.{sets_in, lines_in, opens}
use Rattle.run_file.proofs.Listed.{puts_none}
use Rattle.run_file.proofs.Outcomes.{lines_checked, outcome_is, past_used, refused_is}
use Rattle.run_file.proofs.Shortness.{decision_sound}
use Rattle.run_file.proofs.listings.list_under_model.Goals as goal

pub perform-requires : goal.perform-requires
perform-requires g c =
    let sound = c.in_ok-parts.ensures in
    let parted = sound.1 in
    let few = parted.rounds_small in
    let lines = lines_checked g.K.Kind.rules c.args.header.now c.args.file.now c.in_ok-parts.parts sound.0 parted in
    (search rules, (c.new-run.ensures.idle, (parted.proposal_count, (sound.2, ((parted.set_width, omega (arith, parted.set_count, few)), (omega (arith, parted.line_width), lines))))))

pub returns-in_err-parts-clause-listed : goal.returns-in_err-parts-clause-listed
returns-in_err-parts-clause-listed g c =
    let k = g.K.Kind.rules in
    let m = g.M.Model.meaning c.args.model.now in
    let n = length c.args.cells.now in
    let h = c.args.header.now in
    let bytes = c.args.file.now in
    let why = c.in_err-parts.field-0.0 in
    let ends = refused_is k m n h bytes why c.in_err-parts.ensures in
    let gone : c.from_residual.result ≡ Err (stop why) = search rules in
    rw gone (ends, puts_none c.args.out.now)

pub returns-in_err-perform-clause-used : goal.returns-in_err-perform-clause-used
returns-in_err-perform-clause-used g c =
    let k = g.K.Kind.rules in
    let m = g.M.Model.meaning c.args.model.now in
    let n = length c.args.cells.now in
    let h = c.args.header.now in
    let bytes = c.args.file.now in
    let sound = c.in_ok-parts.ensures in
    let used = cells_used k m n h bytes in
    let past : drop used c.perform.new.run.cells.now ≡ drop used c.args.cells.now =
    past_used k h bytes c.in_ok-parts.parts sound.0 sound.1 m c.new-run.result.cells.now c.perform.new.run.cells.now c.args.cells.now c.new-run.ensures.cells c.perform.ensures.used in
    search rules

pub returns-in_err-perform-clause-listed : goal.returns-in_err-perform-clause-listed
returns-in_err-perform-clause-listed g c =
    let k = g.K.Kind.rules in
    let m = g.M.Model.meaning c.args.model.now in
    let n = length c.args.cells.now in
    let h = c.args.header.now in
    let bytes = c.args.file.now in
    let sound = c.in_ok-parts.ensures in
    let p = c.in_ok-parts.parts in
    let why = c.in_err-perform.field-0.0 in
    let begun : setting c.new-run.result ≡ setting_of k n = ap (λ cells. record { cells = length cells; fallback = k.fallback }) c.new-run.ensures.cells in
    let ended : run_through (setting_of k n) m Idle (opens h p ∷ rounds_from 0 (sets_in p.sets) (lines_in p.lines)) ≡ Err why =
    subst (λ x. run_through x m Idle (opens h p ∷ rounds_from 0 (sets_in p.sets) (lines_in p.lines)) ≡ Err why) begun c.in_err-perform.ensures.performed in
    let ends = outcome_is k h bytes p sound.0 sound.1 m n (Err why) ended in
    let gone : c.from_residual-in_err-perform.result ≡ Err why = search rules in
    rw gone (ends, puts_none c.args.out.now)

pub returns-clause-listed : goal.returns-clause-listed
unfolding listing
returns-clause-listed g c =
    let k = g.K.Kind.rules in
    let m = g.M.Model.meaning c.args.model.now in
    let n = length c.args.cells.now in
    let h = c.args.header.now in
    let bytes = c.args.file.now in
    let valid = c.in_ok-parts.ensures in
    let p = c.in_ok-parts.parts in
    let run = c.perform.new.run in
    let did = c.in_ok-perform.ensures in
    let begun : setting c.new-run.result ≡ setting_of k n = ap (λ cells. record { cells = length cells; fallback = k.fallback }) c.new-run.ensures.cells in
    let now : setting run ≡ setting_of k n = did.keeps.setting_stays ∙ begun in
    let ended : run_through (setting_of k n) m Idle (opens h p ∷ rounds_from 0 (sets_in p.sets) (lines_in p.lines)) ≡ Ok (state run) =
    subst (λ x. run_through x m Idle (opens h p ∷ rounds_from 0 (sets_in p.sets) (lines_in p.lines)) ≡ Ok (state run)) begun did.performed in
    record {
      left = state run;
      laid = valid.1.laid;
      ends = outcome_is k h bytes p valid.0 valid.1 m n (Ok (state run)) ended;
      puts = puts_chain (ap (λ x. first_line h ++ controller_lines x m (state run) h.n) now) c.write_first_line.ensures (c.write_controllers.ensures m);
      sound = decision_sound k g.K.Kind.plain g.met.K.Kind.falls (setting_of k n) m run.turn run.cells.now;
      small = (did.size, valid.1.t_small, valid.1.rounds_small);
    }

pub returns-clause-used : goal.returns-clause-used
returns-clause-used g c =
    let k = g.K.Kind.rules in
    let m = g.M.Model.meaning c.args.model.now in
    let n = length c.args.cells.now in
    let h = c.args.header.now in
    let bytes = c.args.file.now in
    let sound = c.in_ok-parts.ensures in
    let used = cells_used k m n h bytes in
    let past : drop used c.perform.new.run.cells.now ≡ drop used c.args.cells.now =
    past_used k h bytes c.in_ok-parts.parts sound.0 sound.1 m c.new-run.result.cells.now c.perform.new.run.cells.now c.args.cells.now c.new-run.ensures.cells c.perform.ensures.used in
    search rules
