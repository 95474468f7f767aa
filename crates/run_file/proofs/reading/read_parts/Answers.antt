use Rattle.std.proofs.Common.{rules, ◌≡◌, ◌∙◌, ap, subst, Some, None, Err, map, not}
use Rattle.values.specs.declared.refusals.Refusal.TheVariants.{Layout}
use Rattle.protocol.specs.Machine.{◌when◌, ◌then◌}
use Rattle.run_file.specs.Files.{laid_out, proposals, forgery_lines, proposals_refusal}
use Rattle.run_file.specs.Lines.{line, lines_refusal}
use Rattle.run_file.specs.Listings.{file_refusal}
use Rattle.run_file.specs.InCode.{IsParted}
use Rattle.run_file.proofs.reading.read_parts.Goals as goal

pub returns-in_err-parts : goal.returns-in_err-parts
returns-in_err-parts g c =
    let k = g.K.Kind.rules in
    let h = c.args.header.now in
    let bytes = c.args.file.now in
    let values = proposals_refusal k (proposals k.width h bytes) in
    let lines = lines_refusal k h.rounds 0 (map line (forgery_lines k.width h bytes)) in
    let why = c.in_err-parts.field-0.0 in
    let width : c.WIDTH.result ≡ k.width = c.WIDTH.ensures ∙ g.met.K.Kind.wide in
    let layout = subst (λ w. (Layout when not (laid_out w h bytes)) ≡ Some why) width c.in_err-parts.ensures.refused in
    let told : file_refusal k h bytes ≡ Some why = ap (λ first. first then values then lines) layout in
    let gone : c.from_residual.result ≡ Err why = search rules in
    rw gone told

pub returns-in_err-read_proposals : goal.returns-in_err-read_proposals
returns-in_err-read_proposals g c =
    let k = g.K.Kind.rules in
    let h = c.args.header.now in
    let bytes = c.args.file.now in
    let values = proposals_refusal k (proposals k.width h bytes) in
    let lines = lines_refusal k h.rounds 0 (map line (forgery_lines k.width h bytes)) in
    let why = c.in_err-read_proposals.field-0.0 in
    let width : c.WIDTH.result ≡ k.width = c.WIDTH.ensures ∙ g.met.K.Kind.wide in
    let layout = subst (λ w. (Layout when not (laid_out w h bytes)) ≡ None) width c.in_ok-parts.ensures.refused in
    let parted = subst (λ w. IsParted w h bytes c.in_ok-parts.parts) width c.in_ok-parts.ensures.parts in
    let value = subst (λ xs. proposals_refusal k xs ≡ Some why) parted.proposals_are c.in_err-read_proposals.ensures.refused in
    let told : file_refusal k h bytes ≡ Some why = ap (λ first. first then values then lines) layout ∙ ap (λ second. second then lines) value in
    let gone : c.from_residual-in_err-read_proposals.result ≡ Err why = search rules in
    rw gone told

pub returns-in_err-check_lines : goal.returns-in_err-check_lines
returns-in_err-check_lines g c =
    let k = g.K.Kind.rules in
    let h = c.args.header.now in
    let bytes = c.args.file.now in
    let values = proposals_refusal k (proposals k.width h bytes) in
    let lines = lines_refusal k h.rounds 0 (map line (forgery_lines k.width h bytes)) in
    let why = c.in_err-check_lines.field-0.0 in
    let width : c.WIDTH.result ≡ k.width = c.WIDTH.ensures ∙ g.met.K.Kind.wide in
    let layout = subst (λ w. (Layout when not (laid_out w h bytes)) ≡ None) width c.in_ok-parts.ensures.refused in
    let parted = subst (λ w. IsParted w h bytes c.in_ok-parts.parts) width c.in_ok-parts.ensures.parts in
    let value = subst (λ xs. proposals_refusal k xs ≡ None) parted.proposals_are c.in_ok-read_proposals.ensures.refused in
    let faulty = subst (λ xs. lines_refusal k h.rounds 0 (map line xs) ≡ Some why) parted.lines_are c.in_err-check_lines.ensures in
    let told : file_refusal k h bytes ≡ Some why = ap (λ first. first then values then lines) layout ∙ ap (λ second. second then lines) value ∙ faulty in
    let gone : c.from_residual-in_err-check_lines.result ≡ Err why = search rules in
    rw gone told

pub returns : goal.returns
returns g c =
    let k = g.K.Kind.rules in
    let h = c.args.header.now in
    let bytes = c.args.file.now in
    let values = proposals_refusal k (proposals k.width h bytes) in
    let lines = lines_refusal k h.rounds 0 (map line (forgery_lines k.width h bytes)) in
    let width : c.WIDTH.result ≡ k.width = c.WIDTH.ensures ∙ g.met.K.Kind.wide in
    let layout = subst (λ w. (Layout when not (laid_out w h bytes)) ≡ None) width c.in_ok-parts.ensures.refused in
    let parted = subst (λ w. IsParted w h bytes c.in_ok-parts.parts) width c.in_ok-parts.ensures.parts in
    let value = subst (λ xs. proposals_refusal k xs ≡ None) parted.proposals_are c.in_ok-read_proposals.ensures.refused in
    let fine = subst (λ xs. lines_refusal k h.rounds 0 (map line xs) ≡ None) parted.lines_are c.in_ok-check_lines.ensures in
    (ap (λ first. first then values then lines) layout ∙ ap (λ second. second then lines) value ∙ fine, parted, c.in_ok-read_proposals.ensures.read)
