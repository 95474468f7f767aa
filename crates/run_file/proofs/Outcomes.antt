-- What becomes of a file, by its parts.
use Rattle.std.proofs.Common.{◌≡◌, ℕ, refl, sym, ap, ◌∙◌, None, Some, Result, Err, List, length, drop, subst, ◌∷◌, map, not}
use Rattle.values.specs.Rules.{Rules}
use Rattle.models.specs.Laws.{Meaning}
use Rattle.protocol.specs.Machine.{State, Idle, needed, step, ◌then◌, ◌when◌}
use Rattle.run.specs.Promises.{block_size}
use Rattle.values.specs.declared.refusals.Refusal.{Refusal}
use Rattle.values.specs.declared.refusals.Refusal.TheVariants.{Layout}
use Rattle.run_file.specs.declared.headers.Header.{Header}
use Rattle.run_file.specs.declared.parts.Parts.{Parts}
use Rattle.run_file.specs.declared.stops.Stop.{Stop}
use Rattle.run_file.specs.Files.{laid_out, proposals, forgery_lines, proposals_refusal}
use Rattle.run_file.specs.Lines.{line, lines_refusal}
use Rattle.run_file.specs.Votes.{Asked, rounds_from, run_through}
use Rattle.run_file.specs.Listings.{stop, file_refusal, open_of, calls_of, setting_of, outcome, cells_used}
use Rattle.run_file.specs.InCode.{IsParted, Checked, sets_in, lines_in, opens}
use Rattle.run_file.proofs.Lining.{both_none}

module _ (k : Rules) (h : Header) (bytes : List ℕ) (p : Parts) (sound : file_refusal k h bytes ≡ None) (parted : IsParted k.width h bytes p) where
  pub lines_checked : Checked k h.rounds 0 (lines_in p.lines)
  lines_checked =
      let lines = lines_refusal k h.rounds 0 (map line (forgery_lines k.width h bytes)) in
      let values = proposals_refusal k (proposals k.width h bytes) in
      let rest = (both_none (Layout when not (laid_out k.width h bytes)) (values then lines) sound).1 in
      ap (λ xs. lines_refusal k h.rounds 0 (map line xs)) parted.lines_are ∙ (both_none values lines rest).1

  same_open : opens h p ≡ record { call = open_of k h bytes; round = None }
  same_open = rw (parted.proposals_are, parted.initial_is) refl

  same_calls : opens h p ∷ rounds_from 0 (sets_in p.sets) (lines_in p.lines) ≡ calls_of k h bytes
  same_calls =
      let sets = parted.sets_are in
      let lines = parted.lines_are in
      ap (λ first. first ∷ rounds_from 0 (sets_in p.sets) (lines_in p.lines)) same_open ∙ ap (λ rest. record { call = open_of k h bytes; round = None } ∷ rest) (rw (sets, lines) refl)

  module _ (m : Meaning) (cells : ℕ) where
    pub outcome_is : (r : Result State Stop) → run_through (setting_of k cells) m Idle (opens h p ∷ rounds_from 0 (sets_in p.sets) (lines_in p.lines)) ≡ r → outcome k m cells h bytes ≡ r
    unfolding outcome
    outcome_is r e = rw sound (sym (ap (run_through (setting_of k cells) m Idle) same_calls) ∙ e)

    used_is : cells_used k m cells h bytes ≡ needed (block_size (step (setting_of k cells) m Idle (opens h p).call).0)
    unfolding cells_used
    used_is = rw sound (ap (λ (a : Asked). needed (block_size (step (setting_of k cells) m Idle a.call).0)) (sym same_open))

  -- past the cells that it uses the store is as it was lent
  pub past_used : {X : Type 0} (m : Meaning) (start end cells : List X) → start ≡ cells
      → (let used = needed (block_size (step (record { cells = length start; fallback = k.fallback }) m Idle (opens h p).call).0) in drop used end ≡ drop used start)
      → drop (cells_used k m (length cells) h bytes) end ≡ drop (cells_used k m (length cells) h bytes) cells
  past_used m start end cells same past =
      let there = subst (λ xs. (let used = needed (block_size (step (record { cells = length xs; fallback = k.fallback }) m Idle (opens h p).call).0) in drop used end ≡ drop used xs)) same past in
      subst (λ used. drop used end ≡ drop used cells) (sym (used_is m (length cells))) there

-- a file that is refused before any call
pub refused_is : (k : Rules) (m : Meaning) (cells : ℕ) (h : Header) (bytes : List ℕ) (why : Refusal) → file_refusal k h bytes ≡ Some why → outcome k m cells h bytes ≡ Err (stop why)
unfolding outcome
refused_is k m cells h bytes why refused = rw refused refl
