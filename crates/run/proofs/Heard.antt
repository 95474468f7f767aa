-- What is heard, place by place.
use Rattle.std.proofs.Common.{◌≡◌, ℕ, zero, suc, ◌*◌, ◌/◌, ◌%◌, ◌<◌, ◌≤◌, arith, refl, ap, List, None, ⊎_elim, Some, set, length, ◌∙◌, ◌+◌, Option, get_or}
use Rattle.std.proofs.lemmas.Bool.{cases_lt}
use Rattle.std.proofs.lemmas.Bool.Decides.{nat_tests}
use Rattle.std.proofs.lemmas.Nat.{div-mul-add, mod-mul-add}
use Rattle.values.specs.declared.kinds.Kind.{Ghosts}
use Rattle.values.specs.Rules.{Rules, means}
use Rattle.values.specs.Cells.{Held, passes, qualifies, qualifying, seen, winning}
use Rattle.values.proofs.Counts.{lowest_only}
use Rattle.models.specs.declared.classes.Counts.{Counts}
use Rattle.protocol.specs.declared.stages.Stage.{Stage}
use Rattle.protocol.specs.declared.stages.Stage.TheVariants.{Proposing, Collecting, Deciding, Maintaining}
use Rattle.protocol.specs.Stages.{stage_of, columns_of, coordinator_of}
use Rattle.protocol.specs.Rounds.{told, sends, heard, at_place, chosen, candidate, settled}
use Rattle.run.specs.declared.hearing.Sent.{Sent}
use Rattle.models.specs.declared.classes.Class.{Class}
use Rattle.models.specs.declared.classes.Class.TheVariants.{Honest, Silent, Uniform, Free}
use Rattle.run.proofs.Filling.{Filled, fill_more, filled_all}
use Rattle.run.specs.Stores.{Store}
use Rattle.run.specs.Hearing.{store_of, kept_by, hears}
use Rattle.run.specs.Views.{class_in, forged_in, kept_in}

-- every column of a message is that of a controller
pub column_fits : (stage : Stage) (n column i : ℕ) → i < n → column < columns_of stage n → column < n
column_fits Proposing n column i lt h = omega arith
column_fits Collecting n column i lt h = omega arith
column_fits Deciding n column i lt h = h
column_fits Maintaining n column i lt h = omega arith

-- a deciding round has a phase
pub deciding_phase : (n r : ℕ) → stage_of n r ≡ Deciding → r / 3 < n
unfolding stage_of
deciding_phase n r e = ⊎_elim (λ lt. omega arith) (λ ge. let m : Maintaining ≡ Deciding = grind (arith, nat_tests) in absurd (grind arith)) (cases_lt r (3 * n))

-- among empty cells nothing is chosen
chosen_none : (least most : ℕ) (cells : ℕ → Held) (n : ℕ) → ((j : ℕ) → cells j ≡ None) → chosen least most cells n ≡ None
unfolding chosen passes
chosen_none least most cells n empty =
    ap (at_place cells) (lowest_only (qualifying least most cells n) n None (λ i lt. ap (passes (qualifies least most cells n)) (empty i)))

module _ {R : Type 0} (k : Rules) (plain : R → List ℕ) (n : ℕ) (classes : List Class) (s : Store R) where
  -- from a sender that the block does not have nothing is heard
  pub nothing_heard : (stage : Stage) (receiver sender column : ℕ) → n ≤ sender → heard (class_in n classes) (λ j. sends stage (kept_in k plain n s j)) (forged_in k plain n s) receiver sender column ≡ None
  unfolding told
  nothing_heard Proposing receiver sender zero ge = grind (arith, nat_tests)
  nothing_heard Proposing receiver sender (suc column) ge = grind (arith, nat_tests)
  nothing_heard Collecting receiver sender zero ge = grind (arith, nat_tests)
  nothing_heard Collecting receiver sender (suc column) ge = grind (arith, nat_tests)
  nothing_heard Deciding receiver sender column ge = grind (arith, nat_tests)
  nothing_heard Maintaining receiver sender zero ge = grind (arith, nat_tests)
  nothing_heard Maintaining receiver sender (suc column) ge = grind (arith, nat_tests)

module _ {V R : Type 0} {kind : Ghosts V R} (s : Sent V R kind) where
  pub nobody : (receiver sender column : ℕ) → s.n ≤ sender → hears s receiver sender column ≡ None
  nobody receiver sender column ge = nothing_heard kind.rules kind.plain s.n s.classes (store_of s) s.stage receiver sender column ge

  -- nor of a column that a message of a deciding round does not have
  pub no_column : (receiver sender column : ℕ) → s.stage ≡ Deciding → s.n ≤ column → hears s receiver sender column ≡ None
  unfolding told
  no_column receiver sender column stage ge = go (class_in s.n s.classes sender)
    where
      go : (class : Class) → told class (sends s.stage (kept_by s sender) column) (forged_in kind.rules kind.plain s.n (store_of s) sender 0 column) (forged_in kind.rules kind.plain s.n (store_of s) sender receiver column) ≡ None
      go Honest = grind (arith, nat_tests)
      go Silent = refl
      go Uniform = grind (arith, nat_tests)
      go Free = grind (arith, nat_tests)

  pub no_candidate : (counts : Counts) (receiver column : ℕ) → s.stage ≡ Deciding → s.n ≤ column → candidate s.n counts (hears s receiver) column ≡ None
  no_candidate counts receiver column stage ge = chosen_none (suc counts.l) s.n (λ j. hears s receiver j column) s.n (λ j. no_column receiver j column stage ge)

-- the cells at the places of the candidates are the candidates
candidates_are : {V R : Type 0} {kind : Ghosts V R} (k : Rules) (plain : R → List ℕ) (s : Sent V R kind) (counts : Counts) (i : ℕ) (cells : List (Option R)) (places : List (Option ℕ)) → s.stage ≡ Deciding → length cells ≡ s.n
    → ((c : ℕ) → c < s.n → get_or places c None ≡ winning (suc counts.l) s.n (λ j. hears s i j c) s.n)
    → ((c : ℕ) → c < s.n → seen k plain cells c ≡ at_place (λ j. hears s i j c) (get_or places c None)) → seen k plain cells ≡ candidate s.n counts (hears s i)
unfolding chosen
candidates_are k plain s counts i cells places stage size placed heard_at =
    filled_all k plain (candidate s.n counts (hears s i)) cells s.n size (λ c ge. no_candidate s counts i c stage ge)
    (λ c lt. heard_at c lt ∙ ap (at_place (λ j. hears s i j c)) (placed c lt))

-- one more receiver settles
pub settles_more : {V R : Type 0} {kind : Ghosts V R} (k : Rules) (plain : R → List ℕ) (s : Sent V R kind) (counts : Counts) (phase : ℕ) (next : List (Option R)) (i : ℕ) (row : R) (cells : List (Option R)) (places : List (Option ℕ)) (columns : ℕ → Held) (coordinator : ℕ)
    → s.stage ≡ Deciding → i < length next → length cells ≡ s.n → means k plain row ≡ settled (length cells) counts k.fallback (seen k plain cells) columns
    → ((c : ℕ) → c < s.n → get_or places c None ≡ winning (suc counts.l) s.n (λ j. hears s i j c) s.n)
    → ((c : ℕ) → c < s.n → seen k plain cells c ≡ at_place (λ j. hears s i j c) (get_or places c None)) → columns ≡ (λ column. hears s i coordinator column) → coordinator ≡ coordinator_of phase
    → Filled k plain (λ i. Some (settled s.n counts k.fallback (candidate s.n counts (hears s i)) (hears s i (coordinator_of phase)))) next i
    → Filled k plain (λ i. Some (settled s.n counts k.fallback (candidate s.n counts (hears s i)) (hears s i (coordinator_of phase)))) (set next i (Some row)) (i + 1)
settles_more k plain s counts phase next i row cells places columns coordinator stage lt size is placed heard_at columns_are coordinator_is filled =
    fill_more k plain (λ i. Some (settled s.n counts k.fallback (candidate s.n counts (hears s i)) (hears s i (coordinator_of phase)))) next i (Some row) lt (ap {B = Held} Some made) filled
  where
    made : means k plain row ≡ settled s.n counts k.fallback (candidate s.n counts (hears s i)) (hears s i (coordinator_of phase))
    made = is ∙ ap (λ n. settled n counts k.fallback (seen k plain cells) columns) size ∙ ap (λ cells. settled s.n counts k.fallback cells columns) (candidates_are k plain s counts i cells places stage size placed heard_at)
        ∙ ap (settled s.n counts k.fallback (candidate s.n counts (hears s i))) (columns_are ∙ ap (hears s i) coordinator_is)

-- a receiver's row lies at its place among all controllers' rows
pub noted : {V R : Type 0} {kind : Ghosts V R} (s : Sent V R kind) (cell : Held) (i j : ℕ) → j < s.n → cell ≡ hears s ((i * s.n + j) / s.n) ((i * s.n + j) % s.n) 0 → cell ≡ hears s i j 0
noted s cell i j lt e = e ∙ ap (λ row. hears s row ((i * s.n + j) % s.n) 0) (div-mul-add i s.n j lt) ∙ ap (λ column. hears s i column 0) (mod-mul-add i s.n j lt)
