-- The published rounds are the round under their counts, and so are closes of blocks with the counts of their models.
use Rattle.std.proofs.Common.{◌≡◌, ℕ, ◌+◌, ◌-◌, ◌*◌, ◌<◌, ◌≤◌, ◌↔◌, min, List, Some, None, is_none, inl, inr, refl, sym, ap, ◌∙◌, subst, mod-eq_of_lt, arith}
use Rattle.values.specs.Cells.{Held, holds}
use Rattle.models.specs.declared.classes.Counts.{Counts}
use Rattle.models.specs.declared.standards.Standard.TheVariants.{Aware, Unaware, Carried}
use Rattle.models.specs.Laws.{Meaning}
use Rattle.models.specs.Standards.{standard}
use Rattle.models.specs.Stamps.{stamped}
use Rattle.protocol.specs.Rounds.{Memory}
use Rattle.protocol.specs.Publications.{
  Algorithm,
  #,
  #⊥,
  IfAny,
  IfAnyElse,
  Sending,
  SendValue,
  Decide1,
  Algorithm1,
  Proposing1,
  Collecting1,
  Deciding1,
  LastDeciding1,
  Maintaining1,
  Propose2,
  Propose3,
  Decide2,
  MBA_TMC,
  Proposing2,
  Collecting2,
  Deciding2,
  LastDeciding2,
  Maintaining2,
  Algorithm2,
  Algorithm3,
}
use Rattle.protocol.specs.AnyCounts.{#≢, process1, process2, Decides, AnyRound, Proposes, Collects, Settles, SettlesLast, Maintains, IsRoundUnder, PublishedRounds}
use Rattle.protocol.specs.Machine.{closed}
use Rattle.protocol.specs.Compared.{sending, hearing, Makes, Runs, RunsAlgorithm1, RunsAlgorithm2, RunsAlgorithm3}
use Rattle.protocol.proofs.Counting.{count_same}
use Rattle.protocol.proofs.Choosing.{cells_part}
use Rattle.protocol.proofs.AnyRounds.{runs_any_round}

-- conditions that say the same of each value leave the same choice
if_any : (P Q : List ℕ → Type 0) → ((w : List ℕ) → P w ↔ Q w) → (c : Held) → IfAny P c ↔ IfAny Q c
if_any P Q same None = (λ none w q. none w ((same w).1 q), λ none w p. none w ((same w).0 p))
if_any P Q same (Some w) = same w

if_else : (P P' Q Q' : List ℕ → Type 0) → ((w : List ℕ) → P w ↔ P' w) → ((w : List ℕ) → Q w → Q' w) → (w : List ℕ) → IfAnyElse P Q w → IfAnyElse P' Q' w
if_else P P' Q Q' same next w (inl p) = inl ((same w).0 p)
if_else P P' Q Q' same next w (inr q) = inr (λ u p. q.0 u ((same u).1 p), next w q.1)

-- tuples that are equal place by place hold each value equally often
held_same : (n : ℕ) (X Y : ℕ → Held) → ((j : ℕ) → j < n → X j ≡ Y j) → (w : List ℕ) → # n w X ≡ # n w Y
held_same n X Y same w = count_same (λ j. holds w (X j)) (λ j. holds w (Y j)) n (λ j lt. ap (holds w) (same j lt))

-- rows that are equal place by place: what was received, and what was noted down of it
module _ (n : ℕ) (X Y : ℕ → ℕ → Held) (same : (j k : ℕ) → j < n → k < n → X j k ≡ Y j k) where
  columns : (l : ℕ) (cand : ℕ → Held) → ((k : ℕ) → k < n → IfAny (λ u. l < # n u (λ j. X j k)) (cand k)) → (k : ℕ) → k < n → IfAny (λ u. l < # n u (λ j. Y j k)) (cand k)
  columns l cand each k k_in =
      (if_any _ _ (λ u. let e = held_same n (λ j. X j k) (λ j. Y j k) (λ j j_in. same j k j_in k_in) u in (λ h. omega arith, λ h. omega arith)) (cand k)).0 (each k k_in)

  -- with the same bounds, and the row of the same controller
  settle : {a a' i j : ℕ} (l : ℕ) (fallback : List ℕ) (cand : ℕ → Held) → a ≡ a' → i ≡ j → j < n → (w : List ℕ)
      → IfAnyElse (λ u. a < # n u cand) (IfAnyElse (λ u. l < # n u (X i)) (λ u. u ≡ fallback)) w
      → IfAnyElse (λ u. a' < # n u cand) (IfAnyElse (λ u. l < # n u (Y j)) (λ u. u ≡ fallback)) w
  settle {i = i} {j = j} l fallback cand e f j_in = if_else _ _ _ _ (λ u. (λ h. omega arith, λ h. omega arith)) (if_else _ _ _ _ row (λ _ is. is))
    where
      row : (u : List ℕ) → (l < # n u (X i)) ↔ (l < # n u (Y j))
      row u = let g = ap (λ k. # n u (X k)) f ∙ held_same n (X j) (Y j) (λ k k_in. same j k j_in k_in) u in (λ h. omega arith, λ h. omega arith)

module _ (n t r : ℕ) (zero_value : List ℕ) (p : Sending) (before after : Memory) (sent received : ℕ → ℕ → Held) where
  abbrev values : ℕ → Held
  values j = received j 0

  -- a value that n - k hold has at most k others, so that is no further condition
  enough : (k : ℕ) → k ≤ n → (noted : ℕ → Held) → ((j : ℕ) → j < n → noted j ≡ values j) → (w : List ℕ)
      → n - k ≤ # n w noted ↔ (n - k ≤ # n w values) × (#≢ n w values ≤ k)
  enough k k_in noted same w = let e = held_same n noted values same w in (λ h. (omega arith, omega (arith, cells_part values n w)), λ h. omega (arith, h.0))

  -- at most t hold another value where n - t hold this one or nothing, and only there
  nearly : t ≤ n → (noted : ℕ → Held) → ((j : ℕ) → j < n → noted j ≡ values j) → (w : List ℕ)
      → (n - 2 * t ≤ # n w noted) × (n - t ≤ # n w noted + #⊥ n noted) ↔ (n - 2 * t ≤ # n w values) × (#≢ n w values ≤ t)
  nearly t_in noted same w =
      let e = held_same n noted values same w in
      let f = count_same (λ j. is_none (noted j)) (λ j. is_none (values j)) n (λ j lt. ap {A = Held} is_none (same j lt)) in
      let parts = cells_part values n w in (λ h. (omega (arith, h.0), omega (arith, h.1)), λ h. (omega (arith, h.0), omega (arith, h.1)))

  -- under some counts
  abbrev Round : Counts → Type 0
  Round most = AnyRound n most r zero_value p before sent received after

  module _ (t_in : 2 * t ≤ n) where
    abbrev counts1 : Counts
    counts1 = record { b = 2 * t; e = t; l = 2 * t }

    abbrev Published1 : Type 0
    Published1 = Algorithm1 n t r zero_value p (process1 before) sent received (process1 after)

    decide1 : (s : ℕ) → s < n → (w : List ℕ) → Decides n counts1 s zero_value p before.row sent received w → Decide1 n t s zero_value p before.row sent received w
    decide1 s s_in w d = record {
      EV = received;
      RV = d.candidates;
      line_39 = d.sends;
      line_41 = λ _ _ _ _. refl;
      line_44 = d.candidate;
      lines_45_to_49 =
          settle n received received (λ _ _ _ _. refl) (2 * t) zero_value d.candidates (omega arith) (sym (mod-eq_of_lt s_in)) (omega arith) w d.settles;
    }

    decides1 : (s : ℕ) → s < n → (w : List ℕ) → Decide1 n t s zero_value p before.row sent received w → Decides n counts1 s zero_value p before.row sent received w
    decides1 s s_in w d = record {
      candidates = d.RV;
      sends = d.line_39;
      candidate = columns n d.EV received d.line_41 (2 * t) d.RV d.line_44;
      settles = settle n d.EV received d.line_41 (2 * t) zero_value d.RV (omega arith) (mod-eq_of_lt s_in) s_in w d.lines_45_to_49;
    }

    to1 : Round counts1 → Published1
    to1 (Proposes s s_in r_is send votes row none) = Proposing1 s s_in r_is
        (record { PV = values; line_26 = send; line_28 = λ _ _. refl; line_29 = (if_any _ _ (enough (2 * t) t_in values (λ _ _. refl)) after.v).1 votes }) row none
    to1 (Collects s s_in r_is send row v none) = Collecting1 s s_in r_is (record { line_33 = send; line_35 = row }) v none
    to1 (Settles s s_in r_is w d v row none) = Deciding1 s s_in r_is w (decide1 s (omega arith) w d) v row none
    to1 (SettlesLast s s_is r_is w d v row last) = LastDeciding1 s s_is r_is w (decide1 s (omega arith) w d) v row last
    to1 (Maintains late send votes v row) = Maintaining1 late send votes v row

    from1 : Published1 → Round counts1
    from1 (Proposing1 s s_in r_is q row none) = Proposes s s_in r_is q.line_26 ((if_any _ _ (enough (2 * t) t_in q.PV q.line_28) after.v).0 q.line_29) row none
    from1 (Collecting1 s s_in r_is q v none) = Collects s s_in r_is q.line_33 q.line_35 v none
    from1 (Deciding1 s s_in r_is w d v row none) = Settles s s_in r_is w (decides1 s (omega arith) w d) v row none
    from1 (LastDeciding1 s s_is r_is w d v row last) = SettlesLast s s_is r_is w (decides1 s (omega arith) w d) v row last
    from1 (Maintaining1 late send votes v row) = Maintains late send votes v row

  -- Algorithms 2 and 3, by their proposing round
  module _ (b : ℕ) (Propose : Sending → Held → (ℕ → ℕ → Held) → (ℕ → ℕ → Held) → Held → Type 0)
      (proposes : Propose p before.v sent received after.v ↔ SendValue p before.v sent × IfAny (λ w. (n - b ≤ # n w values) × (#≢ n w values ≤ t)) after.v) where
    abbrev counts2 : Counts
    counts2 = record { b = b; e = 0; l = t }

    abbrev Published2 : Type 0
    Published2 = MBA_TMC Propose (n - b) n t r zero_value p (process2 before) sent received (process2 after)

    decide2 : (s : ℕ) → s < n → (w : List ℕ) → Decides n counts2 s zero_value p before.row sent received w → Decide2 n t s zero_value p before.row sent received w
    decide2 s s_in w d = record {
      Echo = received;
      Cand = d.candidates;
      line_12 = d.sends;
      line_14 = λ _ _ _ _. refl;
      line_17 = d.candidate;
      lines_18_to_23 = settle n received received (λ _ _ _ _. refl) t zero_value d.candidates (omega arith) refl s_in w d.settles;
    }

    decides2 : (s : ℕ) → s < n → (w : List ℕ) → Decide2 n t s zero_value p before.row sent received w → Decides n counts2 s zero_value p before.row sent received w
    decides2 s s_in w d = record {
      candidates = d.Cand;
      sends = d.line_12;
      candidate = columns n d.Echo received d.line_14 t d.Cand d.line_17;
      settles = settle n d.Echo received d.line_14 t zero_value d.Cand (omega arith) refl s_in w d.lines_18_to_23;
    }

    to2 : Round counts2 → Published2
    to2 (Proposes s s_in r_is send votes row none) = Proposing2 s s_in r_is (proposes.1 (send, votes)) row none
    to2 (Collects s s_in r_is send row v none) = Collecting2 s s_in r_is send row v none
    to2 (Settles s s_in r_is w d v row none) = Deciding2 s s_in r_is w (decide2 s (omega arith) w d) v row none
    to2 (SettlesLast s s_is r_is w d v row last) = LastDeciding2 s s_is r_is w (decide2 s (omega arith) w d) v row last
    to2 (Maintains late send votes v row) = Maintaining2 late send votes v row

    from2 : Published2 → Round counts2
    from2 (Proposing2 s s_in r_is q row none) = let q = proposes.0 q in Proposes s s_in r_is q.0 q.1 row none
    from2 (Collecting2 s s_in r_is send row v none) = Collects s s_in r_is send row v none
    from2 (Deciding2 s s_in r_is w d v row none) = Settles s s_in r_is w (decides2 s (omega arith) w d) v row none
    from2 (LastDeciding2 s s_is r_is w d v row last) = SettlesLast s s_is r_is w (decides2 s (omega arith) w d) v row last
    from2 (Maintaining2 late send votes v row) = Maintains late send votes v row

  proposes2 : t ≤ n → Propose2 n t p before.v sent received after.v ↔ SendValue p before.v sent × IfAny (λ w. (n - 2 * t ≤ # n w values) × (#≢ n w values ≤ t)) after.v
  proposes2 t_in = (
    λ q. (q.line_4, (if_any _ _ (nearly t_in q.Prop q.line_6) after.v).0 q.line_7),
    λ q. record { Prop = values; line_4 = q.0; line_6 = λ _ _. refl; line_7 = (if_any _ _ (nearly t_in values (λ _ _. refl)) after.v).1 q.1 },
  )

  proposes3 : t ≤ n → Propose3 n t p before.v sent received after.v ↔ SendValue p before.v sent × IfAny (λ w. (n - t ≤ # n w values) × (#≢ n w values ≤ t)) after.v
  proposes3 t_in = (
    λ q. (q.line_4, (if_any _ _ (enough t t_in q.Prop q.line_6) after.v).0 q.line_7),
    λ q. record { Prop = values; line_4 = q.0; line_6 = λ _ _. refl; line_7 = (if_any _ _ (enough t t_in values (λ _ _. refl)) after.v).1 q.1 },
  )

pub published_rounds : PublishedRounds
published_rounds = record {
  algorithm1 = λ n t r zero_value p before after sent received big.
      let t_in : 2 * t ≤ n = omega arith in (to1 n t r zero_value p before after sent received t_in, from1 n t r zero_value p before after sent received t_in);
  algorithm2 = λ n t r zero_value p before after sent received big.
      let same = proposes2 n t r zero_value p before after sent received (omega arith) in
      (to2 n t r zero_value p before after sent received (2 * t) (Propose2 n t) same, from2 n t r zero_value p before after sent received (2 * t) (Propose2 n t) same);
  algorithm3 = λ n t r zero_value p before after sent received big.
      let same = proposes3 n t r zero_value p before after sent received (omega arith) in
      (to2 n t r zero_value p before after sent received t (Propose3 n t) same, from2 n t r zero_value p before after sent received t (Propose3 n t) same);
}

-- a block has at most 16 controllers, so its t is below 16, and its model's counts are those of the algorithm
by_counts : {P : Type 0} (m : Meaning) (counts : ℕ → Counts) (process : Memory → P)
    → (algorithm : Algorithm P)
    → ((t : ℕ) → min t 15 ≡ t → m.counts t ≡ counts t) → IsRoundUnder counts process algorithm → Runs m process algorithm
by_counts m counts process algorithm same is x b s z i i_in out =
    (is b.n b.t b.round x.fallback (sending (s.class i)) (b.memory i) ((closed x b s).memory i) (λ receiver. hearing x b s receiver i) (hearing x b s i) (big (counts b.t) counts_are)).0
    (subst (λ most. Makes (λ own. own) (λ n t. AnyRound n most) x b s (closed x b s)) (z.counts ∙ counts_are) (runs_any_round x b s (big b.counts (sym z.counts))) i i_in out)
  where
    counts_are : m.counts b.t ≡ counts b.t
    counts_are = same b.t (omega (arith, z.faults, z.size))

    big : (most : Counts) → m.counts b.t ≡ most → most.b + most.e + most.l < b.n
    big most e = subst (λ (c : Counts). c.b + c.e + c.l < b.n) e z.resilient

pub runs_algorithm_1 : RunsAlgorithm1
runs_algorithm_1 = by_counts (standard Unaware) (λ t. record { b = 2 * t; e = t; l = 2 * t }) process1 Algorithm1 (λ t e. let once : 1 * min t 15 ≡ t = omega arith in cc) published_rounds.algorithm1

pub runs_algorithm_2 : RunsAlgorithm2
runs_algorithm_2 = by_counts (stamped (standard Aware)) (λ t. record { b = 2 * t; e = 0; l = t }) process2 Algorithm2 (λ t e. let once : 1 * min t 15 ≡ t = omega arith in cc) published_rounds.algorithm2

pub runs_algorithm_3 : RunsAlgorithm3
runs_algorithm_3 = by_counts (stamped (standard Carried)) (λ t. record { b = t; e = 0; l = t }) process2 Algorithm3 (λ t e. let once : 1 * min t 15 ≡ t = omega arith in cc) published_rounds.algorithm3
