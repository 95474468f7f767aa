-- One round under any counts b, e and l, in the manner of the published rounds. Assumes nothing.
--
-- As there, the relation is about one round r of one process: what it sends, and how what it keeps after the round comes
-- from what it kept before it and from what it received. Which value is taken where several qualify is left open. It does
-- not ask that n is above b + e + l; what is promised with it does. That every close is such a round is `RunsAnyRound` in
-- Compared.antt. That Algorithm 1 is this round under the counts (2t, t, 2t), Algorithm 2 under (2t, 0, t) and Algorithm 3
-- under (t, 0, t) is `PublishedRounds` below.
use Rattle.std.specs.Prelude.{◌≡◌, ℕ, suc, ◌+◌, ◌-◌, ◌*◌, ◌<◌, ◌≤◌, List, Some, None}
use Rattle.values.specs.Counting.{count}
use Rattle.values.specs.Cells.{Held, differs}
use Rattle.models.specs.declared.classes.Counts.{Counts}
use Rattle.protocol.specs.Rounds.{Memory}
use Rattle.protocol.specs.Publications.{Algorithm, #, IfAny, IfAnyElse, Sending, SendTuple, SendValue, Process1, Process2, Algorithm1, Algorithm2, Algorithm3}

-- how many of the n components of the tuple X are filled otherwise than with w
abbrev pub #≢ : ℕ → List ℕ → (ℕ → Held) → ℕ
#≢ n w X = count (λ j. differs w (X j)) n

-- a deciding round of phase s: the row is sent, in the manner of `p`, and w is settled on
pub record Decides (n : ℕ) (most : Counts) (s : ℕ) (fallback : List ℕ) (p : Sending) (row : ℕ → Held) (sent received : ℕ → ℕ → Held) (w : List ℕ) : Type 0 where
  pub candidates : ℕ → Held
  pub sends : SendTuple p n row sent
  -- the candidate of a column: a value received there from more than l processes, or none if there is no such value
  pub candidate : (k : ℕ) → k < n → IfAny (λ u. most.l < # n u (λ j. received j k)) (candidates k)
  -- a value of more than l + e candidates; else one of more than l cells in the row received from the process numbered as
  -- the phase; else the fallback
  pub settles : IfAnyElse (λ u. most.l + most.e < # n u candidates)
      (IfAnyElse (λ u. most.l < # n u (received s))
      (λ u. u ≡ fallback)) w

-- what a round does not name stays as it was
pub data AnyRound (n : ℕ) (most : Counts) (r : ℕ) (fallback : List ℕ) (p : Sending) (before : Memory) (sent received : ℕ → ℕ → Held) (after : Memory) : Type 0 where
  -- proposing, round r = 3s: v is a value received at least n - b times while at most l are filled otherwise, or ⊥ if there
  -- is no such value
  Proposes : (s : ℕ) → s < n → r ≡ 3 * s
      → SendValue p before.v sent
      → IfAny (λ w. (n - most.b ≤ # n w (λ j. received j 0)) × (#≢ n w (λ j. received j 0) ≤ most.l)) after.v
      → after.row ≡ before.row → after.decision ≡ None
      → AnyRound n most r fallback p before sent received after
  -- collecting, round r = 3s + 1: the row is what was received, by sender
  Collects : (s : ℕ) → s < n → r ≡ 3 * s + 1
      → SendValue p before.v sent → ((j : ℕ) → j < n → after.row j ≡ received j 0)
      → after.v ≡ before.v → after.decision ≡ None
      → AnyRound n most r fallback p before sent received after
  -- deciding, round r = 3s + 2 of a phase that is not the last
  Settles : (s : ℕ) → suc s < n → r ≡ 3 * s + 2
      → (w : List ℕ) → Decides n most s fallback p before.row sent received w → after.v ≡ Some w
      → after.row ≡ before.row → after.decision ≡ None
      → AnyRound n most r fallback p before sent received after
  -- deciding, in the last phase: then the decision is v
  SettlesLast : (s : ℕ) → suc s ≡ n → r ≡ 3 * s + 2
      → (w : List ℕ) → Decides n most s fallback p before.row sent received w → after.v ≡ Some w
      → after.row ≡ before.row → after.decision ≡ after.v
      → AnyRound n most r fallback p before sent received after
  -- maintaining, round r ≥ 3n: the decision is a value received at least n - b times, or ⊥ if there is no such value
  Maintains : 3 * n ≤ r
      → SendValue p before.decision sent → IfAny (λ w. n - most.b ≤ # n w (λ j. received j 0)) after.decision
      → after.v ≡ before.v → after.row ≡ before.row
      → AnyRound n most r fallback p before sent received after

-- what a controller keeps, under the publications' names
abbrev pub process1 : Memory → Process1
process1 x = record { v = x.v; SV = x.row; dec = x.decision }

abbrev pub process2 : Memory → Process2
process2 x = record { v = x.v; Rec = x.row; dec = x.decision }

-- wherever n is above the sum of these counts, the algorithm is the round under them, neither more nor less
abbrev pub IsRoundUnder : {P : Type 0} → (counts : (t : ℕ) → Counts) → (Memory → P) → Algorithm P → Type 0
IsRoundUnder counts process algorithm = (n t r : ℕ) (zero_value : List ℕ) (p : Sending) (before after : Memory) (sent received : ℕ → ℕ → Held)
    → (counts t).b + (counts t).e + (counts t).l < n
    → (AnyRound n (counts t) r zero_value p before sent received after → algorithm n t r zero_value p (process before) sent received (process after))
    × (algorithm n t r zero_value p (process before) sent received (process after) → AnyRound n (counts t) r zero_value p before sent received after)

-- the three published rounds
pub record PublishedRounds : Type 0 where
  pub algorithm1 : IsRoundUnder (λ t. record { b = 2 * t; e = t; l = 2 * t }) process1 Algorithm1
  pub algorithm2 : IsRoundUnder (λ t. record { b = 2 * t; e = 0; l = t }) process2 Algorithm2
  pub algorithm3 : IsRoundUnder (λ t. record { b = t; e = 0; l = t }) process2 Algorithm3
