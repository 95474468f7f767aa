-- The published rounds, in the publications' own terms and with their line numbers. Assumes nothing.
--
-- Algorithm 1: Nguyen, Bonnet, Défago, Potop-Butucaru, Tight Bound on Mobile Byzantine Agreement, IS-RR-2014-004. Lines
-- are numbered as its text cites them.
-- Algorithm 2, MBA-TMC-Garay, and Algorithm 3, MBA-TMC-Buhrman: Pan, Potop-Butucaru, LIPIcs.OPODIS.2025.7.
-- docs/PUBLICATIONS.md has a key to the notation, and what was settled where a text leaves something open.
--
-- Each relation is about one round r of one process: what it sends, and how its variables after the round come from its
-- variables before it and from what it received. Which processes make such a round (those that are not faulty in it),
-- and by which case of `Sending`, is not stated here but in Compared.antt.
--
-- As a cell, ⊥ is None; a value is never ⊥. A tuple goes by process, and its places 0 to n - 1 are read. `sent i k` is
-- meant as component k of the message to process i, and `received j k` as that of the message from process j; it is ⊥
-- where no message came, as where ⊥ was sent. Of a message that is one value, component 0 alone is read.
-- `-` stops at 0. That n is large enough, so that n - 2t is the number it looks like, is not asked here: the promises are
-- about blocks of which it holds (`Sized` in Compared.antt, `IsRoundUnder` in AnyCounts.antt).
use Rattle.std.specs.Prelude.{◌≡◌, ℕ, suc, ◌+◌, ◌-◌, ◌*◌, ◌%◌, ◌<◌, ◌≤◌, ◌⊎◌, List, Some, None, is_none, ⊤}
use Rattle.values.specs.Counting.{count}
use Rattle.values.specs.Cells.{Held, holds}

-- #w(X): how many of places 0 to n - 1 of the tuple X hold w
abbrev pub # : ℕ → List ℕ → (ℕ → Held) → ℕ
# n w X = count (λ j. holds w (X j)) n

-- #⊥(X): how many of them are empty
abbrev pub #⊥ : ℕ → (ℕ → Held) → ℕ
#⊥ n X = count (λ j. is_none (X j)) n

-- P w holds of no value w (the ⊥ of this line is the false statement, not the empty cell)
abbrev pub NoValue : (List ℕ → Type 0) → Type 0
NoValue P = (w : List ℕ) → P w → ⊥

-- "if ∃ w ≠ ⊥ with P w then w, else ⊥": the cell is filled with such a w, or is empty and there is none. Which w it is, if
-- there are several, is left open.
abbrev pub IfAny : (List ℕ → Type 0) → Held → Type 0
IfAny P None = NoValue P
IfAny P (Some w) = P w

-- "if ∃ w ≠ ⊥ with P w then w, else one with Q": the value has P; or no value has P, and it has Q. The same is left open.
abbrev pub IfAnyElse : (P Q : List ℕ → Type 0) → List ℕ → Type 0
IfAnyElse P Q w = P w ⊎ (NoValue P × Q w)

-- How a process sends in a round. What the publications call cured (faulty in the round before, not in this one) has two
-- cases: the process knows it in time to keep silent, or sends all the same. The last case binds nothing; it is there so
-- that a round can be compared whatever class its process has.
pub data Sending : Type 0 where
  Correct : Sending
  CuredAware : Sending
  CuredUnaware : Sending
  Unbound : Sending

-- "send X to all processes", X having so many components. By the case: to every process X; to every process ⊥ in each
-- component, which is silence; to every process what process 0 is sent, and what that is is not stated; anything.
abbrev pub SendTuple : Sending → ℕ → (ℕ → Held) → (sent : ℕ → ℕ → Held) → Type 0
SendTuple Correct n X sent = (i k : ℕ) → k < n → sent i k ≡ X k
SendTuple CuredAware n X sent = (i k : ℕ) → k < n → sent i k ≡ None
SendTuple CuredUnaware n X sent = (i k : ℕ) → k < n → sent i k ≡ sent 0 k
SendTuple Unbound n X sent = ⊤

-- "send w to all processes": the one component is w
abbrev pub SendValue : Sending → Held → (sent : ℕ → ℕ → Held) → Type 0
SendValue p w sent = SendTuple p 1 (λ _. w) sent

-- What a relation for one round of a process that keeps a P relates: n, t, the round r, the publication's 0, how the
-- process sends, what it keeps before, what it sends and receives, and what it keeps after.
abbrev pub Algorithm : Type 0 → Type 1
Algorithm P = (n t r : ℕ) → List ℕ → Sending → P → (sent received : ℕ → ℕ → Held) → P → Type 0

-- Algorithm 1

-- what process p_i keeps from round to round: v_i, SV_i and dec_i
pub record Process1 : Type 0 where
  pub v : Held
  pub SV : ℕ → Held
  pub dec : Held

-- propose(v), lines 24 to 30
pub record Propose1 (n t : ℕ) (p : Sending) (v : Held) (sent received : ℕ → ℕ → Held) (returned : Held) : Type 0 where
  pub PV : ℕ → Held
  -- 26: send v to all processes
  pub line_26 : SendValue p v sent
  -- 25, 27, 28: PV[j] is what was received from j, and ⊥ where nothing was
  pub line_28 : (j : ℕ) → j < n → PV j ≡ received j 0
  -- 29, 30: if ∃ w ≠ ⊥, #w(PV) ≥ n - 2t then return w; return ⊥
  pub line_29 : IfAny (λ w. n - 2 * t ≤ # n w PV) returned

-- collect(v), lines 31 to 36
pub record Collect1 (n : ℕ) (p : Sending) (v : Held) (sent received : ℕ → ℕ → Held) (SV : ℕ → Held) : Type 0 where
  -- 33: send v to all processes
  pub line_33 : SendValue p v sent
  -- 32, 34, 35, 36: SV[j] is what was received from j, and ⊥ where nothing was; return SV
  pub line_35 : (j : ℕ) → j < n → SV j ≡ received j 0

-- the value that decide(s, SV) returns, from EV and RV
-- 45: if ∃ w ≠ ⊥, #w(RV) > 3t then return w
-- 46, 47, 48: else c ← s mod n; if ∃ w ≠ ⊥, #w(EV[c][:]) > 2t then return w
-- 49: return 0, which is whatever value is given as `zero_value`
abbrev pub Return1 : (n t s : ℕ) (zero_value : List ℕ) (EV : ℕ → ℕ → Held) (RV : ℕ → Held) → List ℕ → Type 0
Return1 n t s zero_value EV RV =
    IfAnyElse (λ w. 3 * t < # n w RV)
    (IfAnyElse (λ w. 2 * t < # n w (EV (s % n)))
    (λ w. w ≡ zero_value))

-- decide(s, SV), lines 37 to 49
pub record Decide1 (n t s : ℕ) (zero_value : List ℕ) (p : Sending) (SV : ℕ → Held) (sent received : ℕ → ℕ → Held) (returned : List ℕ) : Type 0 where
  pub EV : ℕ → ℕ → Held
  pub RV : ℕ → Held
  -- 39: send SV to all processes
  pub line_39 : SendTuple p n SV sent
  -- 38, 40, 41: EV[j] is the tuple received from j, and ⊥ where nothing was
  pub line_41 : (j k : ℕ) → j < n → k < n → EV j k ≡ received j k
  -- 42, 43, 44: RV[j] is ⊥; if ∃ w ≠ ⊥, #w(EV[:, j]) > 2t then RV[j] ← w
  pub line_44 : (j : ℕ) → j < n → IfAny (λ w. 2 * t < # n w (λ i. EV i j)) (RV j)
  pub lines_45_to_49 : Return1 n t s zero_value EV RV returned

-- MBA, one round: the process before it, what it sends and receives, and the process after it; s is one of 0 to n - 1
-- (line 3). What the lines of a round do not assign stays as it was.
pub data Algorithm1 (n t r : ℕ) (zero_value : List ℕ) (p : Sending) (before : Process1) (sent received : ℕ → ℕ → Held) (after : Process1) : Type 0 where
  -- 4 to 7, round r = 3s: v_i ← propose(v_i); dec_i ← ⊥
  Proposing1 : (s : ℕ) → s < n → r ≡ 3 * s
      → Propose1 n t p before.v sent received after.v → after.SV ≡ before.SV → after.dec ≡ None
      → Algorithm1 n t r zero_value p before sent received after
  -- 8 to 11, round r = 3s + 1: SV_i ← collect(v_i); dec_i ← ⊥
  Collecting1 : (s : ℕ) → s < n → r ≡ 3 * s + 1
      → Collect1 n p before.v sent received after.SV → after.v ≡ before.v → after.dec ≡ None
      → Algorithm1 n t r zero_value p before sent received after
  -- 12 to 15, round r = 3s + 2 of a phase s that is not the last: v_i ← decide(s, SV_i); dec_i ← ⊥
  Deciding1 : (s : ℕ) → suc s < n → r ≡ 3 * s + 2
      → (w : List ℕ) → Decide1 n t s zero_value p before.SV sent received w → after.v ≡ Some w → after.SV ≡ before.SV → after.dec ≡ None
      → Algorithm1 n t r zero_value p before sent received after
  -- 12 to 17, round r = 3s + 2 of the last phase s = n - 1: v_i ← decide(s, SV_i); dec_i ← ⊥; dec_i ← v_i
  LastDeciding1 : (s : ℕ) → suc s ≡ n → r ≡ 3 * s + 2
      → (w : List ℕ) → Decide1 n t s zero_value p before.SV sent received w → after.v ≡ Some w → after.SV ≡ before.SV → after.dec ≡ after.v
      → Algorithm1 n t r zero_value p before sent received after
  -- 18 to 23, round r ≥ 3n: dec_i ← the value received at least n - 2t times. The lines do not say what is done where there
  -- is none; here it is ⊥ then. That dec_i is sent to all stands in the report's description of these lines.
  Maintaining1 : 3 * n ≤ r
      → SendValue p before.dec sent → IfAny (λ w. n - 2 * t ≤ # n w (λ j. received j 0)) after.dec → after.v ≡ before.v → after.SV ≡ before.SV
      → Algorithm1 n t r zero_value p before sent received after

-- Algorithms 2 and 3. "Broadcast" is TMC-Object-Broadcast by process p_i with the number of the round. Of it the relations
-- have what is sent to whom; counter, certificate and relay are not in them, and "valid" is what is received at all. That
-- in Algorithm 2 it stands under "if Not Cured" is not stated here: Compared.antt says whose case `CuredAware` is.

-- what process p_i keeps from round to round: v_i, Rec and dec_i
pub record Process2 : Type 0 where
  pub v : Held
  pub Rec : ℕ → Held
  pub dec : Held

-- the value that lines 18 to 23, in both algorithms, give v_i from Echo and Cand
-- 18, 19: if ∃ w ≠ ⊥ : #w(Cand) > t then v_i ← w
-- 20, 21, 22: else c ← s; if ∃ w ≠ ⊥ : #w(Echo[c][·]) > t then v_i ← w
-- 23: else v_i ← 0, which is whatever value is given as `zero_value`
abbrev pub Settle2 : (n t s : ℕ) (zero_value : List ℕ) (Echo : ℕ → ℕ → Held) (Cand : ℕ → Held) → List ℕ → Type 0
Settle2 n t s zero_value Echo Cand =
    IfAnyElse (λ w. t < # n w Cand)
    (IfAnyElse (λ w. t < # n w (Echo s))
    (λ w. w ≡ zero_value))

-- lines 12 to 23 of both
pub record Decide2 (n t s : ℕ) (zero_value : List ℕ) (p : Sending) (Rec : ℕ → Held) (sent received : ℕ → ℕ → Held) (w : List ℕ) : Type 0 where
  pub Echo : ℕ → ℕ → Held
  pub Cand : ℕ → Held
  -- 12: broadcast Rec
  pub line_12 : SendTuple p n Rec sent
  -- 13, 14: Echo[j] is the valid tuple received from p_j, and ⊥ where none was
  pub line_14 : (j k : ℕ) → j < n → k < n → Echo j k ≡ received j k
  -- 15, 16, 17: Cand[k] is ⊥; if ∃ w ≠ ⊥ : #w(Echo[·, k]) > t then Cand[k] ← w
  pub line_17 : (k : ℕ) → k < n → IfAny (λ u. t < # n u (λ j. Echo j k)) (Cand k)
  pub lines_18_to_23 : Settle2 n t s zero_value Echo Cand w

-- lines 4 to 8 of Algorithm 2
pub record Propose2 (n t : ℕ) (p : Sending) (v : Held) (sent received : ℕ → ℕ → Held) (w : Held) : Type 0 where
  pub Prop : ℕ → Held
  -- 4: broadcast v_i
  pub line_4 : SendValue p v sent
  -- 5, 6: Prop[j] is the unique valid value received from p_j, and ⊥ where none was
  pub line_6 : (j : ℕ) → j < n → Prop j ≡ received j 0
  -- 7, 8: if ∃ v : (#v(Prop) ≥ n - 2t) and (#v(Prop) + #⊥(Prop) ≥ n - t) then v_i ← v, else v_i ← ⊥. Here v is a value, and
  -- not ⊥, which the line does not say.
  pub line_7 : IfAny (λ u. (n - 2 * t ≤ # n u Prop) × (n - t ≤ # n u Prop + #⊥ n Prop)) w

-- lines 4 to 8 of Algorithm 3
pub record Propose3 (n t : ℕ) (p : Sending) (v : Held) (sent received : ℕ → ℕ → Held) (w : Held) : Type 0 where
  pub Prop : ℕ → Held
  -- 4: broadcast v_i
  pub line_4 : SendValue p v sent
  -- 5, 6: Prop[j] is the unique valid value received from p_j, and ⊥ where none was
  pub line_6 : (j : ℕ) → j < n → Prop j ≡ received j 0
  -- 7, 8: if ∃ v : #v(Prop) ≥ n - t then v_i ← v, else v_i ← ⊥. Here v is a value, and not ⊥, as in Algorithm 2.
  pub line_7 : IfAny (λ u. n - t ≤ # n u Prop) w

-- One round of either, by its lines 4 to 8 and by how often line 27 wants a value; s is one of 0 to n - 1 (line 3). What the
-- lines of a round do not assign stays as it was, but for dec_i: before line 24 neither algorithm gives it a value, and here
-- it is ⊥ until then, as in lines 6, 10 and 14 of Algorithm 1.
pub data MBA_TMC (Propose : Sending → Held → (ℕ → ℕ → Held) → (ℕ → ℕ → Held) → Held → Type 0) (enough n t r : ℕ) (zero_value : List ℕ) (p : Sending)
    (before : Process2) (sent received : ℕ → ℕ → Held) (after : Process2) : Type 0 where
  -- 4 to 8, round r = 3s
  Proposing2 : (s : ℕ) → s < n → r ≡ 3 * s
      → Propose p before.v sent received after.v → after.Rec ≡ before.Rec → after.dec ≡ None
      → MBA_TMC Propose enough n t r zero_value p before sent received after
  -- 9 to 11, round r = 3s + 1: broadcast v_i; Rec[j] is the valid value received from p_j, and ⊥ where none was
  Collecting2 : (s : ℕ) → s < n → r ≡ 3 * s + 1
      → SendValue p before.v sent → ((j : ℕ) → j < n → after.Rec j ≡ received j 0) → after.v ≡ before.v → after.dec ≡ None
      → MBA_TMC Propose enough n t r zero_value p before sent received after
  -- 12 to 23, round r = 3s + 2 of a phase s that is not the last
  Deciding2 : (s : ℕ) → suc s < n → r ≡ 3 * s + 2
      → (w : List ℕ) → Decide2 n t s zero_value p before.Rec sent received w → after.v ≡ Some w → after.Rec ≡ before.Rec → after.dec ≡ None
      → MBA_TMC Propose enough n t r zero_value p before sent received after
  -- 12 to 24, round r = 3s + 2 of the last phase s = n - 1: then dec_i ← v_i
  LastDeciding2 : (s : ℕ) → suc s ≡ n → r ≡ 3 * s + 2
      → (w : List ℕ) → Decide2 n t s zero_value p before.Rec sent received w → after.v ≡ Some w → after.Rec ≡ before.Rec → after.dec ≡ after.v
      → MBA_TMC Propose enough n t r zero_value p before sent received after
  -- 25 to 27, round r ≥ 3n: broadcast dec_i; dec_i ← the value received at least so many times. Line 27 does not say what is
  -- done where there is none; here it is ⊥ then.
  Maintaining2 : 3 * n ≤ r
      → SendValue p before.dec sent → IfAny (λ w. enough ≤ # n w (λ j. received j 0)) after.dec → after.v ≡ before.v → after.Rec ≡ before.Rec
      → MBA_TMC Propose enough n t r zero_value p before sent received after

-- Algorithm 2, whose line 27 wants a value received at least n - 2t times
abbrev pub Algorithm2 : (n t r : ℕ) (zero_value : List ℕ) → Sending → Process2 → (sent received : ℕ → ℕ → Held) → Process2 → Type 0
Algorithm2 n t = MBA_TMC (Propose2 n t) (n - 2 * t) n t

-- Algorithm 3, whose line 27 wants a value received at least n - t times
abbrev pub Algorithm3 : (n t r : ℕ) (zero_value : List ℕ) → Sending → Process2 → (sent received : ℕ → ℕ → Held) → Process2 → Type 0
Algorithm3 n t = MBA_TMC (Propose3 n t) (n - t) n t
