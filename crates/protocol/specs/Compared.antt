-- The rounds of the machine beside the published ones: who makes such a round, and who sends in it how. Assumes nothing.
use Rattle.std.specs.Prelude.{◌≡◌, ℕ, ◌+◌, ◌*◌, ◌<◌, ◌≤◌, false, if◌then◌else◌, List, None}
use Rattle.values.specs.Cells.{Held}
use Rattle.models.specs.declared.classes.Class.{Class}
use Rattle.models.specs.declared.classes.Class.TheVariants.{Honest, Silent, Uniform, Free}
use Rattle.models.specs.declared.standards.Standard.TheVariants.{Aware, Unaware, Carried}
use Rattle.models.specs.declared.sets.TheConstants.{MOST_CONTROLLERS}
use Rattle.models.specs.Laws.{Meaning}
use Rattle.models.specs.Sets.{has}
use Rattle.models.specs.Standards.{standard}
use Rattle.models.specs.Stamps.{stamped}
use Rattle.protocol.specs.Rounds.{Memory, sent_in, heard}
use Rattle.protocol.specs.Machine.{Setting, Block, Seating, Idle, Seated, Call, open_refusal, opened, seating, terms_of, closed}
use Rattle.protocol.specs.Publications.{Algorithm, Sending, Correct, CuredAware, CuredUnaware, Unbound, SendTuple, SendValue, Process2, Algorithm1, Algorithm2, Algorithm3}
use Rattle.protocol.specs.AnyCounts.{AnyRound, process1, process2}
use Rattle.protocol.specs.Transcripts.{state_after}

-- the case of sending that a class comes to. It is asked of controllers that are unseated in the round.
abbrev pub sending : Class → Sending
sending Honest = Correct
sending Silent = CuredAware
sending Uniform = CuredUnaware
sending Free = Unbound

-- a block of a size that open accepts under a model, with the model's counts; what its controllers keep is not asked
pub record Sized (m : Meaning) (b : Block) : Type 0 where
  pub size : b.n ≤ MOST_CONTROLLERS
  pub faults : b.t < b.n
  pub counts : b.counts ≡ m.counts b.t
  pub resilient : (m.counts b.t).b + (m.counts b.t).e + (m.counts b.t).l < b.n

-- what receiver i hears from sender j of column k in a round, i and j being the same included. It serves both as what j
-- sends to i and as what i receives from j: between the two nothing is lost or altered.
abbrev pub hearing : Setting → Block → Seating → (i j k : ℕ) → Held
hearing x b s = heard s.class (sent_in (terms_of x b) b.round b.memory) s.forged

-- From a block and a seating to the block after the round every unseated controller made one round of an algorithm: from what it kept, what the
-- others hear from it and what it hears from them, to what it keeps then; by who sends how.
abbrev pub MakesBy : (senders : ℕ → Sending) → {P : Type 0} → (Memory → P) → Algorithm P → Setting → Block → Seating → (next : Block) → Type 0
MakesBy senders process algorithm x b s next = (i : ℕ) → i < b.n → has s.set i ≡ false
    → algorithm b.n b.t b.round x.fallback (senders i) (process (b.memory i))
    (λ receiver. hearing x b s receiver i)
    (hearing x b s i)
    (process (next.memory i))

-- the same where who sends how goes by the classes
abbrev pub Makes : {P : Type 0} → (Memory → P) → Algorithm P → Setting → Block → Seating → (next : Block) → Type 0
Makes process algorithm x b s next = MakesBy (λ i. sending (s.class i)) process algorithm x b s next

-- whichever counts a block has, if n is above their sum its close is the round under them for every unseated controller
abbrev pub RunsAnyRound : Type 0
RunsAnyRound = (x : Setting) (b : Block) (s : Seating) → b.counts.b + b.counts.e + b.counts.l < b.n
    → Makes (λ own. own) (λ n t. AnyRound n b.counts) x b s (closed x b s)

-- every close of such a block of a model is a round of an algorithm for every unseated controller
abbrev pub Runs : {P : Type 0} → Meaning → (Memory → P) → Algorithm P → Type 0
Runs m process algorithm = (x : Setting) (b : Block) (s : Seating) → Sized m b → Makes process algorithm x b s (closed x b s)

-- with the counts of unaware every close is such a round of Algorithm 1, with those of stamped aware of Algorithm 2, and
-- with those of stamped carried of Algorithm 3
abbrev pub RunsAlgorithm1 : Type 0
RunsAlgorithm1 = Runs (standard Unaware) process1 Algorithm1

abbrev pub RunsAlgorithm2 : Type 0
RunsAlgorithm2 = Runs (stamped (standard Aware)) process2 Algorithm2

abbrev pub RunsAlgorithm3 : Type 0
RunsAlgorithm3 = Runs (stamped (standard Carried)) process2 Algorithm3

-- the blocks that an open with a model accepts are such blocks, and so are those that their closes leave
pub record BlocksAreSized (m : Meaning) : Type 0 where
  pub opens : (x : Setting) (n t : ℕ) (proposals : List (List ℕ)) (initial : ℕ) → open_refusal x m n t proposals initial ≡ None → Sized m (opened m n t proposals initial)
  pub closes : (x : Setting) (b : Block) (s : Seating) → Sized m b → Sized m (closed x b s)

-- In a round that a seat under the model begins, an unseated controller sends as `cured` says if it is in the last set (that
-- of the round before, or the initial set in round 0), and else as a correct process.
abbrev pub SendsAs : Meaning → Sending → Type 0
SendsAs m cured = (b : Block) (set i : ℕ) → i < b.n → has set i ≡ false
    → sending ((seating m b set).class i) ≡ (if has b.last i then cured else Correct)

-- so under the three models no controller that is unseated is unbound in what it sends
abbrev pub SendsInAlgorithm1 : Type 0
SendsInAlgorithm1 = SendsAs (standard Unaware) CuredUnaware

abbrev pub SendsInAlgorithm2 : Type 0
SendsInAlgorithm2 = SendsAs (stamped (standard Aware)) CuredAware

abbrev pub SendsInAlgorithm3 : Type 0
SendsInAlgorithm3 = SendsAs (stamped (standard Carried)) CuredUnaware

-- the same where who sends how goes by the last set: whoever is in it as `cured` says, everybody else as a correct process
abbrev pub MakesAfter : {P : Type 0} → (Memory → P) → Algorithm P → (cured : Sending) → Setting → Block → Seating → (next : Block) → Type 0
MakesAfter process algorithm cured x b s next = MakesBy (λ i. if has b.last i then cured else Correct) process algorithm x b s next

-- after any calls that all name the model and leave a round seated, its close is a round of an algorithm in that way
abbrev pub RunsAfterCalls : {P : Type 0} → Meaning → (Memory → P) → Algorithm P → (cured : Sending) → Type 0
RunsAfterCalls m process algorithm cured = (x : Setting) (calls : List Call) (b : Block) (s : Seating) → state_after x m Idle calls ≡ Seated b s
    → MakesAfter process algorithm cured x b s (closed x b s)

-- the sending lines of a round of Algorithms 2 and 3: 4 in round 3s, 9 in round 3s + 1, 12 in round 3s + 2 and 26 from round 3n on
pub data Sends2 (n r : ℕ) (p : Sending) (own : Process2) (sent : ℕ → ℕ → Held) : Type 0 where
  Line4 : (s : ℕ) → s < n → r ≡ 3 * s → SendValue p own.v sent → Sends2 n r p own sent
  Line9 : (s : ℕ) → s < n → r ≡ 3 * s + 1 → SendValue p own.v sent → Sends2 n r p own sent
  Line12 : (s : ℕ) → s < n → r ≡ 3 * s + 2 → SendTuple p n own.Rec sent → Sends2 n r p own sent
  Line26 : 3 * n ≤ r → SendValue p own.dec sent → Sends2 n r p own sent

-- Whoever is not in the last set sends as a correct process, also where it is seated in this round. (In Buhrman's model a
-- fault arrives after its new host has sent.)
abbrev pub SendsCorrectly : Setting → Block → Seating → Type 0
SendsCorrectly x b s = (i : ℕ) → i < b.n → has b.last i ≡ false → Sends2 b.n b.round Correct (process2 (b.memory i)) (λ receiver. hearing x b s receiver i)

-- so it is in every round that calls that all name the model leave seated
abbrev pub SendsAfterCalls : Meaning → Type 0
SendsAfterCalls m = (x : Setting) (calls : List Call) (b : Block) (s : Seating) → state_after x m Idle calls ≡ Seated b s → SendsCorrectly x b s
