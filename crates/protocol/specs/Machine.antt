-- The run as a machine over plain values: turns, calls, refusals in their order, the state after a call and its answer.
-- Assumes nothing.
use Rattle.std.specs.Prelude.{
  ℕ,
  suc,
  ◌+◌,
  ◌*◌,
  ◌/◌,
  ◌^◌,
  Bool,
  true,
  false,
  if◌then◌else◌,
  not,
  ◌&&◌,
  ◌||◌,
  List,
  map,
  length,
  Some,
  None,
  Option,
  ◌==◌,
  nat_le,
  nat_lt,
  slice_index_or,
}
use Rattle.std.specs.Option.{option_or}
use Rattle.values.specs.declared.refusals.Refusal.{Refusal}
use Rattle.values.specs.declared.refusals.Refusal.TheVariants.{
  BlockSize,
  FaultCount,
  Resilience,
  StoreSize,
  ProposalCount,
  SetMembers,
  ForbiddenMove,
  OutOfTurn,
  NoSuchPlace,
  NotForgeable,
  RoundLimit,
  WasSeated,
}
use Rattle.values.specs.Cells.{Held}
use Rattle.models.specs.declared.classes.Class.{Class}
use Rattle.models.specs.declared.classes.Class.TheVariants.{Honest, Silent, Uniform, Free}
use Rattle.models.specs.declared.classes.Counts.{Counts}
use Rattle.models.specs.declared.sets.TheConstants.{MOST_CONTROLLERS}
use Rattle.models.specs.Sets.{has, members}
use Rattle.models.specs.Laws.{Meaning}
use Rattle.protocol.specs.declared.stages.TheConstants.{MOST_ROUNDS}
use Rattle.protocol.specs.Stages.{stage_of, columns_of}
use Rattle.protocol.specs.Rounds.{Terms, Memory, closing}

infixr 10 ◌then◌
infix 20 ◌when◌
-- what a run has before any call: a store of so many cells, and the fallback of its value kind
pub record Setting : Type 0 where
  pub cells : ℕ
  pub fallback : List ℕ

-- a block that was opened
pub record Block : Type 0 where
  pub n : ℕ
  pub t : ℕ
  -- the counts of the model named at open
  pub counts : Counts
  -- how many rounds are closed, and so the number of the round that comes
  pub round : ℕ
  -- the set of the last closed round, or the initial set where none is closed
  pub last : ℕ
  -- what each controller keeps
  pub memory : ℕ → Memory

-- a round that is not closed yet
pub record Seating : Type 0 where
  pub set : ℕ
  pub class : ℕ → Class
  -- by sender, receiver and column
  pub forged : ℕ → ℕ → ℕ → Held

-- the turn that a run stands at, with what belongs to it then
pub data State : Type 0 where
  Idle : State
  Waiting : Block → State
  Seated : Block → Seating → State

pub data Call : Type 0 where
  Open : (n t : ℕ) (proposals : List (List ℕ)) (initial : ℕ) → Call
  Seat : (set : ℕ) → Call
  Forge : (sender receiver column : ℕ) (cell : Held) → Call
  Close : Call
  Decision : (controller : ℕ) → Call

pub data Answer : Type 0 where
  Done : Answer
  Decided : Held → Answer
  Refused : Refusal → Answer

-- a refusal, if the test of it holds
abbrev pub ◌when◌ : Refusal → Bool → Option Refusal
why when test = if test then Some why else None

-- the first of two refusals
abbrev pub ◌then◌ : Option Refusal → Option Refusal → Option Refusal
a then b = option_or a b

-- how many cells a block needs
abbrev pub needed : ℕ → ℕ
needed n = n * n * n + 2 * n * n + 5 * n

-- whether a set does not fit the block: it has a member whose number is n or above, or more than t members
abbrev pub misfits : (n t set : ℕ) → Bool
misfits n t set = nat_lt 0 (set / 2 ^ n) || nat_lt t (members set)

-- whether nothing can be forged for a sender of this class to this receiver
abbrev pub unforgeable : Class → (receiver : ℕ) → Bool
unforgeable Honest receiver = true
unforgeable Silent receiver = true
unforgeable Uniform receiver = nat_lt 0 receiver
unforgeable Free receiver = false

-- why a call is refused at its turn: the first of these. That a call is out of turn goes before all of them, in `step`.
abbrev pub open_refusal : Setting → Meaning → (n t : ℕ) → List (List ℕ) → (initial : ℕ) → Option Refusal
open_refusal x m n t proposals initial =
    BlockSize when (n == 0 || nat_lt MOST_CONTROLLERS n)
    then FaultCount when nat_le n t
    then Resilience when nat_le n ((m.counts t).b + (m.counts t).e + (m.counts t).l)
    then StoreSize when nat_lt x.cells (needed n)
    then ProposalCount when not (length proposals == n)
    then SetMembers when misfits n t initial

abbrev pub seat_refusal : Meaning → Block → (set : ℕ) → Option Refusal
seat_refusal m b set =
    RoundLimit when nat_le MOST_ROUNDS b.round
    then SetMembers when misfits b.n b.t set
    then ForbiddenMove when not (m.allowed b.last set b.t)

abbrev pub forge_refusal : Block → Seating → (sender receiver column : ℕ) → Option Refusal
forge_refusal b s sender receiver column =
    NoSuchPlace when (nat_le b.n sender || nat_le b.n receiver || nat_le (columns_of (stage_of b.n b.round) b.n) column)
    then NotForgeable when unforgeable (s.class sender) receiver

abbrev pub decision_refusal : Block → (controller : ℕ) → Option Refusal
decision_refusal b controller =
    NoSuchPlace when nat_le b.n controller
    then WasSeated when has b.last controller

-- What each accepted call leaves.

-- what a controller keeps when its block is opened: v, its proposal unless it is in the initial set, and nothing else
abbrev pub started : List (List ℕ) → (initial : ℕ) → (controller : ℕ) → Memory
started proposals initial i = record { v = if has initial i then None else slice_index_or (map Some proposals) i None; row = λ _. None; decision = None }

-- an open: a block whose round 0 comes next
abbrev pub opened : Meaning → (n t : ℕ) → List (List ℕ) → (initial : ℕ) → Block
opened m n t proposals initial = record {
  n = n;
  t = t;
  counts = m.counts t;
  round = 0;
  last = initial;
  memory = started proposals initial;
}

-- a seat: the classes are those of the model named at seat, for the move from the last set to this one
abbrev pub seating : Meaning → Block → (set : ℕ) → Seating
seating m b set = record {
  set = set;
  class = λ i. if nat_lt i b.n then m.class b.last set b.t i else Honest;
  forged = λ _ _ _. None;
}

-- a forge: the cell is put at its place, instead of any earlier one there
abbrev pub forging : Seating → (sender receiver column : ℕ) → Held → Seating
forging s sender receiver column cell = record {
  set = s.set;
  class = s.class;
  forged = λ j i k. if j == sender && i == receiver && k == column then cell else s.forged j i k;
}

abbrev pub terms_of : Setting → Block → Terms
terms_of x b = record { n = b.n; counts = b.counts; fallback = x.fallback }

-- a close: the round is computed, its set becomes the last set, and the next round comes
abbrev pub closed : Setting → Block → Seating → Block
closed x b s = record {
  n = b.n;
  t = b.t;
  counts = b.counts;
  round = suc b.round;
  last = s.set;
  memory = closing (terms_of x b) b.round (has s.set) s.class s.forged b.memory;
}

-- a refused call leaves the state as it was
abbrev pub unless : Option Refusal → (before after : State) → Answer → State × Answer
unless None before after answer = (after, answer)
unless (Some why) before after answer = (before, Refused why)

-- what a call does and is answered, by the turn that the run stands at; the model is the one that open or seat names
abbrev pub step : Setting → Meaning → State → Call → State × Answer
step x m Idle (Open n t proposals initial) = unless (open_refusal x m n t proposals initial) Idle (Waiting (opened m n t proposals initial)) Done
step x m Idle (Seat set) = (Idle, Refused OutOfTurn)
step x m Idle (Forge j i k cell) = (Idle, Refused OutOfTurn)
step x m Idle Close = (Idle, Refused OutOfTurn)
step x m Idle (Decision i) = (Idle, Refused OutOfTurn)
step x m (Waiting b) (Open n t proposals initial) = (Waiting b, Refused OutOfTurn)
step x m (Waiting b) (Seat set) = unless (seat_refusal m b set) (Waiting b) (Seated b (seating m b set)) Done
step x m (Waiting b) (Forge j i k cell) = (Waiting b, Refused OutOfTurn)
step x m (Waiting b) Close = (Waiting b, Refused OutOfTurn)
step x m (Waiting b) (Decision i) = unless (decision_refusal b i) (Waiting b) (Waiting b) (Decided (b.memory i).decision)
step x m (Seated b s) (Open n t proposals initial) = (Seated b s, Refused OutOfTurn)
step x m (Seated b s) (Seat set) = (Seated b s, Refused OutOfTurn)
step x m (Seated b s) (Forge j i k cell) = unless (forge_refusal b s j i k) (Seated b s) (Seated b (forging s j i k cell)) Done
step x m (Seated b s) Close = (Waiting (closed x b s), Done)
step x m (Seated b s) (Decision i) = unless (decision_refusal b i) (Seated b s) (Seated b s) (Decided (b.memory i).decision)
