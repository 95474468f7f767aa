-- From calls to rounds: what a list of calls on an opened block comes to, whatever was refused in between.
use Rattle.std.specs.Option.{option_or}
use Rattle.std.proofs.Common.{◌≡◌, ℕ, zero, suc, ◌+◌, ◌<◌, ◌≤◌, List, [], ◌∷◌, ◌++◌, length, take, Some, None, Option, slice_index, refl, sym, ap, ◌∙◌, subst, arith}
use Rattle.values.specs.declared.refusals.Refusal.{Refusal}
use Rattle.values.specs.declared.refusals.Refusal.TheVariants.{OutOfTurn}
use Rattle.values.specs.Cells.{Held}
use Rattle.models.specs.Laws.{Meaning}
use Rattle.protocol.specs.Machine.{
  Setting,
  Block,
  Seating,
  State,
  Idle,
  Waiting,
  Seated,
  Call,
  Open,
  Seat,
  Forge,
  Close,
  Decision,
  Answer,
  Done,
  Decided,
  Refused,
  open_refusal,
  seat_refusal,
  forge_refusal,
  decision_refusal,
  opened,
  seating,
  forging,
  closed,
  unless,
  step,
}
use Rattle.protocol.specs.Transcripts.{Entry, Transcript, Opening, closes_in, cell_in, opening, sets, closes, answered, transcript}
use Rattle.protocol.proofs.Joined.{refused_adds}

abbrev pub Forged : Type 0
Forged = ℕ → ℕ → ℕ → Held

-- a block's round with a set, and with what was forged in it
abbrev pub during : Meaning → Block → ℕ → Forged → Seating
during m b set forged = record { set = set; class = (seating m b set).class; forged = forged }

-- the block after k more rounds, with a set and forgeries for each
unfoldable pub later : Setting → Meaning → Block → (sets : ℕ → ℕ) → (forged : ℕ → Forged) → ℕ → Block
later x m b sets forged zero = b
later x m b sets forged (suc k) = later x m (closed x b (during m b (sets 0) (forged 0))) (λ j. sets (suc j)) (λ j. forged (suc j)) k

-- the cell is the decision of a controller of the block that may be asked
pub record Asked (b : Block) (cell : Held) : Type 0 where
  pub controller : ℕ
  pub free : decision_refusal b controller ≡ None
  pub is : cell ≡ (b.memory controller).decision

-- calls on a block come to rounds with these sets, the last of them closed or not, and to decisions asked in between
pub record ComesTo (x : Setting) (m : Meaning) (b : Block) (all : List ℕ) (calls : Transcript) : Type 0 where
  pub forged : ℕ → Forged
  pub legal : (k : ℕ) → k < length all → seat_refusal m (later x m b (slice_index all) forged k) (slice_index all k) ≡ None
  pub within : (i : ℕ) → closes (take i calls) ≤ length all
  pub asked : (i : ℕ) (cell : Held) → answered calls i ≡ Some cell → Asked (later x m b (slice_index all) forged (closes (take i calls))) cell

module _ (x : Setting) (m : Meaning) where
  asked_at : (b : Block) (all : List ℕ) (forged : ℕ → Forged) (cell : Held) (k j : ℕ) → k ≡ j
      → Asked (later x m b (slice_index all) forged k) cell → Asked (later x m b (slice_index all) forged j) cell
  asked_at b all forged cell k j e a = subst (λ (i : ℕ). Asked (later x m b (slice_index all) forged i) cell) e a

  nothing : (b : Block) (all : List ℕ) (forged : ℕ → Forged)
      → ((k : ℕ) → k < length all → seat_refusal m (later x m b (slice_index all) forged k) (slice_index all k) ≡ None) → ComesTo x m b all []
  nothing b all forged legal = record { forged = forged; legal = legal; within = λ i. grind arith; asked = λ i cell e. absurd (grind arith) }

  nothing_waits : (b : Block) → ComesTo x m b [] []
  nothing_waits b = nothing b [] (λ _ _ _ _. None) (λ k lt. absurd (omega arith))

  nothing_seated : (b : Block) (set : ℕ) → seat_refusal m b set ≡ None → ComesTo x m b (set ∷ []) []
  unfolding later
  nothing_seated b set may = nothing b (set ∷ []) (λ _ _ _ _. None) legal
    where
      legal : (k : ℕ) → k < 1 → seat_refusal m (later x m b (slice_index (set ∷ [])) (λ _ _ _ _. None) k) (slice_index (set ∷ []) k) ≡ None
      legal zero lt = may
      legal (suc k) lt = absurd (omega arith)

  -- a call before them that closes nothing and answers no decision
  before : (b : Block) (all : List ℕ) (e : Entry) (calls : Transcript) → closes_in e.call e.answer ≡ 0 → cell_in e.call e.answer ≡ None
      → ComesTo x m b all calls → ComesTo x m b all (e ∷ calls)
  before b all e calls none quiet f = record { forged = f.forged; legal = f.legal; within = within; asked = asked }
    where
      within : (i : ℕ) → closes (take i (e ∷ calls)) ≤ length all
      within zero = omega arith
      within (suc i) = omega (arith, none, f.within i)

      asked : (i : ℕ) (cell : Held) → answered (e ∷ calls) i ≡ Some cell → Asked (later x m b (slice_index all) f.forged (closes (take i (e ∷ calls)))) cell
      asked zero cell a = absurd (grind arith)
      asked (suc i) cell a =
          asked_at b all f.forged cell (closes (take i calls)) (closes (take (suc i) (e ∷ calls))) (omega (arith, none)) (f.asked i cell a)

  -- a decision asked before them
  ask : (b : Block) (all : List ℕ) (controller : ℕ) (calls : Transcript) → decision_refusal b controller ≡ None
      → ComesTo x m b all calls → ComesTo x m b all (record { call = Decision controller; answer = Decided (b.memory controller).decision } ∷ calls)
  unfolding later
  ask b all controller calls free f = record { forged = f.forged; legal = f.legal; within = within; asked = asked }
    where
      e : Entry
      e = record { call = Decision controller; answer = Decided (b.memory controller).decision }

      within : (i : ℕ) → closes (take i (e ∷ calls)) ≤ length all
      within zero = omega arith
      within (suc i) = omega (arith, f.within i)

      asked : (i : ℕ) (cell : Held) → answered (e ∷ calls) i ≡ Some cell → Asked (later x m b (slice_index all) f.forged (closes (take i (e ∷ calls)))) cell
      asked zero cell a = record { controller = controller; free = free; is = grind arith }
      asked (suc i) cell a = asked_at b all f.forged cell (closes (take i calls)) (closes (take (suc i) (e ∷ calls))) (omega arith) (f.asked i cell a)

  -- a close before them
  shut : (b : Block) (set : ℕ) (forged : Forged) (all : List ℕ) (calls : Transcript) → seat_refusal m b set ≡ None
      → ComesTo x m (closed x b (during m b set forged)) all calls → ComesTo x m b (set ∷ all) (record { call = Close; answer = Done } ∷ calls)
  unfolding later
  shut b set forged all calls may f = record { forged = forged_all; legal = legal; within = within; asked = asked }
    where
      forged_all : ℕ → Forged
      forged_all zero = forged
      forged_all (suc k) = f.forged k

      legal : (k : ℕ) → k < suc (length all) → seat_refusal m (later x m b (slice_index (set ∷ all)) forged_all k) (slice_index (set ∷ all) k) ≡ None
      legal zero lt = may
      legal (suc k) lt = f.legal k (omega arith)

      within : (i : ℕ) → closes (take i (record { call = Close; answer = Done } ∷ calls)) ≤ suc (length all)
      within zero = omega arith
      within (suc i) = omega (arith, f.within i)

      asked : (i : ℕ) (cell : Held) → answered (record { call = Close; answer = Done } ∷ calls) i ≡ Some cell
          → Asked (later x m b (slice_index (set ∷ all)) forged_all (closes (take i (record { call = Close; answer = Done } ∷ calls)))) cell
      asked zero cell a = absurd (grind arith)
      asked (suc i) cell a =
          asked_at b (set ∷ all) forged_all cell (suc (closes (take i calls))) (1 + closes (take i calls)) (omega arith) (f.asked i cell a)

  -- what follows on a block that waits, and on one that is seated
  abbrev pub FromWaiting : List Call → Type 0
  FromWaiting calls = (b : Block) → let t = transcript x m (Waiting b) calls in ComesTo x m b (sets t) t

  abbrev pub FromSeated : List Call → Type 0
  FromSeated calls = (b : Block) (set : ℕ) (forged : Forged) → seat_refusal m b set ≡ None
      → let t = transcript x m (Seated b (during m b set forged)) calls in ComesTo x m b (set ∷ sets t) t

  -- the rounds of a call and those after it, by the state that the call leaves and its answer
  abbrev After : Block → List ℕ → Call → State × Answer → List Call → Type 0
  After b pending c r calls = let t = record { call = c; answer = r.1 } ∷ transcript x m r.0 calls in ComesTo x m b (pending ++ sets t) t

  module _ (calls : List Call) (waiting_on : FromWaiting calls) (seated_on : FromSeated calls) where
    turned_waiting : (b : Block) (c : Call) (why : Refusal) → After b [] c (Waiting b, Refused why) calls
    turned_waiting b c why =
        let t = transcript x m (Waiting b) calls in
        let none = refused_adds c why in
        let e : Entry = record { call = c; answer = Refused why } in
        subst (λ added. ComesTo x m b (added ++ sets t) (e ∷ t)) (sym none.seats) (before b (sets t) e t none.closes none.decides (waiting_on b))

    waiting_first : (c : Call) → FromWaiting (c ∷ calls)
    waiting_first (Open n t proposals initial) b = turned_waiting b (Open n t proposals initial) OutOfTurn
    waiting_first (Seat set) b = go (seat_refusal m b set) refl
      where
        go : (o : Option Refusal) → seat_refusal m b set ≡ o → After b [] (Seat set) (unless o (Waiting b) (Seated b (seating m b set)) Done) calls
        go None e =
            let t = transcript x m (Seated b (seating m b set)) calls in
            before b (set ∷ sets t) (record { call = Seat set; answer = Done }) t refl refl (seated_on b set (λ _ _ _. None) e)
        go (Some why) e = turned_waiting b (Seat set) why
    waiting_first (Forge j i k cell) b = turned_waiting b (Forge j i k cell) OutOfTurn
    waiting_first Close b = turned_waiting b Close OutOfTurn
    waiting_first (Decision i) b = go (decision_refusal b i) refl
      where
        go : (o : Option Refusal) → decision_refusal b i ≡ o → After b [] (Decision i) (unless o (Waiting b) (Waiting b) (Decided (b.memory i).decision)) calls
        go None e = let t = transcript x m (Waiting b) calls in ask b (sets t) i t e (waiting_on b)
        go (Some why) e = turned_waiting b (Decision i) why

    module _ (b : Block) (set : ℕ) (forged : Forged) (may : seat_refusal m b set ≡ None) where
      turned_seated : (c : Call) (why : Refusal) → After b (set ∷ []) c (Seated b (during m b set forged), Refused why) calls
      turned_seated c why =
          let t = transcript x m (Seated b (during m b set forged)) calls in
          let none = refused_adds c why in
          let e : Entry = record { call = c; answer = Refused why } in
          subst (λ added. ComesTo x m b (set ∷ (added ++ sets t)) (e ∷ t)) (sym none.seats) (before b (set ∷ sets t) e t none.closes none.decides (seated_on b set forged may))

      seated_first : (c : Call) → let t = transcript x m (Seated b (during m b set forged)) (c ∷ calls) in ComesTo x m b (set ∷ sets t) t
      seated_first (Open n t proposals initial) = turned_seated (Open n t proposals initial) OutOfTurn
      seated_first (Seat new) = turned_seated (Seat new) OutOfTurn
      seated_first (Forge j i k cell) = go (forge_refusal b (during m b set forged) j i k) refl
        where
          after : Seating
          after = forging (during m b set forged) j i k cell

          go : (o : Option Refusal) → forge_refusal b (during m b set forged) j i k ≡ o
              → After b (set ∷ []) (Forge j i k cell) (unless o (Seated b (during m b set forged)) (Seated b after) Done) calls
          go None e =
              let t = transcript x m (Seated b after) calls in
              before b (set ∷ sets t) (record { call = Forge j i k cell; answer = Done }) t refl refl (seated_on b set after.forged may)
          go (Some why) e = turned_seated (Forge j i k cell) why
      seated_first Close =
          let t = transcript x m (Waiting (closed x b (during m b set forged))) calls in shut b set forged (sets t) t may (waiting_on (closed x b (during m b set forged)))
      seated_first (Decision i) = go (decision_refusal b i) refl
        where
          go : (o : Option Refusal) → decision_refusal b i ≡ o
              → After b (set ∷ []) (Decision i) (unless o (Seated b (during m b set forged)) (Seated b (during m b set forged)) (Decided (b.memory i).decision)) calls
          go None e = let t = transcript x m (Seated b (during m b set forged)) calls in ask b (set ∷ sets t) i t e (seated_on b set forged may)
          go (Some why) e = turned_seated (Decision i) why

  follow : (calls : List Call) → FromWaiting calls × FromSeated calls
  follow [] = (nothing_waits, λ b set forged may. nothing_seated b set may)
  follow (c ∷ calls) = let f = follow calls in (waiting_first calls f.0 f.1 c, λ b set forged may. seated_first calls f.0 f.1 b set forged may c)

  -- a transcript that opened a block comes to rounds of it
  pub record Started (o : Opening) (calls : Transcript) : Type 0 where
    pub accepted_open : open_refusal x m o.n o.t o.proposals o.initial ≡ None
    pub rounds : ComesTo x m (opened m o.n o.t o.proposals o.initial) (sets calls) calls

  abbrev FromIdle : List Call → Type 0
  FromIdle calls = (o : Opening) → let t = transcript x m Idle calls in opening t ≡ Some o → Started o t

  abbrev StartedBy : Call → State × Answer → List Call → Type 0
  StartedBy c r calls = (o : Opening) → let t = record { call = c; answer = r.1 } ∷ transcript x m r.0 calls in opening t ≡ Some o → Started o t

  module _ (calls : List Call) (idle_on : FromIdle calls) where
    turned_idle : (c : Call) (why : Refusal) → StartedBy c (Idle, Refused why) calls
    turned_idle c why o e =
        let t = transcript x m Idle calls in
        let none = refused_adds c why in
        let s = idle_on o (sym (ap (λ added. option_or added (opening t)) none.opens) ∙ e) in
        let b = opened m o.n o.t o.proposals o.initial in
        let first : Entry = record { call = c; answer = Refused why } in record {
          accepted_open = s.accepted_open;
          rounds = subst (λ added. ComesTo x m b (added ++ sets t) (first ∷ t)) (sym none.seats) (before b (sets t) first t none.closes none.decides s.rounds);
        }

    idle_first : (c : Call) → FromIdle (c ∷ calls)
    idle_first (Open n t proposals initial) = go (open_refusal x m n t proposals initial) refl
      where
        go : (o : Option Refusal) → open_refusal x m n t proposals initial ≡ o
            → StartedBy (Open n t proposals initial) (unless o Idle (Waiting (opened m n t proposals initial)) Done) calls
        go None e o is =
            let b = opened m n t proposals initial in
            let rest = transcript x m (Waiting b) calls in
            let all = record { call = Open n t proposals initial; answer = Done } ∷ rest in
            let this : Opening = record { n = n; t = t; proposals = proposals; initial = initial } in
            let same : this ≡ o = grind arith in
            subst (λ (p : Opening). Started p all) same
            (record { accepted_open = e; rounds = before b (sets rest) (record { call = Open n t proposals initial; answer = Done }) rest refl refl ((follow calls).0 b) })
        go (Some why) e o is = turned_idle (Open n t proposals initial) why o is
    idle_first (Seat set) = turned_idle (Seat set) OutOfTurn
    idle_first (Forge j i k cell) = turned_idle (Forge j i k cell) OutOfTurn
    idle_first Close = turned_idle Close OutOfTurn
    idle_first (Decision i) = turned_idle (Decision i) OutOfTurn

  pub from_idle : (calls : List Call) → FromIdle calls
  from_idle [] o e = absurd (grind arith)
  from_idle (c ∷ calls) o e = idle_first calls (from_idle calls) c o e

  -- a call that leaves the run idle, and nothing opened after it
  abbrev QuietBy : Call → State × Answer → List Call → Type 0
  QuietBy c r calls = let log = record { call = c; answer = r.1 } ∷ transcript x m r.0 calls in opening log ≡ None → (i : ℕ) → answered log i ≡ None

  module _ (calls : List Call) (idle_on : opening (transcript x m Idle calls) ≡ None → (i : ℕ) → answered (transcript x m Idle calls) i ≡ None) where
    quiet_turned : (c : Call) (why : Refusal) → QuietBy c (Idle, Refused why) calls
    quiet_turned c why e zero = (refused_adds c why).decides
    quiet_turned c why e (suc i) = idle_on (sym (ap (λ added. option_or added (opening (transcript x m Idle calls))) (refused_adds c why).opens) ∙ e) i

    quiet_first : (c : Call) → QuietBy c (step x m Idle c) calls
    quiet_first (Open n t proposals initial) = go (open_refusal x m n t proposals initial)
      where
        go : (o : Option Refusal) → QuietBy (Open n t proposals initial) (unless o Idle (Waiting (opened m n t proposals initial)) Done) calls
        go None = λ e. absurd (grind arith)
        go (Some why) = quiet_turned (Open n t proposals initial) why
    quiet_first (Seat set) = quiet_turned (Seat set) OutOfTurn
    quiet_first (Forge j i k cell) = quiet_turned (Forge j i k cell) OutOfTurn
    quiet_first Close = quiet_turned Close OutOfTurn
    quiet_first (Decision i) = quiet_turned (Decision i) OutOfTurn

  -- where nothing was opened, no decision was answered
  pub quiet : (calls : List Call) → opening (transcript x m Idle calls) ≡ None → (i : ℕ) → answered (transcript x m Idle calls) i ≡ None
  quiet [] e i = refl
  quiet (c ∷ calls) e i = quiet_first calls (quiet calls) c e i
