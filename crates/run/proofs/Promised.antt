-- The published rounds and the law of transcripts, from the machine's step.
use Rattle.std.proofs.Common.{◌≡◌, ℕ, ◌<◌, ◌≤◌, ◌+◌, arith, sym, ap, subst, ◌∙◌, List, [], ◌∷◌, ◌++◌, Option}
use Rattle.values.specs.Rules.{Rules}
use Rattle.models.specs.Laws.{Meaning}
use Rattle.models.specs.declared.standards.Standard.TheVariants.{Aware, Unaware, Carried}
use Rattle.models.specs.Standards.{standard}
use Rattle.models.specs.Stamps.{stamped}
use Rattle.protocol.specs.Rounds.{Memory}
use Rattle.protocol.specs.Machine.{Setting, Block, Seating, State, Idle, Waiting, Seated, Close, Decision, Answer, closed, step}
use Rattle.protocol.specs.Publications.{Algorithm, Sending, Algorithm1, Algorithm2, Algorithm3}
use Rattle.protocol.specs.Compared.{Sized, Runs, RunsAnyRound, RunsAlgorithm1, RunsAlgorithm2, RunsAlgorithm3, RunsAfterCalls, Makes, MakesAfter}
use Rattle.protocol.specs.AnyCounts.{AnyRound, process1, process2}
use Rattle.protocol.specs.MachineLaws.{IsRoundOf, RoundsAreOfTheirCalls}
use Rattle.protocol.specs.Transcripts.{Transcript, Law, transcript, state_after, Agreement}
use Rattle.run.specs.declared.turns.Turn.{Turn}
use Rattle.run.specs.declared.turns.Turn.TheVariants as turns
use Rattle.run.specs.Views.{view}
use Rattle.run.specs.Promises.{ClosesAnyRound, Closes, Published, ClosesAfter}
use Rattle.values.specs.declared.kinds.Kind.{Ghosts}
use Rattle.run.specs.declared.run.Run.{Run}
use Rattle.run.specs.Runs.{setting, state}
use Rattle.run.specs.Standing.{entry, Stands, LawWith}
use Rattle.protocol.proofs.Joined.{transcript_joined}

-- the block of a state, and the round that it has begun
block_of : State → Block → Block
block_of Idle d = d
block_of (Waiting b) d = b
block_of (Seated b s) d = b

-- the sizes of a block whose round is begun
pub record Fits (before : State) : Type 0 where
  pub size : (b : Block) (s : Seating) → before ≡ Seated b s → b.n ≤ 16
  pub faults : (b : Block) (s : Seating) → before ≡ Seated b s → b.t < b.n
  pub resilient : (b : Block) (s : Seating) → before ≡ Seated b s → b.counts.b + b.counts.e + b.counts.l < b.n

module _ {R : Type 0} (k : Rules) (plain : R → List ℕ) where
  pub fits : (turn : Turn) (cells : List (Option R)) → Fits (view k plain turn cells)
  unfolding block_of
  fits turns.Idle cells = record { size = λ b s e. absurd (grind arith); faults = λ b s e. absurd (grind arith); resilient = λ b s e. absurd (grind arith) }
  fits (turns.Waiting own) cells = record { size = λ b s e. absurd (grind arith); faults = λ b s e. absurd (grind arith); resilient = λ b s e. absurd (grind arith) }
  fits (turns.Seated own seating) cells = record {
    size = λ b s e. subst (λ (b : Block). b.n ≤ 16) (ap (λ s. block_of s b) e) own.size;
    faults = λ b s e. subst (λ (b : Block). b.t < b.n) (ap (λ s. block_of s b) e) own.faults;
    resilient = λ b s e. subst (λ (b : Block). b.counts.b + b.counts.e + b.counts.l < b.n) (ap (λ s. block_of s b) e) own.resilient;
  }

module _ (x : Setting) (m' : Meaning) (before next : State) (answer : Answer) (stepped : (next, answer) ≡ step x m' before Close) where
  -- the block that a close leaves
  closed_is : (b b' : Block) (s : Seating) → before ≡ Seated b s → next ≡ Waiting b' → b' ≡ closed x b s
  unfolding block_of
  closed_is b b' s was is =
      let ends : next ≡ Waiting (closed x b s) = ap (λ p. p.0) stepped ∙ ap (λ (s : State). (step x m' s Close).0) was in
      ap (λ s. block_of s b) (sym is ∙ ends)

  module _ (fits : Fits before) where
    pub closes_any : RunsAnyRound → ClosesAnyRound x before next
    closes_any runs b b' s was is = subst (Makes (λ own. own) (λ n t. AnyRound n b.counts) x b s) (sym (closed_is b b' s was is)) (runs x b s (fits.resilient b s was))

    closes : {P : Type 0} (m : Meaning) (process : Memory → P) (algorithm : Algorithm P) → Runs m process algorithm → Closes m process algorithm x before next
    closes m process algorithm runs b b' s was is counts =
        let sized : Sized m b = record { size = fits.size b s was; faults = fits.faults b s was; counts = counts; resilient = subst (λ c. c.b + c.e + c.l < b.n) counts (fits.resilient b s was) } in
        subst (Makes process algorithm x b s) (sym (closed_is b b' s was is)) (runs x b s sized)

    pub published : RunsAlgorithm1 → RunsAlgorithm2 → RunsAlgorithm3 → Published x before next
    published one two three = record { algorithm1 = closes (standard Unaware) process1 Algorithm1 one; algorithm2 = closes (stamped (standard Aware)) process2 Algorithm2 two; algorithm3 = closes (stamped (standard Carried)) process2 Algorithm3 three }

-- where nothing was altered nothing was closed
pub unclosed : {V R : Type 0} {kind : Ghosts V R} (run : Run V R kind) {P : Type 0} (m : Meaning) (process : Memory → P) (algorithm : Algorithm P) (cured : Sending)
    → ClosesAfter m process algorithm cured run run
unclosed run m process algorithm cured x log stands b b' s was is = let never : Seated b s ≡ Waiting b' = sym was ∙ is in absurd (cc never)

-- a close after the calls that the run stands after
module _ {V R : Type 0} {kind : Ghosts V R} (before after : Run V R kind) (m' : Meaning) (answer : Answer) (stepped : (state after, answer) ≡ step (setting before) m' (state before) Close) where
  pub closes_after : {P : Type 0} (m : Meaning) (process : Memory → P) (algorithm : Algorithm P) (cured : Sending)
      → RunsAfterCalls m process algorithm cured → ClosesAfter m process algorithm cured before after
  closes_after m process algorithm cured runs x log stands b b' s was is =
      let same : b' ≡ closed x b s = closed_is (setting before) m' (state before) (state after) answer stepped b b' s was is ∙ ap (λ (x : Setting). closed x b s) stands.setting_is in
      subst (MakesAfter process algorithm cured x b s) (sym same) (runs x stands.calls b s (stands.state_is ∙ was))

-- a round that is seated is that of the calls that the run stands after
pub round_of_calls : {V R : Type 0} {kind : Ghosts V R} (run : Run V R kind) (x : Setting) (m : Meaning) (log : Transcript) → Stands x m log run
    → (b : Block) (s : Seating) → state run ≡ Seated b s → RoundsAreOfTheirCalls → IsRoundOf log b s
round_of_calls run x m log stands b s was rounds = subst (λ (log : Transcript). IsRoundOf log b s) stands.log_is (rounds x m stands.calls b s (stands.state_is ∙ was))

-- a decision's answer, after the transcript of calls that the run stands after
pub law_with : {V R : Type 0} {kind : Ghosts V R} → Agreement → (run : Run V R kind) (i : ℕ) (answer : Answer)
    → ((m : Meaning) → (state run, answer) ≡ step (setting run) m (state run) (Decision i)) → LawWith run (Decision i) answer
law_with agreement run i answer told x m log lawful stands =
    let calls = stands.calls in
    let is : (step x m (state_after x m Idle calls) (Decision i)).1 ≡ answer =
    ap (λ (s : State). (step x m s (Decision i)).1) stands.state_is ∙ ap (λ (x : Setting). (step x m (state run) (Decision i)).1) (sym stands.setting_is) ∙ ap (λ p. p.1) (sym (told m)) in
    let all : transcript x m Idle (calls ++ Decision i ∷ []) ≡ log ++ (entry (Decision i) answer ∷ []) =
    transcript_joined x m Idle calls (Decision i ∷ []) ∙ ap (λ done. done ++ (entry (Decision i) (step x m (state_after x m Idle calls) (Decision i)).1 ∷ [])) stands.log_is ∙ ap (λ a. log ++ (entry (Decision i) a ∷ [])) is in
    subst (Law m) all (agreement x m lawful (calls ++ Decision i ∷ []))
