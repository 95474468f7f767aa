-- More cells than the largest block needs serve no call.
use Rattle.std.proofs.Common.{◌≡◌, ℕ, ◌+◌, ◌*◌, ◌≤◌, min, Bool, true, false, ◌||◌, List, [], ◌∷◌, map, Option, Result, ◌==◌, nat_lt, nat_le, not, length, refl, ap, ◌∙◌, arith}
use Rattle.std.proofs.Math.Nat.{mul-le-mul_left}
use Rattle.std.proofs.lemmas.Bool.Decides.{nat_tests}
use Rattle.values.specs.declared.refusals.Refusal.{Refusal}
use Rattle.values.specs.declared.refusals.Refusal.TheVariants.{BlockSize, FaultCount, Resilience, StoreSize, ProposalCount, SetMembers}
use Rattle.values.specs.Rules.{Rules}
use Rattle.models.specs.Laws.{Meaning}
use Rattle.protocol.specs.Machine.{State, Idle, Waiting, Seated, Call, Open, Seat, Forge, Close, Decision, needed, step, open_refusal, misfits, unless, opened, Done, ◌when◌, ◌then◌}
use Rattle.protocol.specs.Transcripts.{transcript}
use Rattle.run.specs.declared.layout.TheConstants.{MOST_CELLS}
use Rattle.transcript.specs.Rows.{over_cells, calls_under, ArePerformed}
use Rattle.run.specs.declared.calls.Answer.{Answer}
use Rattle.script.specs.declared.figures.Figure.{Figure}
use Rattle.script.specs.declared.scripts.Line.{Line}

most_needed : (n : ℕ) → n ≤ 16 → needed n ≤ MOST_CELLS
most_needed n h =
    let square : n * n ≤ n * 16 = mul-le-mul_left n h in
    let cube : n * n * n ≤ n * n * 16 = mul-le-mul_left (n * n) h in
    omega arith

enough : (cells n : ℕ) → n ≤ 16 → nat_lt (min cells MOST_CELLS) (needed n) ≡ nat_lt cells (needed n)
enough cells n h = let most = most_needed n h in grind (arith, nat_tests, most)

-- what comes behind the size of the block is asked only of a block of a right size
behind : (wrong : Bool) (rest : Bool → Option Refusal) (x y : Bool) → (wrong ≡ false → x ≡ y) → (BlockSize when wrong then rest x) ≡ (BlockSize when wrong then rest y)
behind true rest x y h = refl
behind false rest x y h = ap rest (h refl)

right : (n : ℕ) → (n == 0 || nat_lt 16 n) ≡ false → n ≤ 16
right n e = grind (arith, nat_tests, e)

same_refusal : (k : Rules) (cells : ℕ) (m : Meaning) (n t : ℕ) (proposals : List (List ℕ)) (initial : ℕ)
    → open_refusal (over_cells k (min cells MOST_CELLS)) m n t proposals initial ≡ open_refusal (over_cells k cells) m n t proposals initial
same_refusal k cells m n t proposals initial =
    behind (n == 0 || nat_lt 16 n) (λ few. FaultCount when nat_le n t then Resilience when nat_le n ((m.counts t).b + (m.counts t).e + (m.counts t).l)
    then StoreSize when few then ProposalCount when not (length proposals == n) then SetMembers when misfits n t initial)
    (nat_lt (min cells MOST_CELLS) (needed n)) (nat_lt cells (needed n)) (λ e. enough cells n (right n e))

same_step : (k : Rules) (cells : ℕ) (m : Meaning) (s : State) (c : Call) → step (over_cells k (min cells MOST_CELLS)) m s c ≡ step (over_cells k cells) m s c
same_step k cells m Idle (Open n t proposals initial) = ap (λ refusal. unless refusal Idle (Waiting (opened m n t proposals initial)) Done) (same_refusal k cells m n t proposals initial)
same_step k cells m Idle (Seat set) = refl
same_step k cells m Idle (Forge j i column cell) = refl
same_step k cells m Idle Close = refl
same_step k cells m Idle (Decision i) = refl
same_step k cells m (Waiting b) (Open n t proposals initial) = refl
same_step k cells m (Waiting b) (Seat set) = refl
same_step k cells m (Waiting b) (Forge j i column cell) = refl
same_step k cells m (Waiting b) Close = refl
same_step k cells m (Waiting b) (Decision i) = refl
same_step k cells m (Seated b s) (Open n t proposals initial) = refl
same_step k cells m (Seated b s) (Seat set) = refl
same_step k cells m (Seated b s) (Forge j i column cell) = refl
same_step k cells m (Seated b s) Close = refl
same_step k cells m (Seated b s) (Decision i) = refl

pub same_transcript : (k : Rules) (cells : ℕ) (m : Meaning) (s : State) (calls : List Call) → transcript (over_cells k (min cells MOST_CELLS)) m s calls ≡ transcript (over_cells k cells) m s calls
same_transcript k cells m s [] = refl
same_transcript k cells m s (c ∷ calls) =
    let same = same_step k cells m s c in
    (λ i. record { call = c; answer = (same i).1 } ∷ transcript (over_cells k (min cells MOST_CELLS)) m (same i).0 calls)
    ∙ ap (λ rest. record { call = c; answer = (step (over_cells k cells) m s c).1 } ∷ rest) (same_transcript k cells m (step (over_cells k cells) m s c).0 calls)

pub sufficing : (k : Rules) (cells : ℕ) (m : Meaning) (lines : List Line) (answers : List (Result (Answer Figure) Refusal)) → ArePerformed k (min cells MOST_CELLS) m lines answers → ArePerformed k cells m lines answers
sufficing k cells m lines answers h = record {
  answered = h.answered ∙ ap (map (λ e. e.answer)) (same_transcript k cells m Idle (calls_under k lines));
  law = h.law;
}
