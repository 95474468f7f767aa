-- What a run answers for a decision is lawful, and how long a listing is at most.
use Rattle.std.proofs.Common.{◌≡◌, ◌≤◌, ◌<◌, ◌+◌, ◌*◌, ◌^◌, ℕ, zero, suc, arith, refl, Bool, true, false, if◌then◌else◌, List, [], ◌∷◌, ◌++◌, length, None, Some, Option, nat_lt, decimal}
use Rattle.std.proofs.lemmas.List.{length-append}
use Rattle.std.proofs.lemmas.Fmt.{length-decimal-le}
use Rattle.std.proofs.Math.Nat.{mul-le-mul_right}
use Rattle.values.specs.declared.refusals.Refusal.{Refusal}
use Rattle.values.specs.Rules.{Rules, stands, text}
use Rattle.values.specs.Cells.{shows, seen}
use Rattle.models.specs.Laws.{Meaning}
use Rattle.protocol.specs.Machine.{Setting, State, Decision, Answer, Done, Decided, Refused, unless, step, decision_refusal}
use Rattle.run.specs.declared.turns.Turn.{Turn}
use Rattle.run.specs.declared.turns.Turn.TheVariants as turns
use Rattle.run.specs.Views.{view, block_in}
use Rattle.run.specs.Stores.{store}
use Rattle.run_file.specs.declared.headers.Header.{Header}
use Rattle.run_file.specs.Texts.{shown, first_line, controller_line, controller_lines}
use Rattle.run_file.specs.Listings.{setting_of, listing}
use Rattle.run_file.specs.InCode.{IsSound, Fits}

-- what a run answers for a decision is lawful, since its state is read off its cells
module _ {R : Type 0} (k : Rules) (plain : R → List ℕ) (falls : k.allowed k.fallback ≡ true) where
  lawful_stands : (xs : List ℕ) (b : Bool) → k.allowed xs ≡ b → k.allowed (stands k xs) ≡ true
  lawful_stands xs true e = rw e e
  lawful_stands xs false e = rw e falls

  shows_sound : (cell : Option R) → IsSound k (Decided (shows k plain cell))
  shows_sound None = tt
  shows_sound (Some row) = lawful_stands (plain row) (k.allowed (plain row)) refl

  seen_sound : (cells : List (Option R)) (i : ℕ) → IsSound k (Decided (seen k plain cells i))
  seen_sound [] i = tt
  seen_sound (cell ∷ cells) zero = shows_sound cell
  seen_sound (cell ∷ cells) (suc i) = seen_sound cells i

  within_sound : (b : Bool) (cells : List (Option R)) (i : ℕ) → IsSound k (Decided (if b then seen k plain cells i else None))
  within_sound true cells i = seen_sound cells i
  within_sound false cells i = tt

  unless_sound : (why : Option Refusal) (before next : State) (answer : Answer) → IsSound k answer → IsSound k (unless why before next answer).1
  unless_sound None before next answer h = h
  unless_sound (Some why) before next answer h = tt

  pub decision_sound : (x : Setting) (m : Meaning) (turn : Turn) (cells : List (Option R)) (i : ℕ) → IsSound k (step x m (view k plain turn cells) (Decision i)).1
  decision_sound x m turns.Idle cells i = tt
  decision_sound x m (turns.Waiting b) cells i = unless_sound (decision_refusal (block_in k plain b (store b.n cells)) i) _ _ _ (within_sound (nat_lt i b.n) (store b.n cells).decisions i)
  decision_sound x m (turns.Seated b seating) cells i = unless_sound (decision_refusal (block_in k plain b (store b.n cells)) i) _ _ _ (within_sound (nat_lt i b.n) (store b.n cells).decisions i)

-- a line is short where its value is lawful
module _ (k : Rules) (most : ℕ) (five : 5 ≤ most) (fits : Fits k most) where
  shown_short : (answer : Answer) → IsSound k answer → length (shown answer) ≤ most
  shown_short Done sound = omega arith
  shown_short (Decided None) sound = omega (arith, five)
  shown_short (Decided (Some v)) sound = fits v sound
  shown_short (Refused why) sound = omega (arith, five)

  line_short : (i : ℕ) (answer : Answer) → i < 100 → IsSound k answer → length (controller_line i answer) ≤ 5 + most
  line_short i answer small sound =
      let digits : length (decimal i) ≤ 2 = length-decimal-le 2 i (omega arith) (omega arith) (omega arith) in
      let words = length-append (decimal i ++ (32 ∷ shown answer)) (10 ∷ []) in
      let front = length-append (decimal i) (32 ∷ shown answer) in
      omega (arith, digits, words, front, shown_short answer sound)

  module _ (x : Setting) (m : Meaning) (s : State) (sound : (i : ℕ) → IsSound k (step x m s (Decision i)).1) where
    lines_short : (n : ℕ) → n ≤ 16 → length (controller_lines x m s n) ≤ n * (5 + most)
    lines_short zero h = omega arith
    lines_short (suc n) h =
        let line = line_short n (step x m s (Decision n)).1 (omega arith) (sound n) in
        omega (arith, length-append (controller_lines x m s n) (controller_line n (step x m s (Decision n)).1), lines_short n (omega arith), line)

    all_lines_short : (n : ℕ) → n ≤ 16 → length (controller_lines x m s n) ≤ 16 * (5 + most)
    all_lines_short n h = omega (arith, lines_short n h, mul-le-mul_right (5 + most) h)

first_short : (h : Header) → h.n < 2 ^ 8 → h.t < 2 ^ 8 → h.rounds < 2 ^ 16 → length (first_line h) ≤ 18
first_short h n t r =
    let a : length (decimal h.n) ≤ 3 = length-decimal-le 3 h.n (omega arith) (omega arith) (omega arith) in
    let b : length (decimal h.t) ≤ 3 = length-decimal-le 3 h.t (omega arith) (omega arith) (omega arith) in
    let c : length (decimal h.rounds) ≤ 5 = length-decimal-le 5 h.rounds (omega arith) (omega arith) (omega arith) in
    omega (arith, a, b, c, length-append (text (h.n ∷ h.t ∷ h.rounds ∷ [])) (10 ∷ []), length-append (decimal h.n) (32 ∷ (decimal h.t ++ (32 ∷ decimal h.rounds))), length-append (decimal h.t) (32 ∷ decimal h.rounds))

-- the listing of a block that was opened, where a value has 19 bytes at most
pub listing_short : (k : Rules) (m : Meaning) (cells : ℕ) (h : Header) (s : State) → Fits k 19 → ((i : ℕ) → IsSound k (step (setting_of k cells) m s (Decision i)).1) → h.n ≤ 16 → h.t < 2 ^ 8 → h.rounds < 2 ^ 16
    → length (listing k m cells h s) ≤ 512
unfolding listing
listing_short k m cells h s fits sound n t r =
    let first = first_short h (omega (arith, n)) t r in
    let rest = all_lines_short k 19 (omega arith) fits (setting_of k cells) m s sound h.n n in
    omega (arith, length-append (first_line h) (controller_lines (setting_of k cells) m s h.n), first, rest)
