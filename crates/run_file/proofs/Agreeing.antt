-- Decisions asked after a file's calls agree, by the agreement of the protocol.
use Rattle.std.proofs.Common.{◌≡◌, ℕ, zero, suc, ◌+◌, ◌*◌, ◌<◌, ◌≤◌, arith, refl, sym, ap, subst, ◌∙◌, Bool, true, false, cond, List, [], ◌∷◌, ◌++◌, map, length, take, drop, Some, None, Option, inl, inr, ◌⊎◌, ⊎_elim, Ok, Result, slice_index}
use Rattle.std.specs.Option.{option_or}
use Rattle.std.proofs.lemmas.Bool.{cases_lt}
use Rattle.std.proofs.lemmas.List.{append-nil, append_assoc, length-map}
use Rattle.values.specs.declared.refusals.Refusal.{Refusal}
use Rattle.values.specs.Cells.{Held}
use Rattle.values.specs.Rules.{Rules, numbers}
use Rattle.models.specs.declared.classes.Class.TheVariants.{Honest}
use Rattle.models.specs.Sets.{has}
use Rattle.models.specs.Laws.{Meaning, Lawful}
use Rattle.protocol.specs.Machine.{Setting, State, Idle, Waiting, Seated, Call, Open, Seat, Close, Decision, Answer, Done, Decided, Refused, decision_refusal, unless, step}
use Rattle.protocol.specs.Transcripts.{Transcript, accepted, Opening, sets_in, closes_in, told_cell, opening, sets, closes, answered, Clean, Filled, Proposed, Agrees, transcript, Agreement}
use Rattle.run_file.specs.declared.headers.Header.{Header}
use Rattle.run_file.specs.declared.stops.Stop.{Stop}
use Rattle.run_file.specs.Files.{pieces, number_at, laid_out, proposals, initial_set, round_sets, sets_start, forgery_lines}
use Rattle.run_file.specs.Headers.{model_of}
use Rattle.run_file.specs.Lines.{Line, line}
use Rattle.run_file.specs.Votes.{Asked, in_round, forges, lines_of, rounds_from, stopped, unless_stopped, run_through}
use Rattle.run_file.specs.Listings.{setting_of, calls_of}
use Rattle.run_file.specs.Promises.{last_set, CleanIn, HonestIn, proposal_in}
use Rattle.run_file.specs.InCode.{IsSound}
use Rattle.run_file.proofs.Ending.{file_first, file_set, file_proposal, free_last}

-- what calls that are all accepted add
abbrev all_sets : List Asked → List ℕ
all_sets [] = []
all_sets (a ∷ rest) = sets_in a.call Done ++ all_sets rest

abbrev all_closes : List Asked → ℕ
all_closes [] = 0
all_closes (a ∷ rest) = closes_in a.call Done + all_closes rest

-- an accepted call adds what it adds where the answer is done
sets_done : (call : Call) (answer : Answer) → accepted answer ≡ true → sets_in call answer ≡ sets_in call Done
sets_done (Seat set) answer e = ap (λ ok. cond ok (set ∷ []) []) e
sets_done call answer e = refl

closes_done : (call : Call) (answer : Answer) → accepted answer ≡ true → closes_in call answer ≡ closes_in call Done
closes_done Close answer e = ap (λ ok. cond ok 1 0) e
closes_done call answer e = refl

-- rounds add their sets, and a close for each; the forged lines add neither
round_sets_added : (r : ℕ) (lines : List Line) (more : List Asked) → all_sets ((map forges lines ++ (in_round r Close ∷ [])) ++ more) ≡ all_sets more
round_sets_added r [] more = refl
round_sets_added r (x ∷ lines) more = round_sets_added r lines more

round_closes_added : (r : ℕ) (lines : List Line) (more : List Asked) → all_closes ((map forges lines ++ (in_round r Close ∷ [])) ++ more) ≡ suc (all_closes more)
round_closes_added r [] more = omega arith
round_closes_added r (x ∷ lines) more = omega (arith, round_closes_added r lines more)

rounds_sets : (r : ℕ) (sets : List ℕ) (lines : List Line) → all_sets (rounds_from r sets lines) ≡ sets
rounds_sets r [] lines = refl
rounds_sets r (set ∷ sets) lines = ap (◌∷◌ set) (round_sets_added r (lines_of r lines) (rounds_from (suc r) sets lines) ∙ rounds_sets (suc r) sets lines)

rounds_closes : (r : ℕ) (sets : List ℕ) (lines : List Line) → all_closes (rounds_from r sets lines) ≡ length sets
rounds_closes r [] lines = refl
rounds_closes r (set ∷ sets) lines = omega (arith, round_closes_added r (lines_of r lines) (rounds_from (suc r) sets lines), rounds_closes (suc r) sets lines)

-- a call that stops nothing is accepted
goes_on : (round : Option ℕ) (answer : Answer) (rest : Result State Stop) (end : State) → unless_stopped (stopped round answer) rest ≡ Ok end → (accepted answer ≡ true) × (rest ≡ Ok end)
goes_on round Done rest end e = (refl, e)
goes_on round (Decided cell) rest end e = (refl, e)
goes_on round (Refused why) rest end e = absurd (grind arith)

-- a decision leaves the state alone, whether it is refused or not
unless_same : (why : Option Refusal) (s : State) (answer : Answer) → (unless why s s answer).0 ≡ s
unless_same None s answer = refl
unless_same (Some why) s answer = refl

same_state : (x : Setting) (m : Meaning) (s : State) (i : ℕ) → (step x m s (Decision i)).0 ≡ s
same_state x m Idle i = refl
same_state x m (Waiting b) i = unless_same (decision_refusal b i) (Waiting b) (Decided (b.memory i).decision)
same_state x m (Seated b s) i = unless_same (decision_refusal b i) (Seated b s) (Decided (b.memory i).decision)

-- the calls, without their rounds
abbrev calls_in : List Asked → List Call
calls_in = map (λ a. a.call)

-- the transcript of calls that are all accepted, and of more after them
module _ (x : Setting) (m : Meaning) where
  -- what a decision answers
  abbrev pub told : State → ℕ → Answer
  told s i = (step x m s (Decision i)).1

  is_end : (s end : State) → run_through x m s [] ≡ Ok end → s ≡ end
  is_end s end e = (cc)

  abbrev log : State → List Asked → List Call → Transcript
  log s asked more = transcript x m s (calls_in asked ++ more)

  ran_sets : (s end : State) (asked : List Asked) (more : List Call) → run_through x m s asked ≡ Ok end → sets (log s asked more) ≡ all_sets asked ++ sets (transcript x m end more)
  ran_sets s end [] more e = ap (λ s. sets (transcript x m s more)) (is_end s end e)
  ran_sets s end (a ∷ asked) more e =
      let on = goes_on a.round (step x m s a.call).1 (run_through x m (step x m s a.call).0 asked) end e in
      ap (λ added. added ++ sets (log (step x m s a.call).0 asked more)) (sets_done a.call (step x m s a.call).1 on.0)
      ∙ ap (λ all. sets_in a.call Done ++ all) (ran_sets (step x m s a.call).0 end asked more on.1)
      ∙ sym (append_assoc (sets_in a.call Done) (all_sets asked) (sets (transcript x m end more)))

  ran_closes : (s end : State) (asked : List Asked) (more : List Call) (k : ℕ) → run_through x m s asked ≡ Ok end
      → closes (take (length asked + k) (log s asked more)) ≡ all_closes asked + closes (take k (transcript x m end more))
  ran_closes s end [] more k e =
      let none : 0 + k ≡ k = omega arith in
      ap (λ j. closes (take j (log s [] more))) none ∙ ap (λ s. closes (take k (transcript x m s more))) (is_end s end e) ∙ omega arith
  ran_closes s end (a ∷ asked) more k e =
      let on = goes_on a.round (step x m s a.call).1 (run_through x m (step x m s a.call).0 asked) end e in
      let next : suc (length asked) + k ≡ suc (length asked + k) = omega arith in
      ap (λ j. closes (take j (log s (a ∷ asked) more))) next
      ∙ ap (λ added. added + closes (take (length asked + k) (log (step x m s a.call).0 asked more))) (closes_done a.call (step x m s a.call).1 on.0)
      ∙ ap (λ all. closes_in a.call Done + all) (ran_closes (step x m s a.call).0 end asked more k on.1)
      ∙ omega arith

  ran_answered : (s end : State) (asked : List Asked) (more : List Call) (k : ℕ) → run_through x m s asked ≡ Ok end
      → answered (log s asked more) (length asked + k) ≡ answered (transcript x m end more) k
  ran_answered s end [] more k e =
      let none : 0 + k ≡ k = omega arith in
      ap (answered (log s [] more)) none ∙ ap (λ s. answered (transcript x m s more) k) (is_end s end e)
  ran_answered s end (a ∷ asked) more k e =
      let on = goes_on a.round (step x m s a.call).1 (run_through x m (step x m s a.call).0 asked) end e in
      let next : suc (length asked) + k ≡ suc (length asked + k) = omega arith in
      ap (answered (log s (a ∷ asked) more)) next ∙ ran_answered (step x m s a.call).0 end asked more k on.1

  -- two decisions after them, from the open on
  module _ (end : State) (asked : List Asked) (ran : run_through x m Idle asked ≡ Ok end) (i j : ℕ) where
    abbrev both : Transcript
    both = log Idle asked (Decision i ∷ Decision j ∷ [])

    both_sets : sets both ≡ all_sets asked
    both_sets = ran_sets Idle end asked (Decision i ∷ Decision j ∷ []) ran ∙ append-nil (all_sets asked)

    first_told : answered both (length asked + 0) ≡ told_cell (told end i)
    first_told = ran_answered Idle end asked (Decision i ∷ Decision j ∷ []) 0 ran

    second_told : answered both (length asked + 1) ≡ told_cell (told end j)
    second_told = ran_answered Idle end asked (Decision i ∷ Decision j ∷ []) 1 ran ∙ ap (λ s. told_cell (step x m s (Decision j)).1) (same_state x m end i)

    before_closes : closes (take (length asked + 0) both) ≡ all_closes asked
    before_closes = ran_closes Idle end asked (Decision i ∷ Decision j ∷ []) 0 ran ∙ omega arith

-- where the answers of all n controllers that are not seated are filled, and filled ones are equal, they give one value
module _ (answer : ℕ → Answer) (n : ℕ) (seated : ℕ → Bool) (filled : (i : ℕ) → i < n → seated i ≡ false → (v : List ℕ) × (answer i ≡ Decided (Some v)))
    (equal : (i j : ℕ) (v w : List ℕ) → answer i ≡ Decided (Some v) → answer j ≡ Decided (Some w) → v ≡ w)
    (Good : List ℕ → Type 0) (good : (i : ℕ) (v : List ℕ) → answer i ≡ Decided (Some v) → Good v) (default : List ℕ) (default_good : Good default) where
  abbrev AllGive : List ℕ → ℕ → Type 0
  AllGive v j = (i : ℕ) → i < j → seated i ≡ false → answer i ≡ Decided (Some v)

  give_more : (j : ℕ) → j < n → (b : Bool) → seated j ≡ b → (v : List ℕ) × Good v × AllGive v j → (v : List ℕ) × Good v × AllGive v (suc j)
  give_more j lt true e so_far = (so_far.0, so_far.1, λ i below free. ⊎_elim (λ lower. so_far.2 i lower free) (λ ge. let last : i ≡ j = omega arith in cc) (cases_lt i j))
  give_more j lt false e so_far =
      let v = filled j lt e in
      (v.0, good j v.0 v.1, λ i below free. let w = filled i (omega arith) free in w.1 ∙ ap (λ v. Decided (Some v)) (equal i j w.0 v.0 w.1 v.1))

  give_one : (j : ℕ) → j ≤ n → (v : List ℕ) × Good v × AllGive v j
  give_one zero le = (default, default_good, λ i lt. absurd (omega arith))
  give_one (suc j) le = give_more j (omega arith) (seated j) refl (give_one j (omega arith))

-- an opened file whose calls were all accepted
module _ (x : Setting) (m : Meaning) (o : Opening) (seated : List ℕ) (lines : List Line) (end : State) where
  abbrev asked : List Asked
  asked = record { call = Open o.n o.t o.proposals o.initial; round = None } ∷ rounds_from 0 seated lines

  module _ (agreement : Agreement) (lawful : Lawful m) (ran : run_through x m Idle asked ≡ Ok end) where
    agrees : (i j : ℕ) → Agrees m (both x m end asked ran i j) o
    agrees i j =
        let on = goes_on None (step x m Idle (Open o.n o.t o.proposals o.initial)).1 (run_through x m (step x m Idle (Open o.n o.t o.proposals o.initial)).0 (rounds_from 0 seated lines)) end ran in
        (agreement x m lawful (calls_in asked ++ (Decision i ∷ Decision j ∷ []))).opened o
        (ap (λ ok. option_or (cond ok (Some o) None) (opening (log x m (step x m Idle (Open o.n o.t o.proposals o.initial)).0 (rounds_from 0 seated lines) (Decision i ∷ Decision j ∷ [])))) on.0)

    all_seated : (i j : ℕ) → sets (both x m end asked ran i j) ≡ seated
    all_seated i j = both_sets x m end asked ran i j ∙ rounds_sets 0 seated lines

    all_closed : (i : ℕ) → closes (take (length asked + 0) (both x m end asked ran i i)) ≡ length seated
    all_closed i = omega (arith, before_closes x m end asked ran i i, rounds_closes 0 seated lines)

    told_first : (i j : ℕ) (cell : Held) → told x m end i ≡ Decided cell → answered (both x m end asked ran i j) (length asked + 0) ≡ Some cell
    told_first i j cell e = first_told x m end asked ran i j ∙ ap told_cell e

    -- with too few rounds a decision is empty
    early_is : length seated < 3 * o.n → (i : ℕ) (cell : Held) → told x m end i ≡ Decided cell → cell ≡ None
    early_is few i cell e = (agrees i i).early (length asked + 0) cell (told_first i i cell e) (omega (arith, all_closed i, few))

    -- a filled one is what all who are honest in round 0 proposed
    valid_is : (w : List ℕ) → ((i : ℕ) → i < o.n → 0 < length seated → m.class o.initial (slice_index seated 0) o.t i ≡ Honest → Proposed o i w) → (i : ℕ) (v : List ℕ) → told x m end i ≡ Decided (Some v) → v ≡ w
    valid_is w proposed i v e =
        let all = all_seated i i in
        (agrees i i).valid w
        (λ j lt honest. proposed j lt (subst (λ sets. 0 < length sets) all honest.reached) (ap (λ sets. m.class o.initial (slice_index sets 0) o.t j) (sym all) ∙ honest.honest))
        (length asked + 0) v (told_first i i (Some v) e)

    -- with a clean coordinator and enough rounds it is filled, and two filled ones are equal
    module _ (c : ℕ) (lt : c < o.n) (one : has (slice_index seated (3 * c + 1)) c ≡ false) (two : has (slice_index seated (3 * c + 2)) c ≡ false) (enough : 3 * o.n ≤ length seated) where
      clean_is : (i j : ℕ) → Clean (both x m end asked ran i j) o c
      clean_is i j = record {
        controller = lt;
        collecting = ap (λ all. has (slice_index all (3 * c + 1)) c) (all_seated i j) ∙ one;
        deciding = ap (λ all. has (slice_index all (3 * c + 2)) c) (all_seated i j) ∙ two;
      }

      filled_is : (i : ℕ) (cell : Held) → told x m end i ≡ Decided cell → Filled cell
      filled_is i cell e = (agrees i i).filled c (clean_is i i) (length asked + 0) cell (told_first i i cell e) (omega (arith, all_closed i, enough))

      equal_are : (i j : ℕ) (v w : List ℕ) → told x m end i ≡ Decided (Some v) → told x m end j ≡ Decided (Some w) → v ≡ w
      equal_are i j v w e f = (agrees i j).equal c (clean_is i j) (length asked + 0) (length asked + 1) v w (told_first i j (Some v) e) (second_told x m end asked ran i j ∙ ap told_cell f)

-- there are as many pieces as are counted
pieces_count : (width count : ℕ) (bytes : List ℕ) → length (pieces width count bytes) ≡ count
pieces_count width zero bytes = refl
pieces_count width (suc count) bytes = ap suc (pieces_count width count (drop width bytes))

-- a file whose calls are all accepted under its model
module _ (agreement : Agreement) (k : Rules) (cells : ℕ) (h : Header) (lawful : Lawful (model_of h)) (bytes : List ℕ) (laid : laid_out k.width h bytes ≡ true) (s : State)
    (ran : run_through (setting_of k cells) (model_of h) Idle (calls_of k h bytes) ≡ Ok s) where
  abbrev opening_of : Opening
  opening_of = record { n = h.n; t = h.t; proposals = map numbers (proposals k.width h bytes); initial = initial_set k.width h bytes }

  abbrev seated_of : List ℕ
  seated_of = round_sets k.width h bytes

  abbrev lines_in : List Line
  lines_in = map line (forgery_lines k.width h bytes)

  abbrev answer : ℕ → Answer
  answer = told (setting_of k cells) (model_of h) s

  -- who is not seated at the end
  abbrev Free : ℕ → Type 0
  Free i = has (last_set h bytes) i ≡ false

  count : length seated_of ≡ h.rounds
  count = let rest = drop (sets_start k.width h + 2) bytes in length-map (pieces 2 h.rounds rest) (λ two. number_at two 0) ∙ pieces_count 2 h.rounds rest

  cell_of : (i : ℕ) → i < h.n → Free i → (cell : Held) × (answer i ≡ Decided cell)
  cell_of = free_last k (model_of h) cells h bytes laid s ran

  -- with fewer than 3n rounds every decision is empty
  pub early : h.rounds < 3 * h.n → (i : ℕ) → i < h.n → Free i → answer i ≡ Decided None
  early few i lt free =
      let cell = cell_of i lt free in
      cell.1 ∙ ap Decided (early_is (setting_of k cells) (model_of h) opening_of seated_of lines_in s agreement lawful ran (omega (arith, count, few)) i cell.0 cell.1)

  -- where all who are honest in round 0 proposed w, it is empty or w
  none_or : (w : List ℕ) (i : ℕ) (cell : Held) → answer i ≡ Decided cell → ((v : List ℕ) → answer i ≡ Decided (Some v) → v ≡ w) → (answer i ≡ Decided None) ⊎ (answer i ≡ Decided (Some w))
  none_or w i None e only = inl e
  none_or w i (Some v) e only = inr (e ∙ ap (λ v. Decided (Some v)) (only v e))

  honest_in : (i : ℕ) → 0 < h.rounds → (model_of h).class opening_of.initial (slice_index seated_of 0) h.t i ≡ Honest → HonestIn h bytes i
  honest_in i reached e =
      let first = file_first k h bytes laid in
      let set = file_set k h bytes laid 0 reached in
      record { reached = reached; honest = (cc) }

  pub valid : (w : List ℕ) → ((i : ℕ) → i < h.n → HonestIn h bytes i → proposal_in k h bytes i ≡ w) → (i : ℕ) → i < h.n → Free i → (answer i ≡ Decided None) ⊎ (answer i ≡ Decided (Some w))
  valid w proposed i lt free =
      let cell = cell_of i lt free in
      let all : (j : ℕ) → j < h.n → 0 < length seated_of → (model_of h).class opening_of.initial (slice_index seated_of 0) h.t j ≡ Honest → Proposed opening_of j w =
      λ j lt reached e. file_proposal k h bytes laid j lt ∙ ap Some (proposed j lt (honest_in j (omega (arith, count, reached)) e)) in
      none_or w i cell.0 cell.1 (valid_is (setting_of k cells) (model_of h) opening_of seated_of lines_in s agreement lawful ran w all i)

  -- with a clean coordinator and 3n rounds all are one lawful value
  pub one_value : k.allowed k.fallback ≡ true → ((i : ℕ) → IsSound k (answer i)) → (c : ℕ) → CleanIn h bytes c → 3 * h.n ≤ h.rounds
      → (v : List ℕ) × (k.allowed v ≡ true) × ((i : ℕ) → i < h.n → Free i → answer i ≡ Decided (Some v))
  one_value falls sound c clean enough =
      let lt = clean.controller in
      let one = ap (λ set. has set c) (file_set k h bytes laid (3 * c + 1) (omega arith)) ∙ clean.collecting in
      let two = ap (λ set. has set c) (file_set k h bytes laid (3 * c + 2) (omega arith)) ∙ clean.deciding in
      let long : 3 * h.n ≤ length seated_of = omega (arith, count, enough) in
      give_one answer h.n (has (last_set h bytes))
      (λ i lt free.
      let cell = cell_of i lt free in
      let f = filled_is (setting_of k cells) (model_of h) opening_of seated_of lines_in s agreement lawful ran c clean.controller one two long i cell.0 cell.1 in
      (f.0, cell.1 ∙ ap Decided f.1))
      (equal_are (setting_of k cells) (model_of h) opening_of seated_of lines_in s agreement lawful ran c clean.controller one two long)
      (λ v. k.allowed v ≡ true) (λ i v e. subst (IsSound k) e (sound i)) k.fallback falls h.n (omega arith)
