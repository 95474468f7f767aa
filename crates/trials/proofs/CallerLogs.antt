-- What callers know of the transcript of their calls: an open, rounds, and decisions asked in between.
use Rattle.std.proofs.Common.{◌≡◌, ℕ, zero, suc, ◌+◌, ◌*◌, ◌<◌, ◌≤◌, refl, sym, ap, ◌∙◌, subst, List, [], ◌∷◌, ◌++◌, length, map, take, Some, None, Option, IsSome, slice_index_or, arith}
use Rattle.std.specs.Prelude.{⊤, Result, Ok, Err, IfOk}
use Rattle.std.specs.Option.{option_or}
use Rattle.values.specs.declared.refusals.Refusal.{Refusal}
use Rattle.run.specs.Calls.{said_done}
use Rattle.std.specs.List.{slice_index, All}
use Rattle.std.proofs.lemmas.List.{append-nil, append_assoc, length-append, length-map, take_all}
use Rattle.values.specs.Rules.{Rules, means}
use Rattle.values.specs.Cells.{shows}
use Rattle.values.specs.declared.kinds.Kind.{Ghosts}
use Rattle.models.specs.Laws.{Meaning, Lawful}
use Rattle.models.specs.Sets.{has}
use Rattle.protocol.specs.Machine.{Idle, Call, Open, Seat, Close, Decision, Answer, Done, Decided}
use Rattle.protocol.specs.Transcripts.{Transcript, Entry, Opening, Law, Agrees, Clean, Filled, Proposed, opening_in, sets_in, closes_in, cell_in, opening, sets, closes, answered}
use Rattle.protocol.proofs.Joined.{sets_joined, closes_joined, opening_joined, answered_later, closes_later, open_step}
use Rattle.run.specs.declared.run.Run.{Run}
use Rattle.run.specs.Runs.{setting, state, Performs}
use Rattle.run.specs.Standing.{entry, Stands, LawWith}
use Rattle.run.proofs.Chains.{stays, performed, joined, begins, goes_on, goes_further}
use Rattle.trials.specs.Callers.{Spared, Concludes, RunsRounds}

-- a transcript that answers no decision, after another that does not
unasked : (a b : Transcript) → ((i : ℕ) → answered a i ≡ None) → ((i : ℕ) → answered b i ≡ None) → (i : ℕ) → answered (a ++ b) i ≡ None
unasked [] b a_none b_none i = b_none i
unasked (e ∷ a) b a_none b_none zero = a_none zero
unasked (e ∷ a) b a_none b_none (suc i) = unasked a b (λ j. a_none (suc j)) b_none i

module _ {V R : Type 0} {kind : Ghosts V R} (m : Meaning) where
  pub no_rounds : (run : Run V R kind) → RunsRounds m [] 0 run run
  no_rounds run = record { log = []; continues = stays m run; unopened = refl; sets_are = refl; closes_are = refl; unasked = λ _. refl }

  -- one call that opens and asks nothing
  pub one_call : (c : Call) (answer : Answer) (seated : List ℕ) (closed : ℕ) (before after : Run V R kind)
      → opening_in c answer ≡ None → sets_in c answer ≡ seated → closes_in c answer ≡ closed → cell_in c answer ≡ None
      → Performs m c answer before after → RunsRounds m seated closed before after
  one_call c answer seated closed before after opens seats closing asks p = record {
    log = entry c answer ∷ [];
    continues = performed c answer before after p;
    unopened = ap (λ o. option_or o None) opens;
    sets_are = ap (λ added. added ++ []) seats ∙ append-nil seated;
    closes_are = omega (arith, closing);
    unasked = quiet;
  }
    where
      quiet : (i : ℕ) → answered (entry c answer ∷ []) i ≡ None
      quiet zero = asks
      quiet (suc i) = refl

  pub then_rounds : (first second : List ℕ) (i j : ℕ) (a b c : Run V R kind) → RunsRounds m first i a b → RunsRounds m second j b c → RunsRounds m (first ++ second) (i + j) a c
  then_rounds first second i j a b c p q = record {
    log = p.log ++ q.log;
    continues = joined a b c p.continues q.continues;
    unopened = opening_joined p.log q.log ∙ ap (λ o. option_or o (opening q.log)) p.unopened ∙ q.unopened;
    sets_are = sets_joined p.log q.log ∙ ap (λ seated. seated ++ sets q.log) p.sets_are ∙ ap (◌++◌ first) q.sets_are;
    closes_are = omega (arith, closes_joined p.log q.log, p.closes_are, q.closes_are);
    unasked = unasked p.log q.log p.unasked q.unasked;
  }

  -- a round that was seated, and is closed if the close was not refused
  pub closed_round : (set : ℕ) (before seated after : Run V R kind) (r : Result ⊤ Refusal) → RunsRounds m (set ∷ []) 0 before seated
      → Performs m Close (said_done kind.rules kind.plain r) seated after → IfOk r (λ _. RunsRounds m (set ∷ []) 1 before after)
  closed_round set before seated after (Ok x) p q = then_rounds (set ∷ []) [] 0 1 before seated after p (one_call Close Done [] 1 seated after refl refl refl refl q)
  closed_round set before seated after (Err why) p q = tt

  -- a whole round, after others
  pub one_round : (seated : List ℕ) (closed set : ℕ) (first before mid after : Run V R kind) → RunsRounds m seated closed first before
      → Performs m (Seat set) Done before mid → Performs m Close Done mid after → RunsRounds m (seated ++ set ∷ []) (closed + 1) first after
  one_round seated closed set first before mid after p q r =
      then_rounds seated (set ∷ []) closed 1 first before after p
      (then_rounds (set ∷ []) [] 0 1 before mid after (one_call (Seat set) Done (set ∷ []) 0 before mid refl refl refl refl q) (one_call Close Done [] 1 mid after refl refl refl refl r))

filled_cell : {R : Type 0} (k : Rules) (plain : R → List ℕ) (cell : Option R) → Filled (shows k plain cell) → IsSome cell
filled_cell k plain None filled = absurd (cc filled.1)
filled_cell k plain (Some x) filled = refl

empty_cell : {R : Type 0} (k : Rules) (plain : R → List ℕ) (cell : Option R) → shows k plain cell ≡ None → cell ≡ None
empty_cell k plain None e = refl
empty_cell k plain (Some x) e = absurd (cc e)

all_propose : {R : Type 0} (k : Rules) (plain : R → List ℕ) (w : List ℕ) (rows : List R) (i : ℕ) → i < length rows → All (λ row. means k plain row ≡ w) rows → slice_index_or (map Some (map (means k plain) rows)) i None ≡ Some w
all_propose k plain w [] i lt all = absurd (omega (arith, lt))
all_propose k plain w (row ∷ rest) zero lt all = ap Some (all 0 row lt)
all_propose k plain w (row ∷ rest) (suc i) lt all = all_propose k plain w rest i (omega arith) (λ j d below. let at : suc j < suc (length rest) = omega arith in all (suc j) d at)

-- rounds for the first so many of a list, which are all
pub all_rounds : {V R : Type 0} {kind : Ghosts V R} {X : Type 0} (m : Meaning) (f : X → ℕ) (xs : List X) (i : ℕ) (before after : Run V R kind) → length xs ≤ i → i ≤ length xs
    → RunsRounds m (map f (take i xs)) i before after → RunsRounds m (map f xs) (length (map f xs)) before after
all_rounds m f xs i before after ge le p = record {
  log = p.log;
  continues = p.continues;
  unopened = p.unopened;
  sets_are = p.sets_are ∙ ap (map f) (take_all i xs ge);
  closes_are = omega (arith, p.closes_are, length-map xs f);
  unasked = p.unasked;
}

-- An open, rounds, a decision, further rounds and another decision: what the law says of the two.
module _ {V R : Type 0} {kind : Ghosts V R} (m : Meaning) (o : Opening) (rows : List R) (proposed : o.proposals ≡ map (means kind.rules kind.plain) rows)
    (run opened mid end : Run V R kind) (seated1 seated2 : List ℕ) (one : RunsRounds m seated1 (length seated1) opened mid) (two : RunsRounds m seated2 (length seated2) mid end) (i j : ℕ) (a b : Option R)
    (lawful : Lawful m) (idle : state run ≡ Idle) (open_performed : Performs m (Open o.n o.t o.proposals o.initial) Done run opened)
    (first : Performs m (Decision i) (Decided (shows kind.rules kind.plain a)) mid mid) (second : LawWith end (Decision j) (Decided (shows kind.rules kind.plain b))) where
  abbrev k : Rules
  k = kind.rules

  abbrev plain : R → List ℕ
  plain = kind.plain

  abbrev d1 : Entry
  d1 = entry (Decision i) (Decided (shows k plain a))

  abbrev d2 : Entry
  d2 = entry (Decision j) (Decided (shows k plain b))

  -- the calls before the first decision, and from it on
  abbrev front : Transcript
  front = entry (Open o.n o.t o.proposals o.initial) Done ∷ one.log

  abbrev back : Transcript
  back = d1 ∷ (two.log ++ d2 ∷ [])

  -- as the calls were made, one after another
  stands : Stands (setting run) m ((front ++ d1 ∷ []) ++ two.log) end
  stands =
      goes_further mid end
      (goes_on (Decision i) _ mid mid (goes_further opened mid (goes_on (Open o.n o.t o.proposals o.initial) Done run opened (begins (setting run) m run refl idle) open_performed) one.continues) first)
      two.continues

  agrees : Agrees m (front ++ back) o
  agrees =
      let made = second (setting run) m ((front ++ d1 ∷ []) ++ two.log) lawful stands in
      (subst (Law m) (append_assoc (front ++ d1 ∷ []) two.log (d2 ∷ []) ∙ append_assoc front (d1 ∷ []) (two.log ++ d2 ∷ [])) made).opened o refl

  all_sets : sets (front ++ back) ≡ seated1 ++ seated2
  all_sets =
      sets_joined front back ∙ ap (λ seated. seated ++ sets (two.log ++ d2 ∷ [])) one.sets_are
      ∙ ap (◌++◌ seated1) (sets_joined two.log (d2 ∷ []) ∙ append-nil (sets two.log) ∙ two.sets_are)

  -- the places of the two decisions
  abbrev first_at : ℕ
  first_at = length front + 0

  abbrev second_at : ℕ
  second_at = length front + suc (length two.log + 0)

  first_told : answered (front ++ back) first_at ≡ Some (shows k plain a)
  first_told = answered_later front back 0

  second_told : answered (front ++ back) second_at ≡ Some (shows k plain b)
  second_told = answered_later front back (suc (length two.log + 0)) ∙ answered_later two.log (d2 ∷ []) 0

  first_closes : closes (take first_at (front ++ back)) ≡ length seated1
  first_closes = omega (arith, closes_later front back 0, one.closes_are)

  second_closes : closes (take second_at (front ++ back)) ≡ length seated1 + length seated2
  second_closes = omega (arith, closes_later front back (suc (length two.log + 0)), closes_later two.log (d2 ∷ []) 0, one.closes_are, two.closes_are)

  clean : (c : ℕ) → Spared (seated1 ++ seated2) o.n c → Clean (front ++ back) o c
  clean c spared = record {
    controller = spared.controller;
    collecting = ap (λ sets. has (slice_index sets (3 * c + 1)) c) all_sets ∙ spared.collecting;
    deciding = ap (λ sets. has (slice_index sets (3 * c + 2)) c) all_sets ∙ spared.deciding;
  }

  -- an accepted open took n proposals
  many : length rows ≡ o.n
  many =
      sym (length-map rows (means k plain)) ∙ sym (ap length proposed)
      ∙ (open_step (setting run) m (state run) (state opened) Done o.n o.t o.proposals o.initial open_performed.stepped refl).opens.proposals

  pub concludes : Concludes k plain o.n rows (seated1 ++ seated2) (length seated1) a b
  concludes = record {
    equal = λ c spared x y a_is b_is.
        agrees.equal c (clean c spared) first_at second_at _ _ (first_told ∙ ap (λ cell. Some (shows k plain cell)) a_is) (second_told ∙ ap (λ cell. Some (shows k plain cell)) b_is);
    filled = λ c spared enough. filled_cell k plain b (agrees.filled c (clean c spared) second_at _ second_told (omega (arith, second_closes, length-append seated1 seated2, enough)));
    early = λ few. empty_cell k plain a (agrees.early first_at _ first_told (omega (arith, first_closes, few)));
    valid = λ w all. (
      λ row is. agrees.valid w (λ i lt _. of_all w all i lt) first_at _ (first_told ∙ ap (λ cell. Some (shows k plain cell)) is),
      λ row is. agrees.valid w (λ i lt _. of_all w all i lt) second_at _ (second_told ∙ ap (λ cell. Some (shows k plain cell)) is),
    );
  }
    where
      of_all : (w : List ℕ) → All (λ row. means k plain row ≡ w) rows → (i : ℕ) → i < o.n → Proposed o i w
      of_all w all i lt = ap (λ proposals. slice_index_or (map Some proposals) i None) proposed ∙ all_propose k plain w rows i (omega (arith, many)) all
