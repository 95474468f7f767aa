-- What one entry more adds to the decisions of a transcript, and what is told of it as far as it was read.
use Rattle.std.proofs.Common.{◌≡◌, ◌≢◌, ◌⊎◌, inl, inr, ℕ, zero, suc, ◌+◌, ◌<◌, min, refl, sym, ap, subst, ◌∙◌, arith, List, [], ◌∷◌, ◌++◌, map, take, length, get_or, Some, None, Option}
use Rattle.std.specs.Prelude.{Result}
use Rattle.std.specs.Option.{option_map, option_or}
use Rattle.std.proofs.lemmas.List.{append-nil}
use Rattle.values.specs.declared.refusals.Refusal.{Refusal}
use Rattle.models.specs.declared.sets.Set.{Set}
use Rattle.protocol.specs.Transcripts.{Transcript, Entry, Opening, opening_in, sets_in, closes_in, cell_in, opening, sets}
use Rattle.protocol.proofs.Joined.{opening_joined, sets_joined, closes_joined}
use Rattle.run.specs.Standing.{entry}
use Rattle.run.specs.declared.calls.Answer.{Answer}
use Rattle.script.specs.Figures.{numbers_of}
use Rattle.script.specs.Statements.{call_by, replied, log_by}
use Rattle.script.specs.declared.figures.Figure.{Figure}
use Rattle.script.specs.declared.scripts.Line.{Line}
use Rattle.transcript.specs.Outcomes.{Answers, Agree, Differ, IsDecided, IsOutcome, AgreeIfClean}
use Rattle.transcript.specs.Tallies.{Tells}
use Rattle.transcript.specs.declared.outcomes.Decisions.{Decisions}
use Rattle.transcript.specs.declared.outcomes.Decisions.TheVariants.{Nothing, Equal, Unequal}
use Rattle.transcript.specs.declared.outcomes.Outcome.{Outcome}
use Rattle.transcript.specs.declared.tallies.Tally.{Tally}

-- the entry that is put last answers x
abbrev Adds : Entry → List ℕ → Type 0
Adds e x = cell_in e.call e.answer ≡ Some (Some x)

stays_answered : (log : Transcript) (e : Entry) (i : ℕ) (x : List ℕ) → Answers log i x → Answers (log ++ e ∷ []) i x
stays_answered [] e i x told = absurd (cc told)
stays_answered (f ∷ log) e zero x told = told
stays_answered (f ∷ log) e (suc i) x told = stays_answered log e i x told

last_answered : (log : Transcript) (e : Entry) (x : List ℕ) → Adds e x → Answers (log ++ e ∷ []) (length log) x
last_answered [] e x adds = adds
last_answered (f ∷ log) e x adds = last_answered log e x adds

was_answered : (log : Transcript) (e : Entry) (i : ℕ) (x : List ℕ) → Answers (log ++ e ∷ []) i x → Answers log i x ⊎ Adds e x
was_answered [] e zero x told = inr told
was_answered [] e (suc i) x told = absurd (cc told)
was_answered (f ∷ log) e zero x told = inl told
was_answered (f ∷ log) e (suc i) x told = was_answered log e i x told

pub first_decision : (log : Transcript) (e : Entry) (w : List ℕ) → IsDecided log Nothing → Adds e w → Agree (log ++ e ∷ []) w
first_decision log e w none adds = record {
  i = length log;
  one = last_answered log e w adds;
  all = λ j x told. elim (was_answered log e j x told) [ inl before ↦ absurd (none j x before) | inr now ↦ cc ];
}

pub agree_still : (log : Transcript) (e : Entry) (w : List ℕ) → Agree log w → ((x : List ℕ) → Adds e x → x ≡ w) → Agree (log ++ e ∷ []) w
agree_still log e w agree same = record {
  i = agree.i;
  one = stays_answered log e agree.i w agree.one;
  all = λ j x told. elim (was_answered log e j x told) [ inl before ↦ agree.all j x before | inr now ↦ same x now ];
}

pub differ_now : (log : Transcript) (e : Entry) (w x : List ℕ) → Agree log w → Adds e x → w ≢ x → Differ (log ++ e ∷ [])
differ_now log e w x agree adds ne = record {
  i = agree.i;
  j = length log;
  x = w;
  y = x;
  one = stays_answered log e agree.i w agree.one;
  other = last_answered log e x adds;
  unequal = ne;
}

pub differ_still : (log : Transcript) (e : Entry) → Differ log → Differ (log ++ e ∷ [])
differ_still log e d = record {
  i = d.i;
  j = d.j;
  x = d.x;
  y = d.y;
  one = stays_answered log e d.i d.x d.one;
  other = stays_answered log e d.j d.y d.other;
  unequal = d.unequal;
}

-- an entry that answers no filled decision
pub decided_still : (log : Transcript) (e : Entry) (d : Decisions) → ((x : List ℕ) → Adds e x → ⊥) → IsDecided log d → IsDecided (log ++ e ∷ []) d
decided_still log e Nothing empty none = λ i x told. elim (was_answered log e i x told) [ inl before ↦ none i x before | inr now ↦ empty x now ]
decided_still log e (Equal figure) empty agree = agree_still log e (numbers_of figure) agree (λ x adds. absurd (empty x adds))
decided_still log e Unequal empty differ = differ_still log e differ

first_size : (a b : Option Opening) → option_map (λ (o : Opening). o.n) (option_or a b) ≡ option_or (option_map (λ (o : Opening). o.n) a) (option_map (λ (o : Opening). o.n) b)
first_size None b = refl
first_size (Some o) b = refl

option_or-none : (a : Option Opening) → option_or a None ≡ a
option_or-none None = refl
option_or-none (Some o) = refl

-- a tally with an entry more
module _ (log : Transcript) (e : Entry) (t u : Tally) (tells : Tells log t) where
  pub tells_more : u.block ≡ option_or t.block (option_map (λ (o : Opening). o.n) (opening_in e.call e.answer))
      → u.closed ≡ t.closed + closes_in e.call e.answer
      → map (λ (s : Set). s.0) u.sets.items ≡ map (λ (s : Set). s.0) t.sets.items ++ sets_in e.call e.answer
      → IsDecided (log ++ e ∷ []) u.decisions
      → Tells (log ++ e ∷ []) u
  tells_more block closed seated decided = record {
    block = block ∙ ap (λ b. option_or b (option_map (λ (o : Opening). o.n) (opening_in e.call e.answer))) tells.block ∙ sym (first_size (opening log) (opening_in e.call e.answer)) ∙ ap (option_map (λ (o : Opening). o.n)) (ap (option_or (opening log)) (sym (option_or-none (opening_in e.call e.answer))) ∙ sym (opening_joined log (e ∷ [])));
    closed = omega (arith, closed, tells.closed, closes_joined log (e ∷ []));
    sets = seated ∙ ap (λ s. s ++ sets_in e.call e.answer) tells.sets ∙ ap (◌++◌ (sets log)) (sym (append-nil (sets_in e.call e.answer))) ∙ sym (sets_joined log (e ∷ []));
    decided = decided;
  }

-- the transcript of the first so many lines and answers: with a line more, and of all

pub log_more : (means : Figure → List ℕ) (lines : List Line) (answers : List (Result (Answer Figure) Refusal)) (n : ℕ) (line : Line) (answer : Result (Answer Figure) Refusal)
    → n < length lines → n < length answers → ((d : Line) → line ≡ get_or lines n d) → ((d : Result (Answer Figure) Refusal) → answer ≡ get_or answers n d)
    → log_by means (take (suc n) lines) (take (suc n) answers) ≡ log_by means (take n lines) (take n answers) ++ entry (call_by means line.statement) (replied answer) ∷ []
log_more means [] answers n line answer lt lt' line_is answer_is = absurd (omega arith)
log_more means (x ∷ lines) [] n line answer lt lt' line_is answer_is = absurd (omega arith)
log_more means (x ∷ lines) (y ∷ answers) zero line answer lt lt' line_is answer_is = let e : line ≡ x = line_is x in let f : answer ≡ y = answer_is y in rw (e, f) refl
log_more means (x ∷ lines) (y ∷ answers) (suc n) line answer lt lt' line_is answer_is =
    ap (◌∷◌ (entry (call_by means x.statement) (replied y))) (log_more means lines answers n line answer (omega arith) (omega arith) line_is answer_is)

pub log_whole : (means : Figure → List ℕ) (lines : List Line) (answers : List (Result (Answer Figure) Refusal)) (n : ℕ) → n ≡ min (length lines) (length answers)
    → log_by means (take n lines) (take n answers) ≡ log_by means lines answers
log_whole means [] answers zero e = refl
log_whole means [] answers (suc n) e = absurd (omega arith)
log_whole means (x ∷ lines) [] zero e = refl
log_whole means (x ∷ lines) [] (suc n) e = absurd (omega arith)
log_whole means (x ∷ lines) (y ∷ answers) zero e = absurd (omega arith)
log_whole means (x ∷ lines) (y ∷ answers) (suc n) e = ap (◌∷◌ (entry (call_by means x.statement) (replied y))) (log_whole means lines answers n (omega arith))

pub agree_if_clean : (log : Transcript) (o : Outcome) → IsOutcome log o → AgreeIfClean log o
agree_if_clean log o is m law c small in_clean unequal =
    let was = (is.clean c small).0 in_clean in
    let d : Differ log = subst (IsDecided log) unequal is.decided in
    d.unequal ((law.opened was.o was.opened).equal c was.clean d.i d.j d.x d.y d.one d.other)
