-- Opening the block of a run file.
use Rattle.std.proofs.Common.{◌≡◌, ◌<◌, ◌≤◌, ℕ, arith, refl, sym, ap, ◌∙◌, true, eqb, ltb, ◌||◌, List, take, Some, None, Option, map, inl, inr, ◌⊎◌, Ok, Err, Result}
use Rattle.std.specs.Prelude.{⊤}
use Rattle.std.proofs.lemmas.Bool.Decides.{nat_tests}
use Rattle.values.specs.declared.kinds.Kind.{Ghosts}
use Rattle.values.specs.declared.refusals.Refusal.{Refusal}
use Rattle.values.specs.declared.refusals.Refusal.TheVariants.{BlockSize}
use Rattle.values.specs.Rules.{means, numbers}
use Rattle.models.specs.Laws.{Meaning}
use Rattle.protocol.specs.Machine.{Setting, State, Idle, Waiting, Call, Open, Done, Refused, Answer, open_refusal, opened, unless, step, ◌when◌, ◌then◌}
use Rattle.run.specs.declared.run.Run.{Run}
use Rattle.run.specs.Turns.{size_of}
use Rattle.run.specs.Calls.{said_done}
use Rattle.run.specs.Runs.{setting, state, Performs}
use Rattle.run.specs.Promises.{block_size}
use Rattle.run.proofs.Sizes.{size_is}
use Rattle.run_file.specs.declared.headers.Header.{Header}
use Rattle.run_file.specs.declared.parts.Parts.{Parts}
use Rattle.run_file.specs.declared.stops.Stop.{Stop}
use Rattle.run_file.specs.InCode.{pieces_of, HasRows, opens, stop_at}
use Rattle.run_file.proofs.Lining.{both_none}

refused_at_once : (test : Option Refusal) (why : Refusal) (rest : Option Refusal) → test ≡ Some why → (test then rest) ≡ Some why
refused_at_once test why rest e = rw e refl

size_is_lawful : (n : ℕ) (rest : Option Refusal) → (BlockSize when (eqb n 0 || ltb 16 n) then rest) ≡ None → (0 < n) × (n ≤ 16)
size_is_lawful n rest e = let first = (both_none (BlockSize when (eqb n 0 || ltb 16 n)) rest e).0 in (grind (arith, nat_tests), grind (arith, nat_tests))

module _ (x : Setting) (m : Meaning) (n t : ℕ) where
  -- too large a block is refused for its size, whatever is proposed
  too_large : (proposals : List (List ℕ)) (initial : ℕ) → 16 < n → step x m Idle (Open n t proposals initial) ≡ (Idle, Refused BlockSize)
  too_large proposals initial many =
      let large : (eqb n 0 || ltb 16 n) ≡ true = grind (arith, nat_tests) in
      ap (λ why. unless why Idle (Waiting (opened m n t proposals initial)) Done) (refused_at_once (BlockSize when (eqb n 0 || ltb 16 n)) BlockSize _ (rw large refl))

  -- so proposals that are alike for a lawful block will do
  alike : (some all : List (List ℕ)) (initial : ℕ) → (n ≤ 16 → some ≡ all) → step x m Idle (Open n t some initial) ≡ step x m Idle (Open n t all initial)
  alike some all initial same = go (grind arith)
    where
      go : (n ≤ 16) ⊎ (16 < n) → step x m Idle (Open n t some initial) ≡ step x m Idle (Open n t all initial)
      go (inl few) = ap (λ proposals. step x m Idle (Open n t proposals initial)) (same few)
      go (inr many) = too_large some initial many ∙ sym (too_large all initial many)

  opened_size : (proposals : List (List ℕ)) (initial : ℕ) (s : State) → (s, Done) ≡ step x m Idle (Open n t proposals initial) → (block_size s ≡ n) × (0 < n) × (n ≤ 16)
  opened_size proposals initial s e = go (open_refusal x m n t proposals initial) (λ none. size_is_lawful n _ none) e
    where
      go : (why : Option Refusal) → (why ≡ None → (0 < n) × (n ≤ 16)) → (s, Done) ≡ unless why Idle (Waiting (opened m n t proposals initial)) Done → (block_size s ≡ n) × (0 < n) × (n ≤ 16)
      go None bounds e = let few = bounds refl in (ap (λ (q : State × Answer). block_size q.0) e, few.0, few.1)
      go (Some why) bounds e = let told : Done ≡ Refused why = ap (λ (q : State × Answer). q.1) e in absurd (cc told)

module _ {V R : Type 0} {kind : Ghosts V R} (m : Meaning) (h : Header) (p : Parts) (a b : Run V R kind) (answer : Result ⊤ Refusal) where
  -- the open that is performed does what the one that the file asks for does
  pub stepped : (n t some : ℕ) (rows : List R) → Performs m (Open n t (map (means kind.rules kind.plain) (take some rows)) p.initial.0) (said_done kind.rules kind.plain answer) a b
      → state a ≡ Idle → HasRows kind.rules kind.plain p.proposals rows → p.proposals.count ≡ h.n → n ≡ h.n → t ≡ h.t → (h.n ≤ 16 → some ≡ h.n)
      → (state b, said_done kind.rules kind.plain answer) ≡ step (setting a) m Idle (opens h p).call
  stepped n t some rows performs idle has_rows count n_is t_is enough =
      let proposals = map (means kind.rules kind.plain) (take some rows) in
      let all = map numbers (pieces_of p.proposals) in
      let same : h.n ≤ 16 → proposals ≡ all = λ few. ap (λ n. map (means kind.rules kind.plain) (take n rows)) (enough few ∙ sym count) ∙ has_rows (omega (arith, count, few)) in
      performs.stepped ∙ ap (λ s. step (setting a) m s (Open n t proposals p.initial.0)) idle ∙ ap (λ n. step (setting a) m Idle (Open n t proposals p.initial.0)) n_is
      ∙ ap (λ t. step (setting a) m Idle (Open h.n t proposals p.initial.0)) t_is ∙ alike (setting a) m h.n h.t proposals all p.initial.0 same

  pub size_when_done : (state b, said_done kind.rules kind.plain answer) ≡ step (setting a) m Idle (opens h p).call → stop_at None answer ≡ Ok tt → (size_of b.turn ≡ h.n) × (0 < h.n) × (h.n ≤ 16)
  size_when_done e told = go answer told e
    where
      go : (answer : Result ⊤ Refusal) → stop_at None answer ≡ Ok tt → (state b, said_done kind.rules kind.plain answer) ≡ step (setting a) m Idle (opens h p).call → (size_of b.turn ≡ h.n) × (0 < h.n) × (h.n ≤ 16)
      go (Ok x) told e = let size = opened_size (setting a) m h.n h.t (map numbers (pieces_of p.proposals)) p.initial.0 (state b) e in (sym (size_is b) ∙ size.0, size.1, size.2)
      go (Err why) told e = absurd (grind arith)

-- a refused call leaves every cell as it was
pub cells_when_refused : {V R : Type 0} {kind : Ghosts V R} {m : Meaning} {call : Call} (a b : Run V R kind) (answer : Result ⊤ Refusal) (stop : Stop) → Performs m call (said_done kind.rules kind.plain answer) a b → stop_at None answer ≡ Err stop → b.cells.now ≡ a.cells.now
cells_when_refused a b (Ok x) stop p told = absurd (grind arith)
cells_when_refused a b (Err why) stop p told = (p.refused why refl).cells
