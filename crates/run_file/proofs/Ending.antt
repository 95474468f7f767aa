-- What a decision answers after a file's calls: it is refused to the members of the last set, and to no other controller.
use Rattle.std.proofs.Common.{◌≡◌, ℕ, zero, suc, ◌+◌, ◌*◌, ◌<◌, arith, refl, ap, ◌∙◌, Bool, true, false, leb, List, [], ◌∷◌, ◌++◌, map, take, drop, None, Some, Option, Ok, slice_index, slice_index_or}
use Rattle.std.proofs.lemmas.Bool.Decides.{nat_tests}
use Rattle.std.proofs.lemmas.Simd.{map-map}
use Rattle.std.proofs.lemmas.List.{get_or-take, get_or-drop, drop-drop}
use Rattle.values.specs.declared.refusals.Refusal.{Refusal}
use Rattle.values.specs.declared.refusals.Refusal.TheVariants.{WasSeated}
use Rattle.values.specs.Cells.{Held}
use Rattle.values.specs.Rules.{Rules, numbers}
use Rattle.models.specs.Sets.{has}
use Rattle.models.specs.Laws.{Meaning}
use Rattle.protocol.specs.Machine.{
  Setting,
  State,
  Idle,
  Waiting,
  Seated,
  Block,
  Seating,
  Close,
  Decision,
  Done,
  Decided,
  Refused,
  open_refusal,
  seat_refusal,
  forge_refusal,
  opened,
  seating,
  forging,
  closed,
  ◌when◌,
  unless,
  step,
}
use Rattle.run_file.specs.declared.headers.Header.{Header}
use Rattle.run_file.specs.Files.{byte, number_at, pieces, proposals, initial_set, round_sets, sets_start, laid_out, forgery_lines}
use Rattle.run_file.specs.Lines.{Line, line, cell_of}
use Rattle.run_file.specs.Votes.{Asked, in_round, forges, lines_of, rounds_from, stopped, unless_stopped, run_through}
use Rattle.run_file.specs.Listings.{setting_of, calls_of}
use Rattle.run_file.specs.Promises.{first_set, set_in, last_set, proposal_in}

-- what is read off piece i of some that lie one after another, from a place on
piece_at : {A : Type 0} (f : List ℕ → A) (none : A) (width : ℕ) (bytes : List ℕ) (n at i : ℕ) → i < n → slice_index_or (map f (pieces width n (drop at bytes))) i none ≡ f (take width (drop (at + width * i) bytes))
piece_at f none width bytes zero at i lt = absurd (omega arith)
piece_at f none width bytes (suc n) at zero lt = ap (λ at. f (take width (drop at bytes))) (omega arith)
piece_at f none width bytes (suc n) at (suc i) lt =
    ap (λ rest. slice_index_or (map f (pieces width n rest)) i none) (drop-drop width at bytes)
    ∙ piece_at f none width bytes n (at + width) i (omega arith)
    ∙ ap (λ at. f (take width (drop at bytes))) (omega arith)

-- what a piece of two bytes holds is the number at its place
piece_number : (bytes : List ℕ) (at : ℕ) → number_at (take 2 (drop at bytes)) 0 ≡ number_at bytes at
piece_number bytes at =
    let low : byte (take 2 (drop at bytes)) 0 ≡ byte bytes at = get_or-take 2 (drop at bytes) 0 0 (omega arith) ∙ get_or-drop at bytes 0 0 ∙ ap (byte bytes) (omega arith) in
    let high : byte (take 2 (drop at bytes)) 1 ≡ byte bytes (at + 1) = get_or-take 2 (drop at bytes) 1 0 (omega arith) ∙ get_or-drop at bytes 1 0 in
    omega arith

-- the sets and the proposals that are read stand at their places in the file
module _ (k : Rules) (h : Header) (bytes : List ℕ) (laid : laid_out k.width h bytes ≡ true) where
  sets_there : sets_start k.width h ≡ h.sets_at
  sets_there = grind (arith, nat_tests)

  pub file_first : initial_set k.width h bytes ≡ first_set h bytes
  file_first = ap (number_at bytes) sets_there

  pub file_set : (r : ℕ) → r < h.rounds → slice_index (round_sets k.width h bytes) r ≡ set_in h bytes r
  file_set r lt =
      piece_at (λ two. number_at two 0) 0 2 bytes h.rounds (sets_start k.width h + 2) r lt
      ∙ piece_number bytes (sets_start k.width h + 2 + 2 * r)
      ∙ ap (number_at bytes) (omega (arith, sets_there))

  pub file_proposal : (i : ℕ) → i < h.n → slice_index_or (map Some (map numbers (proposals k.width h bytes))) i None ≡ Some (proposal_in k h bytes i)
  file_proposal i lt =
      let there : 16 ≡ h.proposals_at = grind (arith, nat_tests) in
      ap (λ values. slice_index_or values i None) (map-map Some numbers (proposals k.width h bytes))
      ∙ piece_at (λ value. Some (numbers value)) None k.width bytes h.n 16 i lt
      ∙ ap (λ at. Some (numbers (take k.width (drop (at + k.width * i) bytes)))) there

-- the last of some sets, or the one before them where there is none
abbrev last_of : ℕ → List ℕ → ℕ
last_of set [] = set
last_of set (next ∷ sets) = last_of next sets

last_number : (bytes : List ℕ) (n at : ℕ) → last_of (number_at bytes at) (map (λ two. number_at two 0) (pieces 2 n (drop (at + 2) bytes))) ≡ number_at bytes (at + 2 * n)
last_number bytes zero at = ap (number_at bytes) (omega arith)
last_number bytes (suc n) at =
    let rest = pieces 2 n (drop 2 (drop (at + 2) bytes)) in
    ap (λ set. last_of set (map (λ two. number_at two 0) rest)) (piece_number bytes (at + 2))
    ∙ ap (λ bytes_left. last_of (number_at bytes (at + 2)) (map (λ two. number_at two 0) (pieces 2 n bytes_left))) (drop-drop 2 (at + 2) bytes)
    ∙ last_number bytes n (at + 2)
    ∙ ap (number_at bytes) (omega arith)

module _ (x : Setting) (m : Meaning) where
  -- a call that is not refused, with the calls after it
  goes_on : (why : Option Refusal) (before after s : State) (round : Option ℕ) (rest : List Asked)
      → unless_stopped (stopped round (unless why before after Done).1) (run_through x m (unless why before after Done).0 rest) ≡ Ok s → run_through x m after rest ≡ Ok s
  goes_on None before after s round rest e = e
  goes_on (Some why) before after s round rest e = absurd (grind arith)

  -- a round that is seated is closed: its block waits again, with the set of the round as the last
  round_ends : (b : Block) (z : Seating) (r : ℕ) (lines : List Line) (more : List Asked) (s : State) → run_through x m (Seated b z) ((map forges lines ++ (in_round r Close ∷ [])) ++ more) ≡ Ok s
      → (c : Block) × (c.n ≡ b.n) × (c.last ≡ z.set) × (run_through x m (Waiting c) more ≡ Ok s)
  round_ends b z r [] more s e = (closed x b z, refl, refl, e)
  round_ends b z r (l ∷ lines) more s e =
      let next = forging z l.sender l.receiver l.column (cell_of l) in
      round_ends b next r lines more s (goes_on (forge_refusal b z l.sender l.receiver l.column) (Seated b z) (Seated b next) s (Some l.round) ((map forges lines ++ (in_round r Close ∷ [])) ++ more) e)

  -- rounds leave the block waiting, with the last of their sets
  abbrev Waits : (n last : ℕ) → State → Type 0
  Waits n last s = (c : Block) × (s ≡ Waiting c) × (c.n ≡ n) × (c.last ≡ last)

  rounds_end : (r : ℕ) (sets : List ℕ) (lines : List Line) (b : Block) (s : State) → run_through x m (Waiting b) (rounds_from r sets lines) ≡ Ok s → Waits b.n (last_of b.last sets) s
  rounds_end r [] lines b s e = (b, (cc), refl, refl)
  rounds_end r (set ∷ sets) lines b s e =
      let rest = rounds_from (suc r) sets lines in
      let c = round_ends b (seating m b set) r (lines_of r lines) rest s (goes_on (seat_refusal m b set) (Waiting b) (Seated b (seating m b set)) s (Some r) ((map forges (lines_of r lines) ++ (in_round r Close ∷ [])) ++ rest) e) in
      let end = rounds_end (suc r) sets lines c.0 s c.3 in
      (end.0, end.1, end.2 ∙ c.1, end.3 ∙ ap (λ set. last_of set sets) c.2)

  -- what a decision answers then
  decides : (n last : ℕ) (s : State) (i : ℕ) (member : Bool) (w : Waits n last s) → i < n → has last i ≡ member
      → (step x m s (Decision i)).1 ≡ (unless (WasSeated when member) s s (Decided (w.0.memory i).decision)).1
  decides n last s i member w lt is =
      let below : leb w.0.n i ≡ false = grind (arith, nat_tests) in
      let same : has w.0.last i ≡ member = ap (λ last. has last i) w.3 ∙ is in
      rw (w.1, below, same) refl

-- a file whose calls are all accepted
module _ (k : Rules) (m : Meaning) (cells : ℕ) (h : Header) (bytes : List ℕ) (laid : laid_out k.width h bytes ≡ true) (s : State) (ran : run_through (setting_of k cells) m Idle (calls_of k h bytes) ≡ Ok s) where
  -- its block waits, with the last set of the file
  waits : Waits (setting_of k cells) m h.n (last_set h bytes) s
  waits =
      let x = setting_of k cells in
      let values = map numbers (proposals k.width h bytes) in
      let initial = initial_set k.width h bytes in
      let sets = round_sets k.width h bytes in
      let lines = map line (forgery_lines k.width h bytes) in
      let b = opened m h.n h.t values initial in
      let w = rounds_end x m 0 sets lines b s (goes_on x m (open_refusal x m h.n h.t values initial) Idle (Waiting b) s None (rounds_from 0 sets lines) ran) in
      (w.0, w.1, w.2, w.3 ∙ last_number bytes h.rounds (sets_start k.width h) ∙ ap (λ at. number_at bytes (at + 2 * h.rounds)) (sets_there k h bytes laid))

  -- a decision is refused to the members of the last set
  pub seated_last : (i : ℕ) → i < h.n → has (last_set h bytes) i ≡ true → (step (setting_of k cells) m s (Decision i)).1 ≡ Refused WasSeated
  seated_last i lt is = decides (setting_of k cells) m h.n (last_set h bytes) s i true waits lt is

  -- and each other controller is answered a cell
  pub free_last : (i : ℕ) → i < h.n → has (last_set h bytes) i ≡ false → (cell : Held) × ((step (setting_of k cells) m s (Decision i)).1 ≡ Decided cell)
  free_last i lt is = ((waits.0.memory i).decision, decides (setting_of k cells) m h.n (last_set h bytes) s i false waits lt is)
