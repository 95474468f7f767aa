-- What is promised of a listing: of what was lent, and by its text and the bytes of the file alone. Assumes nothing.
use Rattle.std.specs.Prelude.{◌≡◌, ◌⊎◌, ℕ, ◌+◌, ◌*◌, ◌<◌, ◌≤◌, true, false, List, [], ◌∷◌, ◌++◌, length, take, drop, Ok, codes, decimal, ◌==◌, slice_index_or}
use Rattle.std.specs.List.{slice_split}
use Rattle.values.specs.Rules.{Rules, numbers, text}
use Rattle.models.specs.declared.classes.Class.TheVariants.{Honest}
use Rattle.models.specs.Sets.{has}
use Rattle.run_file.specs.declared.headers.Header.{Header}
use Rattle.run_file.specs.Files.{number_at}
use Rattle.run_file.specs.Headers.{header_of, model_of}
use Rattle.run_file.specs.Listings.{rules_of}

-- the text stands at the front of the room, and the bytes past it stay
abbrev pub IsAtFront : (words : List ℕ) → (len : ℕ) → (before after : List ℕ) → Type 0
IsAtFront words len before after = (len ≡ length words) × (after ≡ words ++ drop (length words) before)

-- no cell past so many is written
abbrev pub StaysPast : {C : Type 0} → (used : ℕ) → (before after : List C) → Type 0
StaysPast used before after = drop used after ≡ drop used before

-- a text that is a first line and these further lines, each ended by a line feed (byte 10)
pub record HasLines (listed : List ℕ) (lines : List (List ℕ)) : Type 0 where
  pub first : List ℕ
  pub cut : slice_split (λ b. b == 10) listed ≡ first ∷ (lines ++ ([] ∷ []))

-- the initial set, and the set of round r: the sets have two bytes each, and the initial one comes first
abbrev pub first_set : Header → List ℕ → ℕ
first_set h bytes = number_at bytes h.sets_at

abbrev pub set_in : Header → List ℕ → (r : ℕ) → ℕ
set_in h bytes r = number_at bytes (h.sets_at + 2 * (r + 1))

-- the set of the last round, or the initial one where there is no round
abbrev pub last_set : Header → List ℕ → ℕ
last_set h bytes = number_at bytes (h.sets_at + 2 * h.rounds)

-- controller c is a clean coordinator: unseated where its own phase collects, in round 3c + 1, and where it decides, in round 3c + 2
pub record CleanIn (h : Header) (bytes : List ℕ) (c : ℕ) : Type 0 where
  pub controller : c < h.n
  pub collecting : has (set_in h bytes (3 * c + 1)) c ≡ false
  pub deciding : has (set_in h bytes (3 * c + 2)) c ≡ false

-- there is a round 0, and the file's model calls controller i honest in it
pub record HonestIn (h : Header) (bytes : List ℕ) (i : ℕ) : Type 0 where
  pub reached : 0 < h.rounds
  pub honest : (model_of h).class (first_set h bytes) (set_in h bytes 0) h.t i ≡ Honest

-- what controller i proposes: the proposals have the width of a value each
abbrev pub proposal_in : Rules → Header → List ℕ → (i : ℕ) → List ℕ
proposal_in k h bytes i = numbers (take k.width (drop (h.proposals_at + k.width * i) bytes))

-- a controller's line
abbrev pub says : (controller : ℕ) → List ℕ → List ℕ
says i what = decimal i ++ (32 ∷ what)

-- a text that starts with `run` has n lines after its first
pub record IsVote (k : Rules) (h : Header) (bytes listed : List ℕ) : Type 0 where
  pub lines : List (List ℕ)
  pub cut : HasLines listed lines
  pub count : length lines ≡ h.n
  -- whoever is in the last set is `upset`
  pub upset : (i : ℕ) → i < h.n → has (last_set h bytes) i ≡ true → slice_index_or lines i [] ≡ says i (codes "upset")
  -- with a clean coordinator, and 3n rounds or more, all others carry one lawful value
  pub one_value : (c : ℕ) → CleanIn h bytes c → 3 * h.n ≤ h.rounds
      → (v : List ℕ) × (k.allowed v ≡ true) × ((i : ℕ) → i < h.n → has (last_set h bytes) i ≡ false → slice_index_or lines i [] ≡ says i (text v))
  -- with fewer than 3n rounds all others are `none`
  pub early : h.rounds < 3 * h.n → (i : ℕ) → i < h.n → has (last_set h bytes) i ≡ false → slice_index_or lines i [] ≡ says i (codes "none")
  -- where all who are honest in round 0 proposed w, each other line is `none` or carries w; this needs no clean coordinator
  pub valid : (w : List ℕ) → ((i : ℕ) → i < h.n → HonestIn h bytes i → proposal_in k h bytes i ≡ w)
      → (i : ℕ) → i < h.n → has (last_set h bytes) i ≡ false → (slice_index_or lines i [] ≡ says i (codes "none")) ⊎ (slice_index_or lines i [] ≡ says i (text w))

abbrev pub ListingLaw : (bytes listed : List ℕ) → Type 0
ListingLaw bytes listed = take 3 listed ≡ codes "run" → (h : Header) × (header_of bytes ≡ Ok h) × IsVote (rules_of h.kind) h bytes listed
