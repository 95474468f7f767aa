-- A listing is cut at its line feeds into its lines.
use Rattle.std.proofs.Common.{◌≡◌, ℕ, zero, suc, ◌+◌, ◌/◌, ◌%◌, ◌<◌, arith, refl, sym, ap, ◌∙◌, append_assoc, Bool, true, false, eqb, List, [], ◌∷◌, ◌++◌, length, map, codes, decimal, Some, None}
use Rattle.std.specs.Prelude.{if◌then◌else◌, slice_index_or}
use Rattle.std.specs.List.{All, range_with_len, slice_split}
use Rattle.std.specs.Fmt.{digits, digits_onto, digit_glyph}
use Rattle.std.proofs.lemmas.Bool.Decides.{nat_tests}
use Rattle.std.proofs.lemmas.List.{append-nil}
use Rattle.std.proofs.lemmas.List.Elements.{All-nil, All-cons, All-append, All-from_recursion}
use Rattle.std.proofs.lemmas.List.FromFn.{length-map-range_with_len, get_or-map-range_with_len, map-range_with_len_more}
use Rattle.std.proofs.lemmas.List.Splits.{slice_split_at}
use Rattle.values.specs.Rules.{Rules, text}
use Rattle.models.specs.Laws.{Meaning}
use Rattle.protocol.specs.Machine.{Setting, State, Decision, Answer, Done, Decided, Refused, step}
use Rattle.run_file.specs.declared.headers.Header.{Header}
use Rattle.run_file.specs.Texts.{shown, controller_lines}
use Rattle.run_file.specs.Listings.{setting_of, listing}
use Rattle.run_file.specs.Promises.{HasLines, says}

-- the line feed, and bytes that are none
abbrev feed : ℕ → Bool
feed b = eqb b 10

abbrev NoFeed : ℕ → Type 0
NoFeed b = feed b ≡ false

-- a number's digits are no line feeds
glyph_plain : (n : ℕ) → NoFeed (digit_glyph false (n % 10))
glyph_plain n = grind (arith, nat_tests)

either_plain : (t : Bool) (xs ys : List ℕ) → All NoFeed xs → All NoFeed ys → All NoFeed (if t then xs else ys)
either_plain true xs ys p q = p
either_plain false xs ys p q = q

onto_plain : (k n : ℕ) (acc : List ℕ) → All NoFeed acc → All NoFeed (digits_onto k 10 false n acc)
onto_plain zero n acc p = p
onto_plain (suc k) n acc p =
    let more = All-cons NoFeed (digit_glyph false (n % 10)) acc (glyph_plain n) p in
    either_plain (eqb (n / 10) 0) (digit_glyph false (n % 10) ∷ acc) (digits_onto k 10 false (n / 10) (digit_glyph false (n % 10) ∷ acc)) more (onto_plain k (n / 10) (digit_glyph false (n % 10) ∷ acc) more)

decimal_plain : (n : ℕ) → All NoFeed (decimal n)
unfolding digits
decimal_plain n = onto_plain 64 n [] (All-nil NoFeed)

text_plain : (xs : List ℕ) → All NoFeed (text xs)
text_plain [] = All-nil NoFeed
text_plain (x ∷ []) = decimal_plain x
text_plain (x ∷ y ∷ rest) = All-append NoFeed (decimal x) (32 ∷ text (y ∷ rest)) (decimal_plain x) (All-cons NoFeed 32 (text (y ∷ rest)) refl (text_plain (y ∷ rest)))

shown_plain : (answer : Answer) → All NoFeed (shown answer)
shown_plain Done = All-nil NoFeed
shown_plain (Decided (Some v)) = text_plain v
shown_plain (Decided None) = All-from_recursion NoFeed (codes "none") (refl, (refl, (refl, (refl, tt))))
shown_plain (Refused why) = All-from_recursion NoFeed (codes "upset") (refl, (refl, (refl, (refl, (refl, tt)))))

-- words with a line feed are the first part
cut_line : (words rest : List ℕ) → All NoFeed words → slice_split feed ((words ++ (10 ∷ [])) ++ rest) ≡ words ∷ slice_split feed rest
cut_line words rest p = ap (slice_split feed) (append_assoc words (10 ∷ []) rest) ∙ slice_split_at feed words 10 rest p refl

module _ (x : Setting) (m : Meaning) (s : State) where
  abbrev pub words_of : ℕ → List ℕ
  words_of i = says i (shown (step x m s (Decision i)).1)

  words_plain : (i : ℕ) → All NoFeed (words_of i)
  words_plain i = All-append NoFeed (decimal i) (32 ∷ shown (step x m s (Decision i)).1) (decimal_plain i) (All-cons NoFeed 32 (shown (step x m s (Decision i)).1) refl (shown_plain (step x m s (Decision i)).1))

  cut_lines : (n : ℕ) (rest : List ℕ) → slice_split feed (controller_lines x m s n ++ rest) ≡ map words_of (range_with_len 0 n) ++ slice_split feed rest
  cut_lines zero rest = refl
  cut_lines (suc i) rest =
      let same : i + 1 ≡ suc i = omega arith in
      ap (slice_split feed) (append_assoc (controller_lines x m s i) (words_of i ++ (10 ∷ [])) rest)
      ∙ cut_lines i ((words_of i ++ (10 ∷ [])) ++ rest)
      ∙ ap (λ parts. map words_of (range_with_len 0 i) ++ parts) (cut_line (words_of i) rest (words_plain i))
      ∙ sym (append_assoc (map words_of (range_with_len 0 i)) (words_of i ∷ []) (slice_split feed rest))
      ∙ ap (λ parts. parts ++ slice_split feed rest) (sym (map-range_with_len_more words_of 0 i i (omega arith)))
      ∙ ap (λ n. map words_of (range_with_len 0 n) ++ slice_split feed rest) same

  cut_all : (words : List ℕ) (n : ℕ) → All NoFeed words → slice_split feed ((words ++ (10 ∷ [])) ++ controller_lines x m s n) ≡ words ∷ (map words_of (range_with_len 0 n) ++ ([] ∷ []))
  cut_all words n p =
      cut_line words (controller_lines x m s n) p
      ∙ ap (λ rest. words ∷ slice_split feed rest) (sym (append-nil (controller_lines x m s n)))
      ∙ ap (λ parts. words ∷ parts) (cut_lines n [])

module _ (k : Rules) (m : Meaning) (cells : ℕ) (h : Header) (s : State) where
  -- the lines of a listing after its first
  abbrev pub lines_told : List (List ℕ)
  lines_told = map (words_of (setting_of k cells) m s) (range_with_len 0 h.n)

  pub cut_told : HasLines (listing k m cells h s) lines_told
  unfolding listing
  cut_told = record {
    first = codes "run " ++ text (h.n ∷ h.t ∷ h.rounds ∷ []);
    cut = cut_all (setting_of k cells) m s (codes "run " ++ text (h.n ∷ h.t ∷ h.rounds ∷ [])) h.n
        (All-append NoFeed (codes "run ") (text (h.n ∷ h.t ∷ h.rounds ∷ [])) (All-from_recursion NoFeed (codes "run ") (refl, (refl, (refl, (refl, tt))))) (text_plain (h.n ∷ h.t ∷ h.rounds ∷ [])));
  }

  pub count_told : length lines_told ≡ h.n
  count_told = length-map-range_with_len (words_of (setting_of k cells) m s) 0 h.n

  -- a controller's line says what its decision answers
  pub line_told : (i : ℕ) → i < h.n → (answer : Answer) → (step (setting_of k cells) m s (Decision i)).1 ≡ answer → slice_index_or lines_told i [] ≡ says i (shown answer)
  line_told i p answer e = get_or-map-range_with_len (words_of (setting_of k cells) m s) 0 h.n i i [] p (omega arith) ∙ ap (λ answer. says i (shown answer)) e
