-- Two lines of a listing.
use Rattle.std.proofs.Common.{◌≡◌, ℕ, ◌+◌, ◌<◌, ap, ◌∙◌, List, [], ◌∷◌, ◌++◌, take, codes, get_or, arith, add-one}
use Rattle.std.proofs.lemmas.List.{get_or_append_left}
use Rattle.values.specs.Rules.{text}
use Rattle.run_file.specs.declared.headers.Header.{Header}
use Rattle.run_file.specs.Listings.{rules_of}
use Rattle.run_file.specs.Promises.{ListingLaw, IsVote}
use Rattle.trials.specs.Listed.{line_of, Agreed}

pub agreed : (bytes words : List ℕ) → ListingLaw bytes words → take 3 words ≡ codes "run" → Agreed bytes words
agreed bytes words law starts = record {
  header = h;
  is = (law starts).1;
  alike = λ c clean enough i j i_stood j_stood.
      let all = vote.one_value c clean enough in
      (text all.0, at i i_stood.0 ∙ all.2 i i_stood.0 i_stood.1, at j j_stood.0 ∙ all.2 j j_stood.0 j_stood.1);
}
  where
    h : Header
    h = (law starts).0

    vote : IsVote (rules_of h.kind) h bytes words
    vote = (law starts).2

    at : (i : ℕ) → i < h.n → line_of words i ≡ get_or vote.lines i []
    at i lt =
        let behind : get_or (vote.cut.first ∷ (vote.lines ++ [] ∷ [])) (i + 1) [] ≡ get_or vote.lines i [] = rw add-one (get_or_append_left vote.lines ([] ∷ []) [] i (omega (arith, vote.count))) in
        ap (λ lines. get_or lines (i + 1) []) vote.cut.cut ∙ behind
