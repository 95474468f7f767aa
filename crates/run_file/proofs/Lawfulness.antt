-- The law of listings, from the agreement of decisions.
use Rattle.std.proofs.Common.{◌≡◌, ⊎_elim, ℕ, true, Some, None, Option, Ok, Result, refl, ap, subst, arith, List, take, Err, codes, inl, inr}
use Rattle.std.specs.Prelude.{⊤}
use Rattle.values.specs.declared.buffers.Buffer.{Buffer}
use Rattle.values.specs.declared.refusals.Refusal.TheVariants.{WasSeated}
use Rattle.values.specs.Rules.{Rules}
use Rattle.models.specs.Laws.{Meaning, Lawful}
use Rattle.protocol.specs.Machine.{State, Idle, Decided, Refused}
use Rattle.protocol.specs.Transcripts.{Agreement}
use Rattle.run_file.specs.declared.headers.Header.{Header}
use Rattle.run_file.specs.declared.stops.Stop.{Stop}
use Rattle.run_file.specs.Files.{laid_out}
use Rattle.run_file.specs.Headers.{model_of}
use Rattle.run_file.specs.Votes.{unless_stopped, run_through}
use Rattle.run_file.specs.Listings.{setting_of, calls_of, outcome, listing, report_of}
use Rattle.run_file.specs.Promises.{IsVote}
use Rattle.run_file.specs.InCode.{IsSound, Fits, IsListedOr, BecomesVote}
use Rattle.run_file.proofs.Shortness.{listing_short}
use Rattle.run_file.proofs.Agreeing.{told, one_value, early, valid}
use Rattle.run_file.proofs.Cutting.{lines_told, cut_told, count_told, line_told}
use Rattle.run_file.proofs.Ending.{seated_last}

-- a stop comes first
not_stopped : (x : Option Stop) (r : Result State Stop) (s : State) → unless_stopped x r ≡ Ok s → r ≡ Ok s
not_stopped None r s e = e
not_stopped (Some why) r s e = absurd (grind arith)

-- a file that is not refused under its model
module _ (agreement : Agreement) (k : Rules) (cells : ℕ) (h : Header) (lawful : Lawful (model_of h)) (bytes : List ℕ) (laid : laid_out k.width h bytes ≡ true) (s : State) (ends : outcome k (model_of h) cells h bytes ≡ Ok s)
    (falls : k.allowed k.fallback ≡ true) (sound : (i : ℕ) → IsSound k (told (setting_of k cells) (model_of h) s i)) where
  ran : run_through (setting_of k cells) (model_of h) Idle (calls_of k h bytes) ≡ Ok s
  unfolding outcome
  ran = not_stopped _ _ s ends

  is_vote : IsVote k h bytes (listing k (model_of h) cells h s)
  is_vote =
      let m = model_of h in
      record {
        lines = lines_told k m cells h s;
        cut = cut_told k m cells h s;
        count = count_told k m cells h s;
        upset = λ i lt seated. line_told k m cells h s i lt (Refused WasSeated) (seated_last k m cells h bytes laid s ran i lt seated);
        one_value = λ c clean enough.
            let found = one_value agreement k cells h lawful bytes laid s ran falls sound c clean enough in
            (found.0, found.1, λ i lt free. line_told k m cells h s i lt (Decided (Some found.0)) (found.2 i lt free));
        early = λ few i lt free. line_told k m cells h s i lt (Decided None) (early agreement k cells h lawful bytes laid s ran few i lt free);
        valid = λ w proposed i lt free.
            ⊎_elim
            (λ none. inl (line_told k m cells h s i lt (Decided None) none))
            (λ filled. inr (line_told k m cells h s i lt (Decided (Some w)) filled))
            (valid agreement k cells h lawful bytes laid s ran w proposed i lt free);
      }

starts : (k : Rules) (m : Meaning) (cells : ℕ) (h : Header) (s : State) → take 3 (listing k m cells h s) ≡ codes "run"
unfolding listing
starts k m cells h s = refl

-- what becomes of a file that is listed under its model
module _ (agreement : Agreement) (k : Rules) (cells : ℕ) (h : Header) (bytes : List ℕ) (falls : k.allowed k.fallback ≡ true) (fits : Fits k 19) (before after : Buffer) where
  becomes : Lawful (model_of h) → (result : Result ⊤ Stop) → IsListedOr k (model_of h) cells h bytes result before after → BecomesVote k cells h bytes result before after
  becomes lawful (Ok x) l = (
    listing k (model_of h) cells h l.left,
    ap (report_of (listing k (model_of h) cells h)) l.ends,
    l.puts,
    listing_short k (model_of h) cells h l.left fits l.sound l.small.0 l.small.1 l.small.2,
    starts k (model_of h) cells h l.left,
    is_vote agreement k cells h lawful bytes l.laid l.left l.ends falls l.sound,
  )
  becomes lawful (Err why) e = (ap (report_of (listing k (model_of h) cells h)) e.0, e.1)

  pub becomes_under : (m : Meaning) → m ≡ model_of h → Lawful m → (result : Result ⊤ Stop) → IsListedOr k m cells h bytes result before after → BecomesVote k cells h bytes result before after
  becomes_under m is lawful result l = becomes (subst Lawful is lawful) result (subst (λ m. IsListedOr k m cells h bytes result before after) is l)
