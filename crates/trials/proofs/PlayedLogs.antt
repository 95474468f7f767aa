-- What the law of a list of calls says of the answers in their places.
use Rattle.std.proofs.Common.{ℕ, List, Some, Result}
use Rattle.values.specs.Rules.{Rules}
use Rattle.values.specs.declared.refusals.Refusal.{Refusal}
use Rattle.models.specs.Laws.{Meaning}
use Rattle.protocol.specs.Transcripts.{Law}
use Rattle.run.specs.declared.calls.Call.{Call}
use Rattle.run.specs.declared.calls.Answer.{Answer}
use Rattle.run.specs.Promises.{TellsDecisions}
use Rattle.trials.specs.Played.{log, AllSame, AllProposed}

module _ {R : Type 0} (k : Rules) (plain : R → List ℕ) (count : ℕ) (calls : List (Call R)) (answers : List (Result (Answer R) Refusal)) (m : Meaning)
    (tells : TellsDecisions k plain count calls answers) (law : Law m (log k plain count calls answers)) where
  pub all_same : AllSame k plain count calls answers
  all_same o opens c clean i j x y x_is y_is = (law.opened o opens).equal c clean i j _ _ (tells i (Some x) x_is.0 x_is.1) (tells j (Some y) y_is.0 y_is.1)

  pub all_proposed : AllProposed k plain count calls answers m
  all_proposed o opens w proposed i x x_is = (law.opened o opens).valid w proposed i _ (tells i (Some x) x_is.0 x_is.1)
