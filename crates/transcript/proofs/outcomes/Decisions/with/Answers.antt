use Rattle.std.proofs.Common.{sym, ◌≡◌, [], ◌∷◌, ◌++◌, ◌≢◌, arith, subst}
use Rattle.std.proofs.lemmas.Bool.Decides.{nat_tests}
use Rattle.script.specs.Figures.{numbers_of}
use Rattle.transcript.specs.Outcomes.{IsDecided}
use Rattle.transcript.proofs.OutcomeLogs.{first_decision, agree_still, differ_now, differ_still}
use Rattle.transcript.proofs.outcomes.Decisions.with.Goals as goal

pub returns-in-Nothing : goal.returns-in-Nothing
returns-in-Nothing c = λ log e none adds. first_decision log e (numbers_of c.args.figure) (subst (IsDecided log) c.in-Nothing.is none) adds

pub returns-in-Equal : goal.returns-in-Equal
returns-in-Equal c = λ log e agree adds.
    let same : numbers_of c.args.figure ≡ numbers_of c.in-Equal.first = grind (arith, nat_tests) in
    let d = agree_still log e (numbers_of c.in-Equal.first) (subst (IsDecided log) c.in-Equal.is agree) (λ x told. cc) in
    subst (IsDecided (log ++ e ∷ [])) (sym c.in-Equal.is) d

pub returns-in-Equal-2 : goal.returns-in-Equal-2
returns-in-Equal-2 c = λ log e agree adds.
    let ne : numbers_of c.in-Equal.first ≢ numbers_of c.args.figure = grind (arith, nat_tests) in
    differ_now log e (numbers_of c.in-Equal.first) (numbers_of c.args.figure) (subst (IsDecided log) c.in-Equal.is agree) adds ne

pub returns-in-Unequal : goal.returns-in-Unequal
returns-in-Unequal c = λ log e differ adds. subst (IsDecided (log ++ e ∷ [])) (sym c.in-Unequal.is) (differ_still log e (subst (IsDecided log) c.in-Unequal.is differ))
