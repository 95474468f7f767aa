use Rattle.std.proofs.Common.{ℕ, List}
use Rattle.values.specs.Rules.{stands}
use Rattle.script.specs.Figures.{numbers_of}
use Rattle.script.specs.Scripts.{rules_of}
use Rattle.script.specs.Statements.{log_by}
use Rattle.script.specs.declared.figures.Figure.{Figure}
use Rattle.transcript.specs.Outcomes.{IsOutcome, AgreeIfClean}
use Rattle.transcript.specs.Replays.{named_model}
use Rattle.transcript.proofs.replaying.play_script.Goals as goal

pub returns : goal.returns
returns c =
    let script = c.args.script.now in
    let performed = c.in_ok-answers.ensures in
    let outcome = c.in_ok-outcome.outcome in
    let own : Figure → List ℕ = λ figure. stands (rules_of script.house.kind) (numbers_of figure) in
    record {
      performed = performed;
      outcome = λ means. coe 0 1 (i. IsOutcome (log_by means (c.deref.ensures.value i) (c.deref-2.ensures.value i)) outcome) (c.in_ok-outcome.ensures.told means);
      agreed = coe 0 1 (i. AgreeIfClean (log_by own (c.deref.ensures.value i) (c.deref-2.ensures.value i)) outcome) (c.in_ok-outcome.ensures.agreed own) (named_model script.house) performed.law;
    }
