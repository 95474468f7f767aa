use Rattle.models.specs.Stamps.{stamped}
use Rattle.models.specs.Standards.{standard}
use Rattle.models.specs.declared.standards.Standard.TheVariants.{Aware, Unaware, Carried, Fixed}
use Rattle.protocol.specs.Publications.{CuredAware, CuredUnaware, Algorithm1, Algorithm2, Algorithm3}
use Rattle.protocol.specs.AnyCounts.{process1, process2}
use Rattle.run.specs.Runs.{setting, state}
use Rattle.run.proofs.Promised.{fits, closes_any, published, unclosed, closes_after, round_of_calls}
use Rattle.std.proofs.Common.{◌∙◌}
use Rattle.run.proofs.run.Run.close.Goals as goal

pub returns-clause-any_counts : goal.returns-clause-any_counts
returns-clause-any_counts g c =
    let old = c.args.self.now in
    closes_any (setting old) (standard Fixed) (state old) (state c.close_seated.new.self) _ (c.close_seated.ensures (standard Fixed)).stepped (fits g.K.Kind.rules g.K.Kind.plain old.turn old.cells.now) c.rounds_under_any_counts.ensures.rounds

pub returns-clause-published : goal.returns-clause-published
returns-clause-published g c =
    let old = c.args.self.now in
    published (setting old) (standard Fixed) (state old) (state c.close_seated.new.self) _ (c.close_seated.ensures (standard Fixed)).stepped (fits g.K.Kind.rules g.K.Kind.plain old.turn old.cells.now)
    c.unaware_runs_algorithm_1.ensures.rounds c.stamped_aware_runs_algorithm_2.ensures.rounds c.stamped_carried_runs_algorithm_3.ensures.rounds

pub returns-in_err-block-clause-after_calls : goal.returns-in_err-block-clause-after_calls
returns-in_err-block-clause-after_calls g c =
    let run = c.args.self.now in
    record {
      algorithm1 = unclosed run (standard Unaware) process1 Algorithm1 CuredUnaware;
      algorithm2 = unclosed run (stamped (standard Aware)) process2 Algorithm2 CuredAware;
      algorithm3 = unclosed run (stamped (standard Carried)) process2 Algorithm3 CuredUnaware;
      newly_seated = λ x log stands b s was. c.stamped_carried_runs_algorithm_3.ensures.newly_seated x stands.calls b s (stands.state_is ∙ was);
      of_calls = λ x m log stands b s was. round_of_calls run x m log stands b s was c.the_machine_obeys_its_laws.ensures.rounds;
    }

pub returns-clause-after_calls : goal.returns-clause-after_calls
returns-clause-after_calls g c =
    let old = c.args.self.now in
    let new = c.close_seated.new.self in
    let stepped = (c.close_seated.ensures (standard Fixed)).stepped in
    record {
      algorithm1 = closes_after old new (standard Fixed) _ stepped (standard Unaware) process1 Algorithm1 CuredUnaware c.unaware_runs_algorithm_1.ensures.after_calls;
      algorithm2 = closes_after old new (standard Fixed) _ stepped (stamped (standard Aware)) process2 Algorithm2 CuredAware c.stamped_aware_runs_algorithm_2.ensures.after_calls;
      algorithm3 = closes_after old new (standard Fixed) _ stepped (stamped (standard Carried)) process2 Algorithm3 CuredUnaware c.stamped_carried_runs_algorithm_3.ensures.after_calls;
      newly_seated = λ x log stands b s was. c.stamped_carried_runs_algorithm_3.ensures.newly_seated x stands.calls b s (stands.state_is ∙ was);
      of_calls = λ x m log stands b s was. round_of_calls old x m log stands b s was c.the_machine_obeys_its_laws.ensures.rounds;
    }

pub returns-clause-stays : goal.returns-clause-stays
returns-clause-stays g c = (c.close_seated.ensures (standard Fixed)).setting_stays
