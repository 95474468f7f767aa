use Rattle.models.specs.Laws.{Meaning}
use Rattle.run.specs.Runs.{setting, state}
use Rattle.values.specs.Added.{Puts}
use Rattle.run_file.specs.Texts.{controller_lines}
use Rattle.run_file.proofs.texts.write_controllers.Given as goal

abbrev pub invariant-loop-controller : goal.invariant-loop-controller
invariant-loop-controller g l = (m : Meaning) → Puts l.fn.out (controller_lines (setting l.run) m (state l.run) l.controller) l.out
