use Rattle.models.specs.Standards.{standard}
use Rattle.models.specs.declared.standards.Standard.TheVariants.{Fixed}
use Rattle.run.proofs.Chains.{refused_unaltered}
use Rattle.run.proofs.run.Run.forge.Goals as goal

pub returns-clause-refused : goal.returns-clause-refused
returns-clause-refused g c = refused_unaltered c.forge_seated.result c.args.self.now c.forge_seated.new.self (c.forge_seated.ensures (standard Fixed))

pub returns-clause-stays : goal.returns-clause-stays
returns-clause-stays g c = (c.forge_seated.ensures (standard Fixed)).setting_stays
