use Rattle.std.proofs.Common.{◌≡◌, refl, length}
use Rattle.models.specs.Standards.{standard}
use Rattle.models.specs.Stamps.{stamped}
use Rattle.run_file.specs.Headers.{model_of}
use Rattle.run_file.proofs.Lawfulness.{becomes_under}
use Rattle.run_file.proofs.listings.list_under_named_model.Goals as goal

pub returns-then-header-clause-becomes : goal.returns-then-header-clause-becomes
returns-then-header-clause-becomes g c =
    let h = c.args.header.now in
    let stamps = c.if-header.true in
    let model : stamped (standard h.model) ≡ model_of h = rw stamps refl in
    becomes_under c.decisions_agree.ensures g.K.Kind.rules (length c.args.cells.now) h c.args.file.now g.met.K.Kind.falls c.requires.fits c.args.out.now c.list_under_model.new.out _ model c.lawful.ensures c.list_under_model.result c.list_under_model.ensures.listed

pub returns-else-header-clause-becomes : goal.returns-else-header-clause-becomes
returns-else-header-clause-becomes g c =
    let h = c.args.header.now in
    let stamps = c.if-header.false in
    let model : standard h.model ≡ model_of h = rw stamps refl in
    becomes_under c.decisions_agree.ensures g.K.Kind.rules (length c.args.cells.now) h c.args.file.now g.met.K.Kind.falls c.requires.fits c.args.out.now c.list_under_model-else-header.new.out _ model c.lawful-else-header.ensures c.list_under_model-else-header.result c.list_under_model-else-header.ensures.listed
