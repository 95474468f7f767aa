use Rattle.std.proofs.Common.{rules}
use Rattle.packing.specs.Packed.{packed}
use Rattle.packing.specs.InCode.{IsMade}
use Rattle.packing.proofs.Law.{made_asks}
use Rattle.packing.proofs.Fitting.{made_fits}
use Rattle.packing.proofs.packs.pack.Goals as goal

pub returns-in-Some-clause-asks : goal.returns-in-Some-clause-asks
returns-in-Some-clause-asks c =
    let made : IsMade (λ v. v.items) (packed c.args.script.now) c.pack_behind.result = search rules in
    made_asks (λ v. v.items) c.args.script.now c.pack_behind.result made

pub returns-in-Some-clause-fits : goal.returns-in-Some-clause-fits
returns-in-Some-clause-fits c =
    let made : IsMade (λ v. v.items) (packed c.args.script.now) c.pack_behind.result = search rules in
    made_fits (λ v. v.items) c.args.script.now c.pack_behind.result made
