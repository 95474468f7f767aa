use Rattle.std.proofs.Common.{refl, arith}
use Rattle.std.proofs.lemmas.Bool.Decides.{nat_tests}
use Rattle.trials.proofs.rising.RisingLawfulModel.lawful.Goals as goal

pub returns : goal.returns
returns c = record {
  keeps = λ before now t v. c.lawful.ensures.keeps before now t (record { from = v.from; to = v.to; may = refl });
  stays = λ set t _. grind (arith, nat_tests);
}
