-- As unaware, but the number of the set never falls. Assumes nothing.
use Rattle.std.specs.Prelude.{nat_le}
use Rattle.models.specs.declared.standards.Standard.TheVariants.{Unaware}
use Rattle.models.specs.Laws.{Meaning}
use Rattle.models.specs.Standards.{standard}

abbrev pub rising : Meaning
rising = record {
  allowed = λ before after t. nat_le before after;
  class = (standard Unaware).class;
  counts = (standard Unaware).counts;
}
