-- The stamp layer over any model. Assumes nothing.
use Rattle.models.specs.declared.classes.Class.{Class}
use Rattle.models.specs.declared.classes.Class.TheVariants.{Honest, Silent, Uniform, Free}
use Rattle.models.specs.Laws.{Meaning}

-- stamps make a free controller uniform, and leave every other class
abbrev pub stamp : Class → Class
stamp Honest = Honest
stamp Silent = Silent
stamp Uniform = Uniform
stamp Free = Uniform

-- a model with stamps: e is 0, since nobody is free; moves, b and l are those of the model below
abbrev pub stamped : Meaning → Meaning
stamped m = record {
  allowed = m.allowed;
  class = λ before after t i. stamp (m.class before after t i);
  counts = λ t. record { b = (m.counts t).b; e = 0; l = (m.counts t).l };
}
