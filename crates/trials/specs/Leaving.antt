-- A model written outside the library: faults stay or leave, and never come.
use Rattle.std.specs.Prelude.{ℕ, min, Bool, if◌then◌else◌, ◌==◌, bit_and}
use Rattle.models.specs.declared.classes.Class.{Class}
use Rattle.models.specs.declared.classes.Class.TheVariants.{Honest, Silent, Free}
use Rattle.models.specs.Laws.{Meaning}
use Rattle.models.specs.Sets.{has}

-- whoever is in the set after was in it before
abbrev pub within : ℕ → ℕ → Bool
within before after = bit_and before after == after

abbrev pub left_class : (was is : Bool) → Class
left_class was is = if is then Free else (if was then Silent else Honest)

abbrev pub leaving : Meaning
leaving = record {
  allowed = λ before after t. within before after;
  class = λ before after t i. left_class (has before i) (has after i);
  counts = λ t. record { b = min t 15; e = min t 15; l = min t 15 };
}
