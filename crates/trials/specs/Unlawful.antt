-- What no lawful model can be: one that calls everybody honest, or one that allows no move.
use Rattle.std.specs.Prelude.{◌≡◌, ℕ, false}
use Rattle.models.specs.declared.classes.Class.TheVariants.{Honest}
use Rattle.models.specs.Laws.{Meaning}

abbrev pub AllHonest : Meaning → Type 0
AllHonest m = (before now t i : ℕ) → m.class before now t i ≡ Honest

abbrev pub NoMove : Meaning → Type 0
NoMove m = (before now t : ℕ) → m.allowed before now t ≡ false
