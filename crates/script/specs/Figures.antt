-- The numbers of a figure. Assumes nothing.
use Rattle.std.specs.Prelude.{ℕ, List, [], ◌∷◌}
use Rattle.values.specs.Sheets.{plain_shares}
use Rattle.script.specs.declared.figures.Figure.{Figure}
use Rattle.script.specs.declared.figures.Figure.TheVariants.{Setpoint, Sheet}

abbrev pub numbers_of : Figure → List ℕ
numbers_of (Setpoint x) = x ∷ []
numbers_of (Sheet shares) = plain_shares shares
