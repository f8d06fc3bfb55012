-- What the code reads of a position.
use Rattle.std.specs.Prelude.{ℕ, ◌≡◌, List}
use Rattle.program.specs.Program.{Rule, variable_in}
use Rattle.program.specs.Directions.{direction}
use Rattle.program.specs.Readings.{body_variable, kept}
use Rattle.program.specs.declared.Variable.{Variable}
use Rattle.positions.specs.declared.Opened.{Opened}
use Rattle.positions.specs.declared.Position.{Position}

-- o is what is read of a rule once for all its positions, vs being the program's variables
pub record OpenedIs (vs : List Variable) (r : Rule) (o : Opened) : Type 0 where
  pub form_is : o.form ≡ r.form
  pub head_is : o.head ≡ r.head
  pub variable_is : o.variable ≡ variable_in vs r.head

-- p is position i of a rule, vs being the program's variables
pub record PositionIs (vs : List Variable) (r : Rule) (i : ℕ) (p : Position) : Type 0 where
  pub variable_is : p.variable ≡ body_variable r i
  pub direction_is : p.direction ≡ direction vs r i
  pub kept_is : p.kept ≡ kept vs r i
