-- A reckoning whose variables are those of the program but for their far ends, which may be drawn in.
use Rattle.std.specs.Prelude.{ℕ, ◌≡◌, T, ℤ}
use Rattle.program.specs.Program.{Program, variable_in}
use Rattle.program.specs.Variables.{start, in_range}
use Rattle.meaning.specs.Reduct.{Reckoning}

pub record Narrows (P : Program) (R : Reckoning) : Type 0 where
  pub kind_is : (v : ℕ) → (R.variable v).kind ≡ (variable_in P.variables v).kind
  pub start_is : (v : ℕ) → start (R.variable v) ≡ start (variable_in P.variables v)
  pub inside : (v : ℕ) (a : ℤ) → T (in_range (R.variable v) a) → T (in_range (variable_in P.variables v) a)
