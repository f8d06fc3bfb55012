-- What the look at one rule relies on.
use Rattle.std.specs.Prelude.{ℕ, List}
use Rattle.parts.specs.Values.{Standing}

-- the value of a rule in a file of some number of variables
pub record SomeStanding (s v : List ℕ) : Type 0 where
  pub variables : ℕ
  pub standing : Standing s variables v
