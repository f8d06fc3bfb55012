-- What the code reads of a rule to find the most that it can give.
use Rattle.std.specs.Prelude.{ℕ, ◌<◌, ◌≤◌, ◌≢◌, List, ℤ, nat_abs, length}
use Rattle.format.specs.Limits.{max_number}
use Rattle.program.specs.Program.{Rule, rule_of, variable_in, variables_at}
use Rattle.program.specs.Readings.{body_variable}
use Rattle.program.specs.Evaluable.{Evaluable}
use Rattle.program.specs.Idle.{most_at, lows, highs}
use Rattle.program.specs.declared.Variable.{Variable}
use Rattle.parts.specs.Values.{Standing}

-- the value of its declared range at which position i makes the rule give most
abbrev pub most_declared : List Variable → Rule → ℕ → ℤ
most_declared vs r = most_at vs r (lows vs) (highs vs)

-- v is the value of a rule in a file of n variables, which can be evaluated; no variable stands twice in its body, and the ends of their ranges are small
pub record Ready (s : List ℕ) (n : ℕ) (v : List ℕ) : Type 0 where
  pub standing : Standing s n v
  pub evaluable : Evaluable (rule_of v)
  pub distinct : (i j : ℕ) → i < length (rule_of v).terms → j < i → body_variable (rule_of v) j ≢ body_variable (rule_of v) i
  pub low_small : (x : ℕ) → x < n → nat_abs (variable_in (variables_at s n) x).low ≤ max_number
  pub high_small : (x : ℕ) → x < n → nat_abs (variable_in (variables_at s n) x).high ≤ max_number
