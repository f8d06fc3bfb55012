-- One rule entered into the tables of a run.
use Rattle.std.specs.Prelude.{ℕ, ◌≤◌, ◌≡◌, List, length, set}
use Rattle.format.specs.Limits.{max_terms}
use Rattle.program.specs.Readings.{kept}
use Rattle.program.specs.Fields.{value_at, next_at}
use Rattle.program.specs.Program.{rule_of, variables_at}
use Rattle.reduct.specs.Masks.{Mask}
use Rattle.parts.specs.Values.{Standing}

-- a rule of a file of n variables stands at this place
pub record RuleHere (s : List ℕ) (n at : ℕ) : Type 0 where
  pub inside : next_at s at ≤ length s
  pub standing : Standing s n (value_at s at)
  pub few : length (rule_of (value_at s at)).terms ≤ max_terms

-- the rule at this place is entered as rule i, and the next field stands at r
pub record EntryMade (s : List ℕ) (n at i r : ℕ) (os os' ms ms' : List ℕ) : Type 0 where
  pub next_is : r ≡ next_at s at
  pub placed : os' ≡ set os i at
  pub mask : ℕ
  pub masked : ms' ≡ set ms i mask
  pub mask_is : Mask (kept (variables_at s n) (rule_of (value_at s at))) (length (rule_of (value_at s at)).terms) mask
