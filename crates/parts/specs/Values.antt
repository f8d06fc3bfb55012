-- What the code reads of a field's value.
use Rattle.std.specs.Prelude.{ℕ, ◌*◌, ◌/◌, ◌<◌, ◌≤◌, ◌≡◌, List, length}
use Rattle.format.specs.Limits.{max_variables}
use Rattle.program.specs.Program.{rule_of, terms_of}
use Rattle.program.specs.Readings.{body_variable}
use Rattle.parts.specs.declared.rules.RuleHeader.{RuleHeader}

-- the bytes of a value before its body
abbrev pub rule_header : ℕ
rule_header = 4

abbrev pub constraint_header : ℕ
constraint_header = 3

-- h is the header of the rule in a value
pub record HeaderIs (v : List ℕ) (h : RuleHeader) : Type 0 where
  pub form_is : h.form ≡ (rule_of v).form
  pub head_is : h.head ≡ (rule_of v).head
  pub c_is : h.c ≡ (rule_of v).c

-- b is this stretch of a value, with room for its terms
pub record Handed (body b : List ℕ) : Type 0 where
  pub is : b ≡ body
  pub many : length b / 4 ≡ length (terms_of body)

-- v is the value of a rule in a file of n variables: it has a header, and its variables are declared
pub record Standing (s : List ℕ) (n : ℕ) (v : List ℕ) : Type 0 where
  pub inside : 8 * n ≤ length s
  pub few : n ≤ max_variables
  pub headed : rule_header ≤ length v
  pub head : (rule_of v).head < n
  pub declared : (i : ℕ) → i < length (rule_of v).terms → body_variable (rule_of v) i < n
