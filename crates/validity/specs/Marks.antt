-- What the code finds of the rules of a file, rows being a test of two variables.
use Rattle.std.specs.Prelude.{ℕ, ◌+◌, ◌<◌, ◌≡◌, List, Bool, true, false, not, ◌&&◌, eqb, Option, Some, None}
use Rattle.program.specs.Tables.{any_below}
use Rattle.program.specs.Fields.{value_at, place}
use Rattle.program.specs.Program.{Rule, rule_of, variables_at}
use Rattle.program.specs.Idle.{is_idle}
use Rattle.program.specs.Readings.{body_variable}
use Rattle.program.specs.declared.Counts.{Counts}
use Rattle.program.specs.declared.Variable.{Variable}
use Rattle.edges.specs.Edges.{any_mixed, draws_in, offends_in}

-- ---- one rule, vs being the file's variables: an idle one draws nothing and does not offend

abbrev pub draws_by : List Variable → Rule → ℕ → ℕ → Bool
draws_by vs r x y = not (is_idle vs r) && draws_in vs r x y

abbrev pub offends_by : (ℕ → ℕ → Bool) → List Variable → Rule → Bool
offends_by t vs r = offends_in t vs r && not (is_idle vs r)

-- it has a mixed position and is not idle
abbrev pub acts_mixed : List Variable → Rule → Bool
acts_mixed vs r = any_mixed vs r && not (is_idle vs r)

-- it does, and v is the variable of its first position: only a size has a mixed position, and no other one
abbrev pub acts_on : List Variable → Rule → ℕ → Bool
acts_on vs r v = acts_mixed vs r && eqb v (body_variable r 0)

-- no position is mixed unless the rule is a size; so in every rule of a file whose fields passed (law `rule_sizes`)
abbrev pub OnlySizes : List Variable → Rule → Type 0
OnlySizes vs r = (r.form ≡ 5 → ⊥) → any_mixed vs r ≡ false

-- ---- the rules of a file, by its counts

-- rule i stands after the n variables
abbrev pub rule_at : List ℕ → ℕ → ℕ → Rule
rule_at s n i = rule_of (value_at s (place s (n + i)))

unfoldable pub mixed_rule : List ℕ → Counts → Bool
mixed_rule s k = any_below k.rules (λ i. any_mixed (variables_at s k.variables) (rule_at s k.variables i))

unfoldable pub acting_variable : List ℕ → Counts → ℕ → Bool
acting_variable s k v = any_below k.rules (λ i. acts_on (variables_at s k.variables) (rule_at s k.variables i) v)

unfoldable pub edge_in : List ℕ → Counts → ℕ → ℕ → Bool
edge_in s k x y = any_below k.rules (λ i. draws_by (variables_at s k.variables) (rule_at s k.variables i) x y)

abbrev pub offends_rule : (ℕ → ℕ → Bool) → List ℕ → Counts → ℕ → Bool
offends_rule t s k i = offends_by t (variables_at s k.variables) (rule_at s k.variables i)

-- the first rule that offends by t, and its place
pub record FoundAt (t : ℕ → ℕ → Bool) (s : List ℕ) (k : Counts) (at : ℕ) : Type 0 where
  pub rule : ℕ
  pub among : rule < k.rules
  pub offends : offends_rule t s k rule ≡ true
  pub first : (j : ℕ) → j < rule → offends_rule t s k j ≡ false
  pub placed : at ≡ place s (k.variables + rule)

abbrev pub JudgedBy : (ℕ → ℕ → Bool) → List ℕ → Counts → Option ℕ → Type 0
JudgedBy t s k None = (i : ℕ) → i < k.rules → offends_rule t s k i ≡ false
JudgedBy t s k (Some at) = FoundAt t s k at
