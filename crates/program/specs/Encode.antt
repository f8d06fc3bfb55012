-- The file of a program: what document 01's format writes.
use Rattle.std.specs.Prelude.{ℕ, ◌/◌, ◌%◌, ◌<◌, ◌≤◌, ◌≡◌, List, [], ◌∷◌, ◌++◌, length, get_or}
use Rattle.format.specs.Limits.{max_file, max_variables, max_rules, max_constraints}
use Rattle.format.specs.Numbers.{bytes_of}
use Rattle.program.specs.Program.{Rule, Constraint, Program, variable, rule, constraint}
use Rattle.program.specs.Refusals.{item_refusal}
use Rattle.program.specs.Components.{Valid}
use Rattle.program.specs.declared.Variable.{Variable}
use Rattle.program.specs.declared.Term.{Term}

-- one after the other
abbrev pub each : {A : Type 0} → (A → List ℕ) → List A → List ℕ
each f [] = []
each f (x ∷ xs) = f x ++ each f xs

abbrev pub field_bytes : ℕ → List ℕ → List ℕ
field_bytes tag v = tag ∷ length v / 256 ∷ length v % 256 ∷ v

abbrev pub term_bytes : Term → List ℕ
term_bytes t = t.variable ∷ t.op ∷ bytes_of t.number

abbrev pub variable_bytes : Variable → List ℕ
variable_bytes x = field_bytes 1 (x.kind ∷ bytes_of x.low ++ bytes_of x.high)

abbrev pub rule_bytes : Rule → List ℕ
rule_bytes r = field_bytes 2 (r.form ∷ r.head ∷ bytes_of r.c ++ (each term_bytes r.divisor ++ each term_bytes r.terms))

abbrev pub constraint_bytes : Constraint → List ℕ
constraint_bytes k = field_bytes 3 (k.form ∷ bytes_of k.c ++ each term_bytes k.terms)

unfoldable pub encode : Program → List ℕ
encode P = each variable_bytes P.variables ++ (each rule_bytes P.rules ++ each constraint_bytes P.constraints)

-- a list of bytes
abbrev pub Bytes : List ℕ → Type 0
Bytes s = (i : ℕ) → get_or s i 0 < 256

-- every element has the property
abbrev pub All : {A : Type 0} → (A → Type 0) → List A → Type 0
All p [] = Unit {0}
All p (x ∷ xs) = p x × All p xs

-- a program within the format's limits, of which no part meets a refusal, and which is valid
pub record Proper (P : Program) : Type 0 where
  pub short : length (encode P) ≤ max_file
  pub few_variables : length P.variables ≤ max_variables
  pub few_rules : length P.rules ≤ max_rules
  pub few_constraints : length P.constraints ≤ max_constraints
  pub fine_variables : All (λ x. item_refusal P.variables (variable x) ≡ 0) P.variables
  pub fine_rules : All (λ r. item_refusal P.variables (rule r) ≡ 0) P.rules
  pub fine_constraints : All (λ k. item_refusal P.variables (constraint k) ≡ 0) P.constraints
  pub valid : Valid P
