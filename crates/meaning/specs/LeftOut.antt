-- Document 02, wish 2: "Verdicts use the same reduct as before." A program of which some idle rules are left out; the laws are in
-- proofs/IdleRules.antt, IdleCalls.antt and IdleFiles.antt.
use Rattle.std.specs.Prelude.{ℕ, ◌<◌, ◌≡◌, ◌⊎◌, cond, List, [], ◌∷◌, length}
use Rattle.program.specs.Program.{Program, Rule, rule_in}
use Rattle.program.specs.Idle.{Idle, is_idle}
use Rattle.program.specs.Encode.{encode}
use Rattle.program.specs.declared.Variable.{Variable}

-- the program with these rules in place of its own
abbrev pub with_rules : Program → List Rule → Program
with_rules P rs = record { variables = P.variables; rules = rs; constraints = P.constraints }

-- r is one of the rules
pub record Among (r : Rule) (rs : List Rule) : Type 0 where
  pub number : ℕ
  pub inside : number < length rs
  pub is : rule_in rs number ≡ r

-- rs are rules of the program, and each of its rules that is not among them is idle
pub record LeftOut (P : Program) (rs : List Rule) : Type 0 where
  pub only : (j : ℕ) → j < length rs → Among (rule_in rs j) P.rules
  pub rest : (i : ℕ) → i < length P.rules → Idle P (rule_in P.rules i) ⊎ Among (rule_in P.rules i) rs

-- the rules that are not idle, by the test
unfoldable pub acting : List Variable → List Rule → List Rule
acting vs [] = []
acting vs (r ∷ rs) = cond (is_idle vs r) (acting vs rs) (r ∷ acting vs rs)

-- the file of the program without its idle rules
abbrev pub struck : Program → List ℕ
struck P = encode (with_rules P (acting P.variables P.rules))
