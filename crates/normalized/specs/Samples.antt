-- Document 02, wish 4, "One file for one plan": what normalize answers and writes, by the bytes of each file and of its output, whatever the lent buffer holds
-- before.
use Rattle.std.specs.Prelude.{ℕ, ◌≤◌, ◌≡◌, List, [], ◌∷◌, ◌++◌, length, drop}
use Rattle.normal.specs.Normalizes.{written, Normalizes}
use Rattle.plans.specs.Starred.{small}
use Rattle.plans.specs.StarredChecks.{Checked}
use Rattle.plans.specs.IdlePlans.{below}
use Rattle.plans.specs.Arrivals.{natural, three}
use Rattle.verdict.specs.Checks as check

-- for every lent buffer as long as the file s the call answers n, the length of o, and leaves o, and after it the buffer's own bytes
pub record Written (s : List ℕ) (n : ℕ) (o : List ℕ) : Type 0 where
  pub told : length o ≡ n
  pub call : (b : List ℕ) → length s ≤ length b → Normalizes s b (written n) (o ++ drop n b)

-- ---- fields

-- a and b founded, x standard, all in 0..10
abbrev pub variables : List ℕ → List ℕ
variables rest = natural 1 (natural 1 (natural 0 rest))

-- a rule and a constraint of n bytes, before c
abbrev pub rule : ℕ → ℕ → ℕ → List ℕ → List ℕ
rule n form head rest = 0x02 ∷ 0x00 ∷ n ∷ form ∷ head ∷ rest

abbrev constraint : ℕ → ℕ → List ℕ → List ℕ
constraint n form rest = 0x03 ∷ 0x00 ∷ n ∷ form ∷ rest

-- terms: v with coefficient 1, v with number 0, the literals v ≥ n and v < n, the divisor n
abbrev pub once : ℕ → List ℕ → List ℕ
once v rest = v ∷ 0x00 ∷ small 1 rest

abbrev pub plain : ℕ → List ℕ → List ℕ
plain v rest = v ∷ 0x00 ∷ small 0 rest

abbrev pub from : ℕ → ℕ → List ℕ → List ℕ
from v n rest = v ∷ 0x01 ∷ small n rest

abbrev under : ℕ → ℕ → List ℕ → List ℕ
under v n rest = v ∷ 0x02 ∷ small n rest

abbrev pub over : ℕ → List ℕ → List ℕ
over n rest = 0x00 ∷ 0x03 ∷ small n rest

-- ---- rules and constraints

-- a ≥ 1; a ≥ -1; b ≥ 1
abbrev pub a_from_1 : List ℕ → List ℕ
a_from_1 rest = rule 4 1 0 (small 1 rest)

abbrev pub a_from_minus_1 : List ℕ → List ℕ
a_from_minus_1 rest = rule 4 1 0 (below 1 rest)

abbrev pub b_from_1 : List ℕ → List ℕ
b_from_1 rest = rule 4 1 1 (small 1 rest)

-- a ≥ b; a ≥ b / 1
abbrev pub a_from_b : List ℕ → List ℕ
a_from_b rest = rule 8 1 0 (small 0 (once 1 rest))

abbrev pub a_from_b_over_1 : List ℕ → List ℕ
a_from_b_over_1 rest = rule 12 8 0 (small 0 (over 1 (once 1 rest)))

-- a ≥ u + v; a ≥ the largest, the smallest or the product of u and v (forms 2, 3 and 4)
abbrev pub sum : ℕ → ℕ → List ℕ → List ℕ
sum u v rest = rule 12 1 0 (small 0 (once u (once v rest)))

abbrev pub pair : ℕ → ℕ → ℕ → List ℕ → List ℕ
pair form u v rest = rule 12 form 0 (small 0 (plain u (plain v rest)))

-- u + v ≤ 5
abbrev pub at_most_5 : ℕ → ℕ → List ℕ → List ℕ
at_most_5 u v rest = constraint 11 1 (below 5 (once u (once v rest)))

-- x ≥ 1 or a < 5; a < 5 or x ≥ 1
abbrev pub x_or_a : List ℕ → List ℕ
x_or_a rest = constraint 11 2 (small 0 (from 2 1 (under 0 5 rest)))

abbrev pub a_or_x : List ℕ → List ℕ
a_or_x rest = constraint 11 2 (small 0 (under 0 5 (from 2 1 rest)))

-- ---- files, and what is written for them

-- a ≥ x + b; b ≥ 1; b ≥ 1; a ≥ b + x
abbrev pub repeated : List ℕ
repeated = variables (sum 2 1 (b_from_1 (b_from_1 (sum 1 2 []))))

-- b ≥ 1; a ≥ x + b
abbrev pub exchanged : List ℕ
exchanged = variables (b_from_1 (sum 2 1 []))

-- b ≥ 1; a ≥ b + x
abbrev pub ordered : List ℕ
ordered = variables (b_from_1 (sum 1 2 []))

-- a ≥ b + x; a ≥ x + a
abbrev pub crossed : List ℕ
crossed = variables (sum 1 2 (sum 2 0 []))

-- a ≥ x if b ≥ 1 and a ≥ 2
abbrev pub carrying : List ℕ
carrying = variables (rule 16 7 0 (small 0 (plain 2 (from 1 1 (from 0 2 [])))))

-- b ≥ (x + a) / 2
abbrev pub divided : List ℕ
divided = variables (rule 16 8 1 (small 0 (over 2 (once 2 (once 0 [])))))

-- a ≥ b; a ≥ -1; a ≥ 1
abbrev pub by_bytes : List ℕ
by_bytes = variables (a_from_b (a_from_minus_1 (a_from_1 [])))

-- a ≥ x · b; a ≥ min(x, b); a ≥ max(x, b)
abbrev pub other_forms : List ℕ
other_forms = variables (pair 4 2 1 (pair 3 2 1 (pair 2 2 1 [])))

-- a ≥ b / 1; a ≥ b
abbrev pub over_1 : List ℕ
over_1 = variables (a_from_b_over_1 (a_from_b []))

-- b ≥ 1; x ≥ 1 or a < 5; x + b ≤ 5; a < 5 or x ≥ 1
abbrev pub constrained : List ℕ
constrained = variables (b_from_1 (x_or_a (at_most_5 2 1 (a_or_x []))))

-- b ≥ 1; b + x ≤ 5; a < 5 or x ≥ 1
abbrev pub constrained_ordered : List ℕ
constrained_ordered = variables (b_from_1 (at_most_5 1 2 (a_or_x [])))

-- two equal variables, founded in 0..10; a ≥ 0, an idle rule
abbrev pub equal_and_idle : List ℕ
equal_and_idle = natural 1 (natural 1 (rule 4 1 0 (small 0 [])))

pub record Samples : Type 0 where
  pub empty : Written [] 0 []
  -- "plain terms of sums .. by ascending variable", then "rules .. by the ascending bytes of whole fields, without repeats": one output for both files
  pub repeated_once : Written repeated 46 ordered
  pub exchanged_back : Written exchanged 46 ordered
  -- the terms decide which of two rules is first
  pub terms_decide : Written crossed 54 (variables (sum 0 2 (sum 1 2 [])))
  -- "all literals, by ascending variable; a carried variable .. stays first": x stands before a and b
  pub carried_first : Written carrying 43 (variables (rule 16 7 0 (small 0 (plain 2 (from 0 2 (from 1 1 []))))))
  -- a "divisor stays first", also before a term of variable 0
  pub divisor_first : Written divided 43 (variables (rule 16 8 1 (small 0 (over 2 (once 0 (once 2 []))))))
  -- a shorter field before a longer one, and the bytes 00 01 of 1 before the bytes FF FF of -1
  pub bytes_ascending : Written by_bytes 49 (variables (a_from_1 (a_from_minus_1 (a_from_b []))))
  -- "max, min and product"
  pub forms_ordered : Written other_forms 69 (variables (pair 2 1 2 (pair 3 1 2 (pair 4 1 2 []))))
  -- form 8 with divisor 1 is another rule than form 1
  pub both_stay : Written over_1 50 (variables (a_from_b (a_from_b_over_1 [])))
  -- "then rules, and constraints"
  pub constraints_last : Written constrained 59 constrained_ordered
  -- "variables as they are", equal ones too; an idle rule stays
  pub all_stay : Written equal_and_idle 23 equal_and_idle

-- the numbers after `rule` and `constraint` are those of the file lent: the check names b ≥ 1 by another for `repeated` than for its output, and b + x ≤ 5 by
-- another for `constrained` than for its output
pub record OtherNumbers : Type 0 where
  pub rule_of_input : Checked repeated (three 0 0 0) 3 (check.rule 1) []
  pub rule_of_output : Checked ordered (three 0 0 0) 3 (check.rule 0) []
  pub constraint_of_input : Checked constrained (three 0 9 0) 3 (check.constraint 1) []
  pub constraint_of_output : Checked constrained_ordered (three 0 9 0) 3 (check.constraint 0) []
