-- Document 01, "The rule file": the program that a file means.
use Rattle.std.specs.Prelude.{ℕ, zero, suc, ◌+◌, ◌*◌, List, [], ◌∷◌, ◌++◌, ℤ, pos, get_or, take, drop}
use Rattle.format.specs.Numbers.{signed, signed_at}
use Rattle.program.specs.Tables.{◌⇒◌, select}
use Rattle.program.specs.Fields.{tag_at, value_at, place}
use Rattle.program.specs.declared.Variable.{Variable}
use Rattle.program.specs.declared.Term.{Term}

-- `Variable` is the code's own record (src/lib.rt): "kind (1 byte; 0 standard, 1 founded), low (2), high (2)"; kind 2 is document 02's wish 3. So is `Term`: "variable (1), op (1),
-- number (2). Op 0 is a plain term; op 1 means variable ≥ number; op 2 means variable < number." A term of op 3 carries a divisor (document 02, wish 1).

-- "form (1), head variable (1), c (2), terms". `terms` are its occurrences of variables. `divisor` has what stands before them: of form 8 the term that
-- names no variable, of every other form nothing
pub record Rule : Type 0 where
  pub form : ℕ
  pub head : ℕ
  pub c : ℤ
  pub divisor : List Term
  pub terms : List Term

-- "form (1), c (2), terms"
pub record Constraint : Type 0 where
  pub form : ℕ
  pub c : ℤ
  pub terms : List Term

pub record Program : Type 0 where
  pub variables : List Variable
  pub rules : List Rule
  pub constraints : List Constraint

-- the terms of a body, 4 bytes each
unfoldable pub terms_of : List ℕ → List Term
terms_of [] = []
terms_of (x ∷ []) = []
terms_of (x ∷ op ∷ []) = []
terms_of (x ∷ op ∷ high ∷ []) = []
terms_of (x ∷ op ∷ high ∷ low ∷ rest) = record { variable = x; op = op; number = signed high low } ∷ terms_of rest

-- what the value of a field means, by its tag
abbrev pub variable_of : List ℕ → Variable
variable_of v = record { kind = get_or v 0 0; low = signed_at v 1; high = signed_at v 3 }

-- Document 02, wish 1: "rule form 8: as form 1, after a first term of variable byte 0, which names no variable, op 3 and a divisor from 1 to 1,000."
-- How many such terms a form has, and the form as which its other terms are read
unfoldable pub divisor_terms : ℕ → ℕ
divisor_terms form = select form ((8 ⇒ 1) ∷ []) 0

unfoldable pub term_form : ℕ → ℕ
term_form form = select form ((8 ⇒ 1) ∷ []) form

-- a rule's divisor follows its header: form, head and c. Its body follows the divisor, a constraint's body the header: form and c
abbrev pub rule_divisor : List ℕ → List ℕ
rule_divisor v = take (4 * divisor_terms (get_or v 0 0)) (drop 4 v)

abbrev pub rule_body : List ℕ → List ℕ
rule_body v = drop (4 + 4 * divisor_terms (get_or v 0 0)) v

abbrev pub constraint_body : List ℕ → List ℕ
constraint_body v = drop 3 v

abbrev pub rule_of : List ℕ → Rule
rule_of v = record { form = get_or v 0 0; head = get_or v 1 0; c = signed_at v 2; divisor = terms_of (rule_divisor v); terms = terms_of (rule_body v) }

abbrev pub constraint_of : List ℕ → Constraint
constraint_of v = record { form = get_or v 0 0; c = signed_at v 1; terms = terms_of (constraint_body v) }

pub data Item : Type 0 where
  variable : Variable → Item
  rule : Rule → Item
  constraint : Constraint → Item
  none : Item

abbrev pub item_of : ℕ → List ℕ → Item
item_of tag v = select tag ((1 ⇒ variable (variable_of v)) ∷ (2 ⇒ rule (rule_of v)) ∷ (3 ⇒ constraint (constraint_of v)) ∷ []) none

-- "Variables, rules and constraints are each numbered from 0 in file order."
abbrev pub with : Program → Item → Program
with P (variable x) = record { variables = P.variables ++ (x ∷ []); rules = P.rules; constraints = P.constraints }
with P (rule r) = record { variables = P.variables; rules = P.rules ++ (r ∷ []); constraints = P.constraints }
with P (constraint k) = record { variables = P.variables; rules = P.rules; constraints = P.constraints ++ (k ∷ []) }
with P none = P

-- item k of a file, and the program of its first k fields
abbrev pub item : List ℕ → ℕ → Item
item s k = item_of (tag_at s (place s k)) (value_at s (place s k))

unfoldable pub program : List ℕ → ℕ → Program
program s zero = record { variables = []; rules = []; constraints = [] }
program s (suc k) = with (program s k) (item s k)

-- past the last one: a standard variable of range 0..0, a plain term, a rule and a constraint of no form
abbrev pub no_variable : Variable
no_variable = record { kind = 0; low = pos 0; high = pos 0 }

abbrev pub no_term : Term
no_term = record { variable = 0; op = 0; number = pos 0 }

abbrev pub no_rule : Rule
no_rule = record { form = 0; head = 0; c = pos 0; divisor = []; terms = [] }

abbrev pub no_constraint : Constraint
no_constraint = record { form = 0; c = pos 0; terms = [] }

abbrev pub variable_in : List Variable → ℕ → Variable
variable_in vs x = get_or vs x no_variable

abbrev pub term_in : List Term → ℕ → Term
term_in ts i = get_or ts i no_term

-- "Form 1 is read as divisor 1": the number of the divisor's term, and 1 where there is none
abbrev pub by_one : Term
by_one = record { variable = 0; op = 3; number = pos 1 }

abbrev pub divisor_of : Rule → ℤ
divisor_of r = (get_or r.divisor 0 by_one).number

abbrev pub rule_in : List Rule → ℕ → Rule
rule_in rs i = get_or rs i no_rule

abbrev pub constraint_in : List Constraint → ℕ → Constraint
constraint_in ks i = get_or ks i no_constraint

-- the first n variables of a file where each field before them is a variable of 8 bytes: variable x at byte 8 x (law `variables_stand`)
unfoldable pub variables_at : List ℕ → ℕ → List Variable
variables_at s zero = []
variables_at s (suc n) = variables_at s n ++ (variable_of (drop (8 * n + 3) s) ∷ [])
