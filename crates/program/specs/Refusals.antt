-- Document 01, "When a file or call is turned down": a condition for each of the refusals 2 to 12.
use Rattle.std.specs.Prelude.{ℕ, ◌+◌, ◌*◌, List, [], ◌∷◌, Bool, true, false, not, cond, ◌||◌, ◌&&◌, ℤ, pos, nat_abs, length, get_or, leb, ltb, eqb}
use Rattle.std.specs.Int.Signed.{lt_z}
use Rattle.format.specs.Limits.{max_variables, max_rules, max_constraints, max_terms, max_number, max_coefficient, max_divisor}
use Rattle.format.specs.Numbers.{beyond}
use Rattle.program.specs.Tables.{◌⇒◌, select, Condition, ◌when◌, first_of, any_below}
use Rattle.program.specs.Fields.{tag_at, value_at, next_at, place, tag_before}
use Rattle.program.specs.Program.{Program, Rule, Item, variable, rule, constraint, none, item_of, divisor_terms, term_form, program, variable_in, term_in}
use Rattle.program.specs.Variables.{is_founded}
use Rattle.program.specs.declared.Variable.{Variable}
use Rattle.program.specs.declared.Term.{Term}

-- 2: "field cut short", in its value or in its tag and length
unfoldable pub cut_short : List ℕ → ℕ → Bool
cut_short s at = ltb (length s) (at + 3) || ltb (length s) (next_at s at)

-- 3: "unknown tag"
unfoldable pub unknown_tag : ℕ → Bool
unknown_tag tag = not (leb 1 tag && leb tag 3)

-- 4: "tag below the one before"
unfoldable pub tag_below : ℕ → ℕ → Bool
tag_below before tag = ltb tag before

-- 5: "one variable, rule or constraint too many", P being what stands before
unfoldable pub one_too_many : Program → ℕ → Bool
one_too_many P tag =
    select tag
    ((1 ⇒ leb max_variables (length P.variables))
    ∷ (2 ⇒ leb max_rules (length P.rules))
    ∷ (3 ⇒ leb max_constraints (length P.constraints))
    ∷ [])
    false

-- 6: "length: variable not 5; rule not 4 + 4n, constraint not 3 + 4n, n in 0..16". Document 02, wish 1: "The divisor is beside the 16 terms, so form 8's n
-- in refusal 6 runs to 17."
unfoldable pub not_terms : ℕ → ℕ → ℕ → Bool
not_terms header most len = not (any_below (most + 1) (λ n. eqb len (header + 4 * n)))

unfoldable pub wrong_length : ℕ → List ℕ → Bool
wrong_length tag v =
    select tag
    ((1 ⇒ not (eqb (length v) 5))
    ∷ (2 ⇒ not_terms 4 (divisor_terms (get_or v 0 0) + max_terms) (length v))
    ∷ (3 ⇒ not_terms 3 max_terms (length v))
    ∷ [])
    false

-- Conditions on bodies: `form` is the form of a rule, 1 for the terms of form 8. A constraint of form 1 has the terms of a sum, one of form 2 the literals of an if
abbrev pub body_form : ℕ → ℕ
body_form form = select form ((1 ⇒ 1) ∷ (2 ⇒ 6) ∷ []) 0

-- some term of the body, with its position, has the property
abbrev pub any_term : List Term → (ℕ → Term → Bool) → Bool
any_term ts p = any_below (length ts) (λ i. p i (term_in ts i))

-- a literal stands at each position of form 6, and of form 7 except the first
unfoldable pub literal_position : ℕ → ℕ → Bool
literal_position form i = select form ((6 ⇒ true) ∷ (7 ⇒ not (eqb i 0)) ∷ []) false

-- ops 1 and 2 are literals, op 0 is a plain term
unfoldable pub wrong_op : ℕ → ℕ → ℕ → Bool
wrong_op form i op = cond (literal_position form i) (not (eqb op 1 || eqb op 2)) (not (eqb op 0))

-- "Plain terms in forms 2 to 5 and 7 have number 0"
unfoldable pub must_be_zero : ℕ → ℕ → Bool
must_be_zero form i = not (literal_position form i) && not (eqb form 1)

unfoldable pub wrong_term : ℕ → ℕ → Term → Bool
wrong_term form i t = wrong_op form i t.op || (must_be_zero form i && not (eqb (nat_abs t.number) 0))

unfoldable pub unknown_form : ℕ → Bool
unknown_form form = not (leb 1 form && leb form 8)

-- document 02, wish 1: "a first term of another variable byte or op 7"
unfoldable pub wrong_divisor : Term → Bool
wrong_divisor t = not (eqb t.variable 0 && eqb t.op 3)

-- a constraint's form is unknown, or its c must be 0 and is not
unfoldable pub wrong_constraint : ℕ → ℤ → Bool
wrong_constraint form c = select form ((1 ⇒ false) ∷ (2 ⇒ not (eqb (nat_abs c) 0)) ∷ []) true

-- 7: "unknown kind or form, op not for this form and position, number or c that must be 0". Document 02, wish 3: "Kind 2, which refusal 7 now lets pass"
unfoldable pub wrong_form : Item → Bool
wrong_form (variable x) = ltb 2 x.kind
wrong_form (rule r) = unknown_form r.form || any_term r.divisor (λ i t. wrong_divisor t) || any_term r.terms (wrong_term (term_form r.form))
wrong_form (constraint k) = wrong_constraint k.form k.c || any_term k.terms (wrong_term (body_form k.form))
wrong_form none = false

-- the number of a literal, or a coefficient, which may not be 0
unfoldable pub outside_term : ℕ → ℕ → Term → Bool
outside_term form i t =
    cond (literal_position form i) (beyond max_number t.number)
    (eqb form 1 && (eqb (nat_abs t.number) 0 || beyond max_coefficient t.number))

-- document 02, wish 1: "A divisor out of range meets refusal 8"
unfoldable pub outside_divisor : Term → Bool
outside_divisor t = lt_z t.number (pos 1) || lt_z (pos max_divisor) t.number

-- 8: "number outside its range, or low above high"
unfoldable pub outside_range : Item → Bool
outside_range (variable x) = beyond max_number x.low || beyond max_number x.high || lt_z x.high x.low
outside_range (rule r) = beyond max_number r.c || any_term r.divisor (λ i t. outside_divisor t) || any_term r.terms (outside_term (term_form r.form))
outside_range (constraint k) = beyond max_number k.c || any_term k.terms (outside_term (body_form k.form))
outside_range none = false

-- 9: "undeclared variable, or head not founded", vs being the variables declared before
unfoldable pub undeclared_term : List Variable → Term → Bool
undeclared_term vs t = leb (length vs) t.variable

unfoldable pub wrong_head : List Variable → ℕ → Bool
wrong_head vs head = leb (length vs) head || not (is_founded (variable_in vs head))

unfoldable pub undeclared : List Variable → Item → Bool
undeclared vs (variable x) = false
undeclared vs (rule r) = wrong_head vs r.head || any_term r.terms (λ i t. undeclared_term vs t)
undeclared vs (constraint k) = any_term k.terms (λ i t. undeclared_term vs t)
undeclared vs none = false

-- 10: "term count not for this form"
abbrev pub not_from : ℕ → ℕ → ℕ → Bool
not_from least most n = ltb n least || ltb most n

unfoldable pub wrong_count_of : ℕ → ℕ → Bool
wrong_count_of form n =
    select form
    ((1 ⇒ not_from 0 max_terms n)
    ∷ (2 ⇒ not_from 1 max_terms n)
    ∷ (3 ⇒ not_from 1 max_terms n)
    ∷ (4 ⇒ not_from 2 2 n)
    ∷ (5 ⇒ not_from 1 1 n)
    ∷ (6 ⇒ not_from 1 max_terms n)
    ∷ (7 ⇒ not_from 2 max_terms n)
    ∷ [])
    false

-- document 02, wish 1: "a rule without terms 10". A rule has the divisor that its form asks for, and no other
unfoldable pub wrong_divisors : Rule → Bool
wrong_divisors r = not (eqb (length r.divisor) (divisor_terms r.form))

unfoldable pub wrong_count : Item → Bool
wrong_count (variable x) = false
wrong_count (rule r) = wrong_divisors r || wrong_count_of (term_form r.form) (length r.terms)
wrong_count (constraint k) = wrong_count_of (body_form k.form) (length k.terms)
wrong_count none = false

-- 11: "a variable twice in one body"
unfoldable pub repeated_term : List Term → ℕ → Bool
repeated_term ts i = any_below i (λ j. eqb (term_in ts j).variable (term_in ts i).variable)

unfoldable pub variable_twice : Item → Bool
variable_twice (variable x) = false
variable_twice (rule r) = any_term r.terms (λ i t. repeated_term r.terms i)
variable_twice (constraint k) = any_term k.terms (λ i t. repeated_term k.terms i)
variable_twice none = false

-- 12: "product of a variable with low below 0"
unfoldable pub negative_term : List Variable → ℕ → Term → Bool
negative_term vs form t = eqb form 4 && lt_z (variable_in vs t.variable).low (pos 0)

unfoldable pub negative_product : List Variable → Item → Bool
negative_product vs (variable x) = false
negative_product vs (rule r) = any_term r.terms (λ i t. negative_term vs (term_form r.form) t)
negative_product vs (constraint k) = false
negative_product vs none = false

-- the conditions on what a field means, in their order
abbrev pub item_conditions : List Variable → Item → List Condition
item_conditions vs it =
    (7 when wrong_form it)
    ∷ (8 when outside_range it)
    ∷ (9 when undeclared vs it)
    ∷ (10 when wrong_count it)
    ∷ (11 when variable_twice it)
    ∷ (12 when negative_product vs it)
    ∷ []

unfoldable pub item_refusal : List Variable → Item → ℕ
item_refusal vs it = first_of (item_conditions vs it)

-- "field by field, each through 2 to 12 upwards": the first refusal of a field that is not cut short, after P and the tag before
unfoldable pub value_refusal : Program → ℕ → ℕ → List ℕ → ℕ
value_refusal P before tag v =
    first_of
    ((3 when unknown_tag tag)
    ∷ (4 when tag_below before tag)
    ∷ (5 when one_too_many P tag)
    ∷ (6 when wrong_length tag v)
    ∷ (item_refusal P.variables (item_of tag v) when true)
    ∷ [])

-- of field k of a file; 0 where there is none
unfoldable pub field_refusal : List ℕ → ℕ → ℕ
field_refusal s k =
    let at = place s k in
    first_of
    ((2 when cut_short s at)
    ∷ (value_refusal (program s k) (tag_before s k) (tag_at s at) (value_at s at) when true)
    ∷ [])
