-- What holds of every variable, rule and constraint of a file whose fields passed: one sentence a field.
use Prim.Native.Nat.{ℕ, zero, suc, ◌<◌, ◌≤◌}
use mathlib.Core.Path.{◌≡◌, refl, sym, ap, subst}
use mathlib.Core.Logic.{◌≢◌}
use mathlib.Core.List.{List, [], ◌∷◌}
use mathlib.Core.Bool.{Bool, true, false, not, ◌||◌, ◌&&◌}
use native.Mathlib.Omega.{arith}
use lib.IntN.{ℤ, pos, negsuc, nat_abs}
use lib.Signed.{lt_z, ◌≤ℤ◌, lt_z_no}
use lib.ListN.{length, get_or, drop}
use lib.Dec.{T, eqb, leb, ltb}
use borrow.Author.Tests.{ltb-false, leb-true, leb-false, eqb-true, eqb-false, eq-eqb, ne_eqb, not-false}
use Rattle.format.specs.Limits.{max_terms, max_number, max_coefficient, max_divisor}
use Rattle.format.specs.Numbers.{beyond}
use Rattle.format.proofs.Int.{int, abs_is, not_negative}
use Rattle.format.proofs.Ints.{within_small}
use Rattle.program.specs.Program.{Rule, Constraint, Program, Item, variable, rule, constraint, constraint_in, program, divisor_terms, term_form, by_one, divisor_of}
use Rattle.program.specs.Program.{variable_in, rule_in, term_in}
use Rattle.program.specs.Refusals.{body_form, any_term, literal_position, wrong_op, must_be_zero, wrong_term, unknown_form, wrong_divisor, wrong_constraint, wrong_form}
use Rattle.program.specs.Refusals.{outside_term, outside_divisor, outside_range, undeclared_term, wrong_head, undeclared, not_from, wrong_count_of, wrong_divisors}
use Rattle.program.specs.Refusals.{wrong_count, repeated_term, variable_twice, negative_term, negative_product, item_conditions, item_refusal}
use Rattle.program.specs.Reading.{Passed, Accepts}
use Rattle.program.proofs.Forms.{read_as_known}
use Rattle.program.proofs.Conditions.{never, neither, both, none_first, none_below, below_none}
use Rattle.program.proofs.Places.{variables_to, rules_to, constraints_to, variable_stands, rule_at_is, constraint_at_is}
use Rattle.program.specs.Variables.{is_founded}
use Rattle.program.specs.declared.Variable.{Variable}
use Rattle.program.specs.declared.Term.{Term}

-- ---- no condition on an item is met

pub record ItemFine (vs : List Variable) (it : Item) : Type 0 where
  pub formed : wrong_form it ≡ false
  pub ranged : outside_range it ≡ false
  pub declared : undeclared vs it ≡ false
  pub counted : wrong_count it ≡ false
  pub once : variable_twice it ≡ false
  pub product : negative_product vs it ≡ false

pub item_fine : (vs : List Variable) (it : Item) → item_refusal vs it ≡ 0 → ItemFine vs it
unfolding item_refusal
item_fine vs it e =
    let cs = item_conditions vs it in
    let a = none_first 6 (wrong_form it) (drop 1 cs) e in
    let b = none_first 7 (outside_range it) (drop 2 cs) a.1 in
    let c = none_first 8 (undeclared vs it) (drop 3 cs) b.1 in
    let d = none_first 9 (wrong_count it) (drop 4 cs) c.1 in
    let f = none_first 10 (variable_twice it) (drop 5 cs) d.1 in
    let g = none_first 11 (negative_product vs it) [] f.1 in
    record { formed = a.0; ranged = b.0; declared = c.0; counted = d.0; once = f.0; product = g.0 }

-- ---- variables

pub record VariablePromise (x : Variable) : Type 0 where
  pub kind : x.kind ≤ 2
  pub ordered : lt_z x.high x.low ≡ false
  pub in_order_is : x.low ≤ℤ x.high
  pub low_small : nat_abs x.low ≤ max_number
  pub high_small : nat_abs x.high ≤ max_number

not_below : {a b : ℤ} → lt_z a b ≡ false → b ≤ℤ a
not_below e = lt_z_no (subst (λ (t : Bool). T (not t)) (sym e) tt)

pub variable_promised : (vs : List Variable) (x : Variable) → item_refusal vs (variable x) ≡ 0 → VariablePromise x
unfolding wrong_form outside_range
variable_promised vs x e =
    let f = item_fine vs (variable x) e in
    let a = neither (beyond max_number x.low || beyond max_number x.high) (lt_z x.high x.low) f.ranged in
    let b = neither (beyond max_number x.low) (beyond max_number x.high) a.0 in
    record {
      kind = ltb-false 2 x.kind f.formed;
      ordered = a.1;
      in_order_is = not_below a.1;
      low_small = within_small max_number x.low b.0;
      high_small = within_small max_number x.high b.1;
    }

-- ---- bodies

-- term t at position i of a body of a form
pub record TermPromise (vs : List Variable) (form i : ℕ) (t : Term) : Type 0 where
  pub declared : t.variable < length vs
  pub plain_op : literal_position form i ≡ false → t.op ≡ 0
  pub literal_op_least : literal_position form i ≡ true → 1 ≤ t.op
  pub literal_op_most : literal_position form i ≡ true → t.op ≤ 2
  pub literal_small : literal_position form i ≡ true → nat_abs t.number ≤ max_number
  pub coefficient_not_zero : form ≡ 1 → nat_abs t.number ≢ 0
  pub coefficient_small : form ≡ 1 → nat_abs t.number ≤ max_coefficient
  pub plain_zero : literal_position form i ≡ false → form ≢ 1 → t.number ≡ pos 0
  pub product_low : form ≡ 4 → lt_z (variable_in vs t.variable).low (pos 0) ≡ false
  pub product_order : form ≡ 4 → pos 0 ≤ℤ (variable_in vs t.variable).low

-- how many terms a form asks for
pub record CountPromise (form n : ℕ) : Type 0 where
  pub most : n ≤ max_terms
  pub max_least : form ≡ 2 → 1 ≤ n
  pub min_least : form ≡ 3 → 1 ≤ n
  pub product_two : form ≡ 4 → n ≡ 2
  pub size_one : form ≡ 5 → n ≡ 1
  pub if_least : form ≡ 6 → 1 ≤ n
  pub carry_least : form ≡ 7 → 2 ≤ n

pub record BodyPromise (vs : List Variable) (form : ℕ) (ts : List Term) : Type 0 where
  pub count : CountPromise form (length ts)
  pub terms : (i : ℕ) → i < length ts → TermPromise vs form i (term_in ts i)
  pub distinct : (i j : ℕ) → i < length ts → j < i → (term_in ts j).variable ≢ (term_in ts i).variable

-- the positions of literals
pub plain_position : (form i : ℕ) → form ≤ 5 → literal_position form i ≡ false
unfolding literal_position
plain_position form i h = simp (ne_eqb form 6 (omega arith), ne_eqb form 7 (omega arith))

pub carried_position : (form i : ℕ) → form ≡ 7 → i ≡ 0 → literal_position form i ≡ false
unfolding literal_position
carried_position form i h k = rw (h, k)

abs_zero : (z : ℤ) → nat_abs z ≡ 0 → z ≡ pos 0
abs_zero (pos n) h = ap pos h
abs_zero (negsuc n) h = let f : ⊥ = omega arith in absurd f

-- a literal's op is 1 or 2
one_or_two : (op : ℕ) → (eqb op 1 || eqb op 2) ≡ true → (1 ≤ op) × (op ≤ 2)
one_or_two op e = go (eqb op 1) refl e
  where
    go : (t : Bool) → eqb op 1 ≡ t → (t || eqb op 2) ≡ true → (1 ≤ op) × (op ≤ 2)
    go true p q = let h = eqb-true op 1 p in (omega arith, omega arith)
    go false p q = let h = eqb-true op 2 q in (omega arith, omega arith)

-- conditions on the number of terms
from_to : (least most n : ℕ) → not_from least most n ≡ false → (least ≤ n) × (n ≤ most)
from_to least most n e =
    let a = neither (ltb n least) (ltb most n) e in
    (ltb-false n least a.0, ltb-false most n a.1)

pub count_promised : (form n : ℕ) → 1 ≤ form → form ≤ 7 → wrong_count_of form n ≡ false → CountPromise form n
unfolding wrong_count_of
count_promised zero n h k e = let f : ⊥ = omega arith in absurd f
count_promised (suc zero) n h k e = let b = from_to 0 max_terms n e in omega arith
count_promised (suc (suc zero)) n h k e = let b = from_to 1 max_terms n e in omega arith
count_promised (suc (suc (suc zero))) n h k e = let b = from_to 1 max_terms n e in omega arith
count_promised (suc (suc (suc (suc zero)))) n h k e = let b = from_to 2 2 n e in omega arith
count_promised (suc (suc (suc (suc (suc zero))))) n h k e = let b = from_to 1 1 n e in omega arith
count_promised (suc (suc (suc (suc (suc (suc zero)))))) n h k e = let b = from_to 1 max_terms n e in omega arith
count_promised (suc (suc (suc (suc (suc (suc (suc zero))))))) n h k e = let b = from_to 2 max_terms n e in omega arith
count_promised (suc (suc (suc (suc (suc (suc (suc (suc form)))))))) n h k e = let f : ⊥ = omega arith in absurd f

module _ (vs : List Variable) (form i : ℕ) (t : Term) where
  -- the number of a plain term of form 1
  coefficient : outside_term form i t ≡ false → form ≡ 1 → (eqb (nat_abs t.number) 0 ≡ false) × (beyond max_coefficient t.number ≡ false)
  unfolding outside_term
  coefficient e h = neither (eqb (nat_abs t.number) 0) (beyond max_coefficient t.number) (simp (plain_position form i (omega arith), eq-eqb form 1 h) at e)

  term_promised : wrong_term form i t ≡ false → outside_term form i t ≡ false → undeclared_term vs t ≡ false → negative_term vs form t ≡ false
      → TermPromise vs form i t
  unfolding wrong_term wrong_op must_be_zero outside_term undeclared_term negative_term
  term_promised w o u n =
      let a = neither (wrong_op form i t.op) (must_be_zero form i && not (eqb (nat_abs t.number) 0)) w in
      let op : literal_position form i ≡ true → (1 ≤ t.op) × (t.op ≤ 2) = λ h. one_or_two t.op (not-false (eqb t.op 1 || eqb t.op 2) (simp h at a.0)) in
      let low : form ≡ 4 → lt_z (variable_in vs t.variable).low (pos 0) ≡ false = λ h. simp (eq-eqb form 4 h) at n in
      record {
        declared = leb-false (length vs) t.variable u;
        plain_op = λ h. eqb-true t.op 0 (not-false (eqb t.op 0) (simp h at a.0));
        literal_op_least = λ h. (op h).0;
        literal_op_most = λ h. (op h).1;
        literal_small = λ h. within_small max_number t.number (simp h at o);
        coefficient_not_zero = λ h. eqb-false (nat_abs t.number) 0 (coefficient o h).0;
        coefficient_small = λ h. within_small max_coefficient t.number (coefficient o h).1;
        plain_zero = λ h k. abs_zero t.number (eqb-true (nat_abs t.number) 0 (not-false (eqb (nat_abs t.number) 0) (simp (h, ne_eqb form 1 k) at a.1)));
        product_low = low;
        product_order = λ h. not_below (low h);
      }

-- no condition on a body is met
record BodyFine (vs : List Variable) (form : ℕ) (ts : List Term) : Type 0 where
  formed : any_term ts (wrong_term form) ≡ false
  ranged : any_term ts (outside_term form) ≡ false
  declared : any_term ts (λ i t. undeclared_term vs t) ≡ false
  counted : wrong_count_of form (length ts) ≡ false
  once : any_term ts (λ i t. repeated_term ts i) ≡ false
  product : any_term ts (λ i t. negative_term vs form t) ≡ false

body_promised : {vs : List Variable} {form : ℕ} {ts : List Term} → 1 ≤ form → form ≤ 7 → BodyFine vs form ts → BodyPromise vs form ts
unfolding repeated_term
body_promised {vs} {form} {ts} h k f =
    let n = length ts in
    record {
      count = count_promised form n h k f.counted;
      terms = λ i l. term_promised vs form i (term_in ts i) (none_below n _ f.formed i l) (none_below n _ f.ranged i l)
          (none_below n _ f.declared i l) (none_below n _ f.product i l);
      distinct = λ i j l m. eqb-false (term_in ts j).variable (term_in ts i).variable (none_below i _ (none_below n _ f.once i l) j m);
    }

-- ---- rules

-- the divisor's term
pub record DivisorPromise (t : Term) : Type 0 where
  pub no_variable_is : t.variable ≡ 0
  pub divisor_op : t.op ≡ 3
  pub from_one : pos 1 ≤ℤ t.number
  pub small : nat_abs t.number ≤ max_divisor

pub record RulePromise (vs : List Variable) (r : Rule) : Type 0 where
  pub form_least : 1 ≤ term_form r.form
  pub form_most : term_form r.form ≤ 7
  pub form_byte : r.form ≤ 8
  pub head_declared : r.head < length vs
  pub head_founded : is_founded (variable_in vs r.head) ≡ true
  pub c_small : nat_abs r.c ≤ max_number
  pub divided : length r.divisor ≡ divisor_terms r.form
  pub divisor : (i : ℕ) → i < length r.divisor → DivisorPromise (term_in r.divisor i)
  pub body : BodyPromise vs (term_form r.form) r.terms

known_form : (form : ℕ) → unknown_form form ≡ false → (1 ≤ form) × (form ≤ 8)
unfolding unknown_form
known_form form e =
    let b = both (leb 1 form) (leb form 8) (not-false (leb 1 form && leb form 8) e) in
    (leb-true 1 form b.0, leb-true form 8 b.1)

-- the divisor's term, where it meets no refusal
divisor_promised : (t : Term) → wrong_divisor t ≡ false → outside_divisor t ≡ false → DivisorPromise t
unfolding wrong_divisor outside_divisor
divisor_promised t w o =
    let a = both (eqb t.variable 0) (eqb t.op 3) (not-false (eqb t.variable 0 && eqb t.op 3) w) in
    let b = neither (lt_z t.number (pos 1)) (lt_z (pos max_divisor) t.number) o in
    let l : pos 1 ≤ℤ t.number = not_below b.0 in
    let m : t.number ≤ℤ pos max_divisor = not_below b.1 in
    record {
      no_variable_is = eqb-true t.variable 0 a.0;
      divisor_op = eqb-true t.op 3 a.1;
      from_one = l;
      small = omega (int, abs_is t.number, not_negative {z = t.number} (omega int));
    }

divided_as : (r : Rule) → wrong_divisors r ≡ false → length r.divisor ≡ divisor_terms r.form
unfolding wrong_divisors
divided_as r e = eqb-true (length r.divisor) (divisor_terms r.form) (not-false _ e)

-- a rule is over a number from 1 on
pub divisor_least : {vs : List Variable} {r : Rule} → RulePromise vs r → pos 1 ≤ℤ divisor_of r
divisor_least {r = r} p = go r.divisor p.divisor
  where
    go : (ts : List Term) → ((i : ℕ) → i < length ts → DivisorPromise (term_in ts i)) → pos 1 ≤ℤ (get_or ts 0 by_one).number
    go [] h = omega int
    go (t ∷ ts) h = (h 0 (omega arith)).from_one

pub divisor_most : {vs : List Variable} {r : Rule} → RulePromise vs r → nat_abs (divisor_of r) ≤ max_divisor
divisor_most {r = r} p = go r.divisor p.divisor
  where
    go : (ts : List Term) → ((i : ℕ) → i < length ts → DivisorPromise (term_in ts i)) → nat_abs (get_or ts 0 by_one).number ≤ max_divisor
    go [] h = omega arith
    go (t ∷ ts) h = (h 0 (omega arith)).small

pub rule_promised : (vs : List Variable) (r : Rule) → item_refusal vs (rule r) ≡ 0 → RulePromise vs r
unfolding wrong_form outside_range undeclared wrong_head wrong_count variable_twice negative_product
rule_promised vs r e =
    let f = item_fine vs (rule r) e in
    let form = term_form r.form in
    let n = length r.divisor in
    let a = neither (unknown_form r.form || any_term r.divisor (λ i t. wrong_divisor t)) (any_term r.terms (wrong_term form)) f.formed in
    let own = neither (unknown_form r.form) (any_term r.divisor (λ i t. wrong_divisor t)) a.0 in
    let b = neither (beyond max_number r.c || any_term r.divisor (λ i t. outside_divisor t)) (any_term r.terms (outside_term form)) f.ranged in
    let near = neither (beyond max_number r.c) (any_term r.divisor (λ i t. outside_divisor t)) b.0 in
    let k = neither (wrong_divisors r) (wrong_count_of form (length r.terms)) f.counted in
    let d = neither (wrong_head vs r.head) (any_term r.terms (λ i t. undeclared_term vs t)) f.declared in
    let g = neither (leb (length vs) r.head) (not (is_founded (variable_in vs r.head))) d.0 in
    let known = known_form r.form own.0 in
    let read_as = read_as_known r.form known.0 known.1 in
    record {
      form_least = read_as.0;
      form_most = read_as.1;
      form_byte = known.1;
      head_declared = leb-false (length vs) r.head g.0;
      head_founded = not-false (is_founded (variable_in vs r.head)) g.1;
      c_small = within_small max_number r.c near.0;
      divided = divided_as r k.0;
      divisor = λ i l. divisor_promised (term_in r.divisor i) (none_below n _ own.1 i l) (none_below n _ near.1 i l);
      body = body_promised read_as.0 read_as.1 (record { formed = a.1; ranged = b.1; declared = d.1; counted = k.1; once = f.once; product = f.product });
    }

-- ---- constraints

pub record ConstraintPromise (vs : List Variable) (k : Constraint) : Type 0 where
  pub form_least : 1 ≤ k.form
  pub form_most : k.form ≤ 2
  pub c_small : nat_abs k.c ≤ max_number
  pub c_zero : k.form ≡ 2 → k.c ≡ pos 0
  pub body : BodyPromise vs (body_form k.form) k.terms

-- the form of a constraint, and that of its body
record Kind (form : ℕ) : Type 0 where
  least : 1 ≤ form
  most : form ≤ 2
  body_least : 1 ≤ body_form form
  body_most : body_form form ≤ 7
  body_not_product : body_form form ≢ 4

known_constraint : (form : ℕ) (c : ℤ) → wrong_constraint form c ≡ false → Kind form
unfolding wrong_constraint
known_constraint zero c e = absurd (never refl e)
known_constraint (suc zero) c e = omega arith
known_constraint (suc (suc zero)) c e = omega arith
known_constraint (suc (suc (suc form))) c e =
    let m = suc (suc (suc form)) in
    absurd (never refl (simp (ne_eqb m 1 (omega arith), ne_eqb m 2 (omega arith)) at e))

zero_c : (form : ℕ) (c : ℤ) → wrong_constraint form c ≡ false → form ≡ 2 → c ≡ pos 0
unfolding wrong_constraint
zero_c form c e h = abs_zero c (eqb-true (nat_abs c) 0 (not-false (eqb (nat_abs c) 0) (rw h at e)))

pub constraint_promised : (vs : List Variable) (k : Constraint) → item_refusal vs (constraint k) ≡ 0 → ConstraintPromise vs k
unfolding wrong_form outside_range undeclared wrong_count variable_twice negative_term
constraint_promised vs k e =
    let f = item_fine vs (constraint k) e in
    let a = neither (wrong_constraint k.form k.c) (any_term k.terms (wrong_term (body_form k.form))) f.formed in
    let b = neither (beyond max_number k.c) (any_term k.terms (outside_term (body_form k.form))) f.ranged in
    let kind = known_constraint k.form k.c a.0 in
    record {
      form_least = kind.least;
      form_most = kind.most;
      c_small = within_small max_number k.c b.0;
      c_zero = zero_c k.form k.c a.0;
      body = body_promised kind.body_least kind.body_most (record {
        formed = a.1;
        ranged = b.1;
        declared = f.declared;
        counted = f.counted;
        once = f.once;
        product = below_none (length k.terms) _ (λ i l. rw (ne_eqb (body_form k.form) 4 kind.body_not_product));
      });
    }

-- ---- files

module _ {s : List ℕ} {k : ℕ} (p : Passed s k) where
  pub passed_variable : (x : ℕ) → x < variables_to s k → VariablePromise (variable_in (program s k).variables x)
  passed_variable x h = variable_promised (program s k).variables _ (variable_stands p h).fine

  pub passed_rule : (i : ℕ) → i < rules_to s k → RulePromise (program s k).variables (rule_in (program s k).rules i)
  passed_rule i h = rule_promised (program s k).variables _ (rule_at_is p h).fine

  pub passed_constraint : (i : ℕ) → i < constraints_to s k → ConstraintPromise (program s k).variables (constraint_in (program s k).constraints i)
  passed_constraint i h = constraint_promised (program s k).variables _ (constraint_at_is p h).fine

-- of an accepted file
pub record Promises (P : Program) : Type 0 where
  pub variables : (x : ℕ) → x < length P.variables → VariablePromise (variable_in P.variables x)
  pub rules : (i : ℕ) → i < length P.rules → RulePromise P.variables (rule_in P.rules i)
  pub constraints : (i : ℕ) → i < length P.constraints → ConstraintPromise P.variables (constraint_in P.constraints i)

pub passed_promises : {s : List ℕ} {k : ℕ} → Passed s k → Promises (program s k)
passed_promises p = record { variables = passed_variable p; rules = passed_rule p; constraints = passed_constraint p }

pub accepts_promises : {s : List ℕ} {P : Program} → Accepts s P → Promises P
accepts_promises a = rw a.means at (passed_promises a.whole.passed)
