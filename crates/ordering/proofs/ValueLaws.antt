-- The fields of rules and constraints of an accepted file can be ordered.
use Prim.Native.Nat.{ℕ, ◌+◌, ◌-◌, ◌*◌, ◌<◌, ◌≤◌}
use mathlib.Core.Path.{◌≡◌}
use mathlib.Core.List.{List}
use native.Mathlib.Decide.{ℕ_discrete, dec_lt}
use native.Mathlib.Omega.{arith}
use borrow.Author.Tests.{ne_eqb}
use lib.ListN.{length, get_or, drop, length-take, length-drop}
use Rattle.format.specs.Limits.{max_terms}
use Rattle.program.specs.Fields.{tag_at, value_at, place}
use Rattle.program.specs.Program.{Program, rule_divisor, rule_body, constraint_body, rule_of, constraint_of, divisor_terms, term_form}
use Rattle.program.specs.Reading.{Passed, Accepts}
use Rattle.program.proofs.Bodies.{terms_length}
use Rattle.program.proofs.Forms.{divisor_few}
use Rattle.program.proofs.Places.{passed_fine, Sized, rule_sized, constraint_sized, variables_to, rules_to, constraints_to, rule_at_is, constraint_at_is}
use Rattle.program.proofs.Promises.{RulePromise, ConstraintPromise, accepts_promises}
use Rattle.reader.specs.Parts.{rule_place, constraint_place}
use Rattle.reader.proofs.Published.{rule_lies, constraint_lies}
use Rattle.normal.specs.Ordered.{staying}
use Rattle.ordering.specs.Bodies.{Orderable}
use Rattle.ordering.specs.Fields.{FieldHere}
use Rattle.ordering.proofs.FieldLaws.{from_constraint, from_rule}
use Rattle.ordering.proofs.TermLaws.{terms_after, distinct_drop}
use Rattle.program.specs.declared.Variable.{Variable}

stays_few : (form n : ℕ) → (form ≡ 7 → 2 ≤ n) → staying form ≤ n
unfolding staying
stays_few form n h = go (ℕ_discrete form 7)
  where
    go : Dec (form ≡ 7) → staying form ≤ n
    go (yes e) = let l = h e in rw e (omega arith)
    go (no f) = rw (ne_eqb form 7 f) (omega arith)

-- how many terms of a rule's value are a divisor, and how many of the others stay where they are
abbrev pub divisors : List ℕ → ℕ
divisors v = divisor_terms (get_or v 0 0)

abbrev pub stays : List ℕ → ℕ
stays v = staying (term_form (get_or v 0 0))

-- the value of a rule
module _ {vs : List Variable} (v : List ℕ) (p : RulePromise vs (rule_of v)) (z : Sized 4 (divisors v + max_terms) (length v)) where
  divisors_inside : divisors v ≤ z.terms
  divisors_inside =
      omega (arith, p.divided, terms_length (rule_divisor v), length-take (4 * divisors v) (drop 4 v), length-drop 4 v, z.length_is, divisor_few (get_or v 0 0))

  terms_many : length (rule_of v).terms ≡ z.terms - divisors v
  terms_many = omega (arith, terms_length (rule_body v), length-drop (4 + 4 * divisors v) v, z.length_is, divisors_inside)

  stays_inside : divisors v + stays v ≤ z.terms
  stays_inside = omega (arith, stays_few (term_form (get_or v 0 0)) (length (rule_of v).terms) p.body.count.carry_least, terms_many, divisors_inside)

  rule_orderable : Orderable (drop (4 + 4 * (divisors v + stays v)) v)
  rule_orderable = record {
    terms = z.terms - (divisors v + stays v);
    few = omega (arith, p.body.count.most, terms_many);
    size = omega (arith, length-drop (4 + 4 * (divisors v + stays v)) v, z.length_is, stays_inside);
    distinct = rw (terms_after 4 v (divisors v) (stays v)) (distinct_drop (stays v) (rule_of v).terms p.body.distinct);
  }

-- the value of a constraint
constraint_orderable : {vs : List Variable} (v : List ℕ) → ConstraintPromise vs (constraint_of v) → Sized 3 max_terms (length v) → Orderable (constraint_body v)
constraint_orderable v p z = record { terms = z.terms; few = z.few; size = omega (arith, length-drop 3 v, z.length_is); distinct = p.body.distinct }

-- the tag and the size of a field that is a rule, or a constraint
pub record RuleSized (s : List ℕ) (at : ℕ) : Type 0 where
  pub tagged : tag_at s at ≡ 2
  pub sized : Sized 4 (divisors (value_at s at) + max_terms) (length (value_at s at))

pub record ConstraintSized (s : List ℕ) (at : ℕ) : Type 0 where
  pub tagged : tag_at s at ≡ 3
  pub sized : Sized 3 max_terms (length (value_at s at))

module _ {s : List ℕ} {k : ℕ} (p : Passed s k) (i : ℕ) where
  passed_rule_sized : i < rules_to s k → RuleSized s (place s (variables_to s k + i))
  passed_rule_sized h =
      let r = rule_at_is p h in
      record { tagged = r.field.tagged; sized = rule_sized _ _ (passed_fine p _ r.before).sized r.field.tagged }

  passed_constraint_sized : i < constraints_to s k → ConstraintSized s (place s (variables_to s k + rules_to s k + i))
  passed_constraint_sized h =
      let r = constraint_at_is p h in
      record { tagged = r.field.tagged; sized = constraint_sized _ _ (passed_fine p _ r.before).sized r.field.tagged }

module _ {s : List ℕ} {P : Program} (a : Accepts s P) (i : ℕ) where
  pub rule_sizes : i < length P.rules → RuleSized s (rule_place s P i)
  rule_sizes h = let q = a.means in rw (← q) (passed_rule_sized a.whole.passed i (rw (← q) at h))

  pub constraint_sizes : i < length P.constraints → ConstraintSized s (constraint_place s P i)
  constraint_sizes h = let q = a.means in rw (← q) (passed_constraint_sized a.whole.passed i (rw (← q) at h))

  rule_here : i < length P.rules → FieldHere s (rule_place s P i)
  rule_here h =
      let l = rule_lies a i h in
      let v = value_at s (rule_place s P i) in
      let z = rule_sizes h in
      let e = from_rule _ (get_or v 0 0) z.tagged in
      let q : RulePromise P.variables (rule_of v) = rw l.is at ((accepts_promises a).rules i h) in
      record {
        inside = l.inside;
        tag_least = omega (arith, z.tagged);
        tag_most = omega (arith, z.tagged);
        headed = omega (arith, e, stays_inside v q z.sized, z.sized.length_is);
        body = rw (← e) (rule_orderable v q z.sized);
      }

  constraint_here : i < length P.constraints → FieldHere s (constraint_place s P i)
  constraint_here h =
      let l = constraint_lies a i h in
      let v = value_at s (constraint_place s P i) in
      let z = constraint_sizes h in
      let e = from_constraint _ (get_or v 0 0) z.tagged in
      let q : ConstraintPromise P.variables (constraint_of v) = rw l.is at ((accepts_promises a).constraints i h) in
      record {
        inside = l.inside;
        tag_least = omega (arith, z.tagged);
        tag_most = omega (arith, z.tagged);
        headed = omega (arith, e, z.sized.length_is);
        body = rw (← e) (constraint_orderable v q z.sized);
      }

pub field_here : {s : List ℕ} {P : Program} → Accepts s P → (i : ℕ) → i < length P.rules + length P.constraints → FieldHere s (rule_place s P i)
field_here {s} {P} a i h = go (dec_lt i (length P.rules))
  where
    go : Dec (i < length P.rules) → FieldHere s (rule_place s P i)
    go (yes l) = rule_here a i l
    go (no f) =
        let e : length P.variables + length P.rules + (i - length P.rules) ≡ length P.variables + i = omega arith in
        rw e at (constraint_here a (i - length P.rules) (omega arith))
