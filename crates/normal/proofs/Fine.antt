-- A rule and a constraint that meet no refusal meet none with their terms in order.
use Prim.Native.Nat.{ℕ}
use mathlib.Core.Path.{◌≡◌, refl, sym, subst}
use mathlib.Core.Bool.{false, not, cond, ◌||◌, ◌&&◌}
use mathlib.Core.List.{List}
use lib.IntN.{nat_abs}
use lib.ListN.{length}
use lib.Dec.{eqb}
use borrow.Author.Tests.{ne_eqb}
use Rattle.format.specs.Limits.{max_number, max_coefficient}
use Rattle.format.specs.Numbers.{beyond}
use Rattle.program.specs.Program.{Rule, Constraint, Item, rule, constraint, term_form, term_in}
use Rattle.program.specs.Refusals.{body_form, any_term, wrong_op, must_be_zero, wrong_term, wrong_form, outside_term, outside_range, undeclared_term, undeclared}
use Rattle.program.specs.Refusals.{wrong_divisors, wrong_count, repeated_term, variable_twice, negative_term, negative_product, item_refusal}
use Rattle.program.specs.declared.Variable.{Variable}
use Rattle.program.specs.declared.Term.{Term}
use Rattle.program.proofs.Conditions.{below_none}
use Rattle.program.proofs.Promises.{ItemFine, item_fine, rule_promised, constraint_promised}
use Rattle.normal.specs.Ordered.{OrderedRule, OrderedConstraint}
use Rattle.normal.proofs.Rearranged.{Rearranged}
use Rattle.normal.proofs.Folds.{some_same, rule_rearranged, constraint_rearranged}

-- where no condition is met, there is no refusal
pub fine_item : {vs : List Variable} {it : Item} → ItemFine vs it → item_refusal vs it ≡ 0
unfolding item_refusal
fine_item f = rw (f.formed, f.ranged, f.declared, f.counted, f.once, f.product)

-- ---- the conditions on a body

module _ (vs : List Variable) (form : ℕ) (ts us : List Term) (m : Rearranged form ts us) where
  formed_same : any_term us (wrong_term form) ≡ any_term ts (wrong_term form)
  unfolding wrong_term wrong_op must_be_zero
  formed_same = some_same form ts us m (λ b t. cond b (not (eqb t.op 1 || eqb t.op 2)) (not (eqb t.op 0))
      || ((not b && not (eqb form 1)) && not (eqb (nat_abs t.number) 0)))

  ranged_same : any_term us (outside_term form) ≡ any_term ts (outside_term form)
  unfolding outside_term
  ranged_same = some_same form ts us m (λ b t.
      cond b (beyond max_number t.number) (eqb form 1 && (eqb (nat_abs t.number) 0 || beyond max_coefficient t.number)))

  declared_same : any_term us (λ i t. undeclared_term vs t) ≡ any_term ts (λ i t. undeclared_term vs t)
  declared_same = some_same form ts us m (λ b t. undeclared_term vs t)

  product_same : any_term us (λ i t. negative_term vs form t) ≡ any_term ts (λ i t. negative_term vs form t)
  product_same = some_same form ts us m (λ b t. negative_term vs form t)

  never_twice : any_term us (λ i t. repeated_term us i) ≡ false
  unfolding repeated_term
  never_twice = below_none (length us) _ (λ i h. below_none i _ (λ j l. ne_eqb (term_in us j).variable (term_in us i).variable (m.once i j h l)))

-- ---- rules and constraints

pub ordered_rule_fine : (vs : List Variable) (r q : Rule) → item_refusal vs (rule r) ≡ 0 → OrderedRule r q → item_refusal vs (rule q) ≡ 0
unfolding wrong_form outside_range undeclared wrong_count wrong_divisors variable_twice negative_product
ordered_rule_fine vs r q e o = subst (λ (s : Rule). item_refusal vs (rule s) ≡ 0) same (fine_item (record {
  formed = rw (formed_same vs form ts us m) f.formed;
  ranged = rw (ranged_same vs form ts us m) f.ranged;
  declared = rw (declared_same vs form ts us m) f.declared;
  counted = rw m.sizes f.counted;
  once = never_twice vs form ts us m;
  product = rw (product_same vs form ts us m) f.product;
}))
  where
    form : ℕ
    form = term_form r.form

    ts : List Term
    ts = r.terms

    us : List Term
    us = q.terms

    m : Rearranged form ts us
    m = rule_rearranged (rule_promised vs r e) o

    f : ItemFine vs (rule r)
    f = item_fine vs (rule r) e

    same : ◌≡◌ {A = Rule} (record { form = r.form; head = r.head; c = r.c; divisor = r.divisor; terms = us }) q
    same = λ i. record { form = sym o.form i; head = sym o.head i; c = sym o.c i; divisor = sym o.divisor i; terms = us }

pub ordered_constraint_fine : (vs : List Variable) (k l : Constraint) → item_refusal vs (constraint k) ≡ 0 → OrderedConstraint k l → item_refusal vs (constraint l) ≡ 0
unfolding wrong_form outside_range undeclared wrong_count variable_twice negative_product
ordered_constraint_fine vs k l e o = subst (λ (s : Constraint). item_refusal vs (constraint s) ≡ 0) same (fine_item (record {
  formed = rw (formed_same vs form ts us m) f.formed;
  ranged = rw (ranged_same vs form ts us m) f.ranged;
  declared = rw (declared_same vs form ts us m) f.declared;
  counted = rw m.sizes f.counted;
  once = never_twice vs form ts us m;
  product = refl;
}))
  where
    form : ℕ
    form = body_form k.form

    ts : List Term
    ts = k.terms

    us : List Term
    us = l.terms

    m : Rearranged form ts us
    m = constraint_rearranged (constraint_promised vs k e) o

    f : ItemFine vs (constraint k)
    f = item_fine vs (constraint k) e

    same : ◌≡◌ {A = Constraint} (record { form = k.form; c = k.c; terms = us }) l
    same = λ i. record { form = sym o.form i; c = sym o.c i; terms = us }
