-- A rule that names declared variables alone is the same rule where more variables follow: its directions, what it keeps, whether it is idle, its refusals.
use Prim.Native.Nat.{ℕ, ◌<◌}
use mathlib.Core.Path.{◌≡◌, refl, sym, ap, ◌∙◌, subst}
use mathlib.Core.Logic.{◌↔◌}
use mathlib.Core.Bool.{Bool, true, false, ◌&&◌}
use mathlib.Core.List.{List, ◌++◌}
use native.Mathlib.Omega.{arith}
use lib.Dec.{T, eqb, leb, ltb}
use lib.IntN.{pos}
use lib.Signed.{lt_z}
use lib.ListN.{length, length-append, get_or-append, get_or-eq_default}
use borrow.Author.Tests.{ltb-true, ltb-false, lt-leb}
use Rattle.program.specs.Program.{Program, Rule, Constraint, variable, rule, constraint, term_form, variable_in, no_variable, no_term, term_in}
use Rattle.program.specs.Refusals.{any_term, undeclared_term, wrong_head, undeclared, negative_term, negative_product, item_refusal}
use Rattle.program.specs.Variables.{is_founded, start, in_range, no_more}
use Rattle.program.specs.Directions.{direction}
use Rattle.program.specs.Evaluate.{evaluate}
use Rattle.program.specs.Readings.{body_variable, kept}
use Rattle.program.specs.Idle.{Idle, demanding, lows, highs, most_at, most, is_idle}
use Rattle.program.specs.declared.Variable.{Variable}
use Rattle.program.specs.declared.Term.{Term}
use Rattle.program.proofs.Conditions.{below_none, any_same}
use Rattle.program.proofs.Promises.{RulePromise, rule_promised, constraint_promised, item_fine}
use Rattle.normal.proofs.Fine.{fine_item}

-- the head and every variable of the body are declared
pub record Declared (vs : List Variable) (r : Rule) : Type 0 where
  pub head : r.head < length vs
  pub body : (i : ℕ) → i < length r.terms → body_variable r i < length vs

pub promised_declared : {vs : List Variable} {r : Rule} → RulePromise vs r → Declared vs r
promised_declared p = record { head = p.head_declared; body = λ i h. (p.body.terms i h).declared }

-- past the last term stands variable 0, which is declared where any is
every_declared : {vs : List Variable} {r : Rule} → Declared vs r → (i : ℕ) → body_variable r i < length vs
every_declared {vs} {r} d i = go (ltb i (length r.terms)) refl
  where
    go : (t : Bool) → ltb i (length r.terms) ≡ t → body_variable r i < length vs
    go true e = d.body i (ltb-true i (length r.terms) e)
    go false e =
        let h = ltb-false i (length r.terms) e in
        omega (arith, ap (λ (t : Term). t.variable) (get_or-eq_default r.terms no_term {n = i} h), d.head)

module _ (vs more : List Variable) where
  pub same_variable : (x : ℕ) → x < length vs → variable_in (vs ++ more) x ≡ variable_in vs x
  same_variable x h = get_or-append vs more no_variable x h

  module _ {r : Rule} (d : Declared vs r) where
    same_body : (i : ℕ) → variable_in (vs ++ more) (body_variable r i) ≡ variable_in vs (body_variable r i)
    same_body i = same_variable (body_variable r i) (every_declared d i)

    pub same_direction : (i : ℕ) → direction (vs ++ more) r i ≡ direction vs r i
    unfolding direction
    same_direction i = rw (same_variable r.head d.head, same_body i)

    pub same_kept : (i : ℕ) → kept (vs ++ more) r i ≡ kept vs r i
    unfolding kept
    same_kept i = rw (same_direction i, same_body i)

    pub same_test : is_idle (vs ++ more) r ≡ is_idle vs r
    unfolding is_idle most most_at
    same_test =
        let e : most_at (vs ++ more) r (lows (vs ++ more)) (highs (vs ++ more)) ≡ most_at vs r (lows vs) (highs vs) = λ j i. reads i j in
        rw (e, same_variable r.head d.head)
      where
        reads : (i : ℕ) → most_at (vs ++ more) r (lows (vs ++ more)) (highs (vs ++ more)) i ≡ most_at vs r (lows vs) (highs vs) i
        reads i = λ j. demanding (same_variable r.head d.head j) (same_direction i j) (same_body i j).low (same_body i j).high

-- of two programs that agree on the variables of a rule, an idle rule of one is idle in the other
idle_as : (P Q : Program) (r : Rule) → variable_in Q.variables r.head ≡ variable_in P.variables r.head
    → ((i : ℕ) → i < length r.terms → variable_in Q.variables (body_variable r i) ≡ variable_in P.variables (body_variable r i)) → Idle P r → Idle Q r
idle_as P Q r h b idle a inside =
    subst (λ (x : Variable). T (no_more x (evaluate r (λ i. a (body_variable r i))) (start x))) (sym h)
    (idle a (λ i l. subst (λ (x : Variable). T (in_range x (a (body_variable r i)))) (b i l) (inside i l)))

module _ (P Q : Program) (more : List Variable) (e : Q.variables ≡ P.variables ++ more) {r : Rule} (d : Declared P.variables r) where
  same_in : (x : ℕ) → x < length P.variables → variable_in Q.variables x ≡ variable_in P.variables x
  same_in x h = ap (λ (vs : List Variable). variable_in vs x) e ∙ same_variable P.variables more x h

  pub same_idle : Idle Q r ↔ Idle P r
  same_idle = (
    idle_as Q P r (sym (same_in r.head d.head)) (λ i h. sym (same_in (body_variable r i) (d.body i h))),
    idle_as P Q r (same_in r.head d.head) (λ i h. same_in (body_variable r i) (d.body i h)),
  )

-- ---- what meets no refusal meets none where more variables follow

module _ (vs more : List Variable) where
  abbrev ws : List Variable
  ws = vs ++ more

  still_declared : (x : ℕ) → x < length vs → leb (length ws) x ≡ false
  still_declared x h = lt-leb (length ws) x (omega (arith, length-append vs more))

  terms_declared : (ts : List Term) → ((i : ℕ) → i < length ts → (term_in ts i).variable < length vs) → any_term ts (λ i t. undeclared_term ws t) ≡ false
  unfolding undeclared_term
  terms_declared ts d = below_none (length ts) _ (λ i h. still_declared (term_in ts i).variable (d i h))

  pub more_rule : (r : Rule) → item_refusal vs (rule r) ≡ 0 → item_refusal ws (rule r) ≡ 0
  unfolding undeclared wrong_head negative_product negative_term
  more_rule r e =
      let f = item_fine vs (rule r) e in
      let p = rule_promised vs r e in
      let d = promised_declared p in
      let founded : is_founded (variable_in ws r.head) ≡ true = ap is_founded (same_variable vs more r.head d.head) ∙ p.head_founded in
      fine_item (record {
        formed = f.formed;
        ranged = f.ranged;
        declared = rw (still_declared r.head d.head, founded) (terms_declared r.terms d.body);
        counted = f.counted;
        once = f.once;
        product = any_same (length r.terms) _ _ (λ i h. ap (λ (x : Variable). eqb (term_form r.form) 4 && lt_z x.low (pos 0))
            (same_variable vs more (body_variable r i) (d.body i h)))
            ∙ f.product;
      })

  pub more_constraint : (k : Constraint) → item_refusal vs (constraint k) ≡ 0 → item_refusal ws (constraint k) ≡ 0
  unfolding undeclared negative_product
  more_constraint k e =
      let f = item_fine vs (constraint k) e in
      let p = constraint_promised vs k e in
      fine_item (record {
        formed = f.formed;
        ranged = f.ranged;
        declared = terms_declared k.terms (λ i h. (p.body.terms i h).declared);
        counted = f.counted;
        once = f.once;
        product = refl;
      })
