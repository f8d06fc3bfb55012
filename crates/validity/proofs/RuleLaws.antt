-- The rules of a file whose fields passed, one after the other.
use Prim.Native.Nat.{ℕ, ◌+◌, ◌*◌, ◌<◌, ◌≤◌}
use mathlib.Core.Path.{◌≡◌, refl, sym, ap, ◌∙◌}
use mathlib.Core.List.{List}
use mathlib.Core.Bool.{Bool, true, false, not, ◌||◌, ◌&&◌, or-false, or_comm}
use native.Mathlib.Omega.{arith}
use lib.Dec.{eqb}
use lib.ListN.{length}
use borrow.Author.Tests.{eqb-true, eqb-false}
use Rattle.format.specs.Limits.{max_variables}
use Rattle.program.specs.Tables.{any_below}
use Rattle.program.specs.Fields.{value_at, next_at, place}
use Rattle.program.specs.Program.{Rule, rule_of, term_form, term_in, variable_in, rule_in, program, variables_at}
use Rattle.program.specs.Idle.{is_idle}
use Rattle.program.specs.Readings.{body_variable}
use Rattle.program.specs.Reading.{Passed}
use Rattle.program.specs.declared.Counts.{Counts}
use Rattle.program.specs.declared.Variable.{Variable}
use Rattle.program.proofs.Conditions.{last_or, both, none_below, below_none, some_below, below_some}
use Rattle.program.proofs.Forms.{read_as_sum, read_as_itself}
use Rattle.program.proofs.IdleRules.{only_sizes_mixed}
use Rattle.program.proofs.Places.{RuleStands, Fine, variables_to, variables_length, variables_stand, rule_at_is, rule_header_is, passed_fine, place_next, counts}
use Rattle.program.proofs.Promises.{VariablePromise, RulePromise, passed_variable, passed_rule}
use Rattle.program.proofs.Gives.{promised_evaluable}
use Rattle.fields.specs.Scanning.{Counted}
use Rattle.edges.specs.Edges.{Grown, any_mixed, draws_in, offends_at, offends_in}
use Rattle.idleness.specs.Most.{Ready}
use Rattle.validity.specs.Marks.{draws_by, offends_by, acts_mixed, acts_on, OnlySizes, rule_at, mixed_rule, acting_variable, edge_in}
use Rattle.edges.proofs.PositionLaws.{grown_done}
use Rattle.parts.specs.Values.{Standing}
use Rattle.sharing.specs.Sharing.{share_in}

-- the value of a rule's field, and the place after it
pub field_rule : (s : List ℕ) (n i : ℕ) {at : ℕ} {v : List ℕ} → at ≡ place s (n + i) → v ≡ value_at s at → rule_of v ≡ rule_at s n i
field_rule s n i e x = ap rule_of (x ∙ ap (value_at s) e)

pub next_rule : (s : List ℕ) (n i : ℕ) {at next : ℕ} → at ≡ place s (n + i) → next ≡ next_at s at → next ≡ place s (n + (i + 1))
next_rule s n i e x =
    let q : n + (i + 1) ≡ n + i + 1 = omega arith in
    rw (q, place_next) (x ∙ ap (next_at s) e)

-- ---- all rules

-- one more that has not the property
pub none_more : (p : ℕ → Bool) (i : ℕ) → ((j : ℕ) → j < i → p j ≡ false) → p i ≡ false → (j : ℕ) → j < i + 1 → p j ≡ false
none_more p i h e j l = last_or (λ x. p x ≡ false) i j (omega arith) (h j) e

module _ (s : List ℕ) (k : Counts) where
  abbrev mixed : ℕ → Bool
  mixed j = any_mixed (variables_at s k.variables) (rule_at s k.variables j)

  pub some_mixed : (i : ℕ) → i < k.rules → mixed i ≡ true → true ≡ mixed_rule s k
  unfolding mixed_rule
  some_mixed i l h = sym (below_some k.rules mixed i l h)

  pub none_mixed_in : (i : ℕ) → i ≡ k.rules → ((j : ℕ) → j < i → mixed j ≡ false) → false ≡ mixed_rule s k
  unfolding mixed_rule
  none_mixed_in i e h = sym (below_none k.rules mixed (λ j l. h j (omega arith)))

  pub acting_all : {i : ℕ} {p : ℕ → Bool} → i ≡ k.rules
      → ((v : ℕ) → p v ≡ any_below i (λ j. acts_on (variables_at s k.variables) (rule_at s k.variables j) v)) → (v : ℕ) → p v ≡ acting_variable s k v
  unfolding acting_variable
  acting_all e h v = h v ∙ ap (λ (n : ℕ). any_below n (λ j. acts_on (variables_at s k.variables) (rule_at s k.variables j) v)) e

  pub edges_all : {i : ℕ} {t t' : ℕ → ℕ → Bool} → i ≡ k.rules
      → Grown t t' (λ a b. any_below i (λ j. draws_by (variables_at s k.variables) (rule_at s k.variables j) a b)) → Grown t t' (edge_in s k)
  unfolding edge_in
  edges_all e g = grown_done (λ j. draws_by (variables_at s k.variables) (rule_at s k.variables j)) e g

-- ---- a file whose fields passed

module _ {s : List ℕ} {k : Counts} (c : Counted s k) where
  passed : Passed s c.fields
  passed = c.whole.passed

  pub counted_variables : variables_to s c.fields ≡ k.variables
  counted_variables = ap length c.describes.variables_are ∙ variables_length s k.variables

  pub variables_few : k.variables ≤ max_variables
  variables_few = rw counted_variables at (counts passed).few_variables

  pub variables_inside : 8 * k.variables ≤ length s
  variables_inside = rw counted_variables at (variables_stand c.fields passed).inside

  -- the rules stand after the variables
  pub first_rule : 8 * k.variables ≡ place s (k.variables + 0)
  first_rule =
      let z : k.variables + 0 ≡ k.variables = omega arith in
      rw z (sym (rw counted_variables at ((variables_stand c.fields passed).placed (variables_to s c.fields) (omega arith))))

  variable_promise : (x : ℕ) → x < k.variables → VariablePromise (variable_in (variables_at s k.variables) x)
  variable_promise x l = rw c.describes.variables_are at (passed_variable passed x (rw counted_variables l))

  module _ (i : ℕ) (h : i < k.rules) where
    pub rule_stands : RuleStands s c.fields (k.variables + i) i
    rule_stands = rw counted_variables at (rule_at_is {i = i} passed (rw c.describes.rules_are h))

    rule_fine : Fine s (k.variables + i)
    rule_fine = passed_fine passed (k.variables + i) rule_stands.before

    pub rule_is : rule_in (program s c.fields).rules i ≡ rule_at s k.variables i
    rule_is = rule_stands.is

    pub rule_promise : RulePromise (variables_at s k.variables) (rule_at s k.variables i)
    rule_promise = rw (c.describes.variables_are, rule_is) at (passed_rule passed i rule_stands.among)

    pub standing : Standing s k.variables (value_at s (place s (k.variables + i)))
    standing =
        let n = variables_length s k.variables in
        record {
          inside = variables_inside;
          few = variables_few;
          headed = omega (arith, rule_fine.length_is, rule_header_is rule_fine rule_stands.field.tagged);
          head = rw n at rule_promise.head_declared;
          declared = λ j m. rw n at (rule_promise.body.terms j m).declared;
        }

    pub ready : Ready s k.variables (value_at s (place s (k.variables + i)))
    ready = record {
      standing = standing;
      evaluable = promised_evaluable rule_promise;
      distinct = rule_promise.body.distinct;
      low_small = λ x l. (variable_promise x l).low_small;
      high_small = λ x l. (variable_promise x l).high_small;
    }

    -- only sizes have mixed positions
    pub rule_sizes : OnlySizes (variables_at s k.variables) (rule_at s k.variables i)
    unfolding any_mixed
    rule_sizes f = below_none _ _ (only_sizes_mixed rule_promise (λ q. as_form (eqb form 8) refl q))
      where
        form : ℕ
        form = (rule_at s k.variables i).form

        as_form : (t : Bool) → eqb form 8 ≡ t → term_form form ≡ 5 → ⊥
        as_form true e q = let one = read_as_sum form (eqb-true form 8 e) in omega arith
        as_form false e q = f (read_as_itself form (eqb-false form 8 e) ∙ q)

    -- at its place
    module _ {at : ℕ} (e : at ≡ place s (k.variables + i)) where
      pub rule_inside : next_at s at ≤ length s
      rule_inside = rw e rule_fine.whole

      pub standing_at : {v : List ℕ} → v ≡ value_at s at → Standing s k.variables v
      standing_at x = rw (x, e) standing

      pub sizes_at : {v : List ℕ} → v ≡ value_at s at → OnlySizes (variables_at s k.variables) (rule_of v)
      sizes_at x = rw (x, e) rule_sizes

      pub ready_at : {v : List ℕ} → v ≡ value_at s at → Ready s k.variables v
      ready_at x = rw (x, e) ready

-- ---- a rule, by the tests of the code

module _ (vs : List Variable) (r : Rule) where
  -- an idle one draws nothing, another what its positions draw
  pub idle_draws : (t : ℕ → ℕ → Bool) {f : Bool} → f ≡ is_idle vs r → f ≡ true → Grown t t (draws_by vs r)
  idle_draws t e h = record { is = λ a b ha hb. rw (sym e ∙ h) (sym (or-false (t a b))) }

  pub acting_draws : {t t' : ℕ → ℕ → Bool} {f : Bool} → f ≡ is_idle vs r → f ≡ false → Grown t t' (draws_in vs r) → Grown t t' (draws_by vs r)
  acting_draws e h g = record { is = λ a b ha hb. rw (sym e ∙ h) (g.is a b ha hb) }

  -- a rule without a mixed position does not offend
  pub unmixed_offends : (t : ℕ → ℕ → Bool) → any_mixed vs r ≡ false → false ≡ offends_by t vs r
  unfolding any_mixed offends_in offends_at
  unmixed_offends t h = rw (below_none _ _ (λ i l. ap (λ (b : Bool). b && share_in t r.head (term_in r.terms i).variable) (none_below _ _ h i l)))

  -- nor does it act in spite of one
  pub unmixed_acts : {f : Bool} → f ≡ any_mixed vs r → f ≡ false → false ≡ acts_mixed vs r
  unmixed_acts e h = rw (sym e ∙ h)

  pub mixed_acts : {f i : Bool} → f ≡ any_mixed vs r → f ≡ true → i ≡ is_idle vs r → not i ≡ acts_mixed vs r
  mixed_acts e h q = rw (sym e ∙ h, q)

  -- the set of the variables of mixed positions: as it was where the rule does not act, and with one more where it does
  pub none_acts : (b : Bool) {f : Bool} → f ≡ acts_mixed vs r → f ≡ false → (v : ℕ) → b ≡ (b || acts_on vs r v)
  none_acts b e h v = rw (sym e ∙ h) (sym (or-false b))

  pub one_acts : (b : Bool) {f b' : Bool} {x : ℕ} → f ≡ acts_mixed vs r → f ≡ true → x ≡ body_variable r 0 → (v : ℕ) → b' ≡ (eqb v x || b)
      → b' ≡ (b || acts_on vs r v)
  one_acts b {x = x} e h q v p = p ∙ or_comm (eqb v x) b ∙ rw (sym e ∙ h, q)

  -- a rule that acts has a position
  pub acts_inside : {f : Bool} → f ≡ acts_mixed vs r → f ≡ true → 0 < length r.terms
  unfolding any_mixed
  acts_inside e h = let i = some_below (length r.terms) _ (both _ _ (sym e ∙ h)).0 in omega (arith, i.1)

  module _ (t : ℕ → ℕ → Bool) {f : Bool} (e : f ≡ offends_in t vs r) where
    pub none_offends : f ≡ false → false ≡ offends_by t vs r
    none_offends h = rw (sym e ∙ h)

    pub some_offends : {i : Bool} → f ≡ true → i ≡ is_idle vs r → not i ≡ offends_by t vs r
    some_offends h q = rw (sym e ∙ h, q)
