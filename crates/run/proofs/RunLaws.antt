-- What a rule of the file gives, and what it demands: the field at its place is the program's rule.
use Rattle.std.specs.Prelude.{Option, Some, None}
use Prim.Native.Nat.{ℕ, ◌+◌, ◌*◌, ◌<◌, ◌≤◌}
use mathlib.Core.Path.{◌≡◌, refl, sym, ap, ◌∙◌, subst}
use mathlib.Core.Logic.{◌⊎◌, inl, inr}
use mathlib.Core.Bool.{Bool, true, false, not, cond, ◌&&◌}
use mathlib.Core.List.{List}
use native.Mathlib.Omega.{arith}
use lib.Dec.{eqb}
use lib.IntN.{ℤ}
use lib.ListN.{length, get_or}
use borrow.Author.Tests.{not-true, not-false, eq-eqb}
use Rattle.words.specs.Bit.{bit}
use Rattle.program.specs.Fields.{value_at, next_at}
use Rattle.program.specs.Program.{Program, Rule, rule_of, rule_in, variable_in, variables_at}
use Rattle.program.specs.Variables.{not_past, cut_off}
use Rattle.program.specs.Evaluate.{evaluate}
use Rattle.program.specs.Evaluable.{Evaluable}
use Rattle.program.specs.Readings.{Valuation, body_variable, reading, gives, valued}
use Rattle.program.specs.declared.Variable.{Variable}
use Rattle.program.proofs.Conditions.{never, none_below}
use Rattle.program.proofs.Gives.{evaluate_same}
use Rattle.program.proofs.Tests.{cases}
use Rattle.parts.specs.Values.{rule_header}
use Rattle.bodies.specs.Readings.{reading_of}
use Rattle.reader.specs.Parts.{RuleLies}
use Rattle.reader.proofs.Published.{rule_lies, variable_lies, variable_at_is}
use Rattle.meaning.specs.Reduct.{Reckoning}
use Rattle.meaning.proofs.Narrowing.{narrows_past}
use Rattle.meaning.proofs.Steps.{Raised}
use Rattle.tables.specs.Tabled.{MaskOf, read_at}
use Rattle.tables.specs.Laid.{RuleAt}
use Rattle.run.specs.Running.{head_of, RuleStands, SomeRule, free_bit, stopped, found_by, demand_of, LookedAt, Demanded, AsAssigned, Reckons}

-- ---- what it gives

-- positions read by a mask are read as the reduct says
pub given_as : (P : Program) (r : Rule) (mask : ℕ) (m θ : List ℤ) → Evaluable r → MaskOf P r mask
    → evaluate r (reading_of mask m θ r.terms) ≡ gives P.variables r (valued m) (valued θ)
unfolding gives reading_of
given_as P r mask m θ e k =
    evaluate_same r (reading_of mask m θ r.terms) (reading P.variables r (valued m) (valued θ))
    (λ j l. ap (λ (b : Bool). cond b (valued m (body_variable r j)) (valued θ (body_variable r j))) (k j l)) e

-- a rule in the tables of the reduct stands at its place
pub at_stands : {s : List ℕ} {P : Program} {i at mask : ℕ} → RuleAt s P i at mask → RuleStands s P i at
at_stands h = record { accepts = h.accepts; among = h.among; placed = h.placed }

-- at a place that is the same
pub stands_at : {s : List ℕ} {P : Program} {i at at' : ℕ} → at ≡ at' → RuleStands s P i at' → RuleStands s P i at
stands_at e h = rw e h

pub some_at : {s : List ℕ} {at at' : ℕ} → at ≡ at' → SomeRule s at' → SomeRule s at
some_at e h = rw e h

module _ {s : List ℕ} {P : Program} {i at : ℕ} (h : RuleStands s P i at) where
  pub lies : RuleLies s P i at
  lies = rw h.placed (rule_lies h.accepts i h.among)

  -- the requirements of evaluation, for the value of its field
  module _ {v : List ℕ} (q : v ≡ value_at s at) where
    pub here_evaluable : Evaluable (rule_of v)
    here_evaluable = rw q lies.evaluable

    pub here_headed : rule_header ≤ length v
    here_headed = rw q lies.standing.headed

    pub here_as : (mask : ℕ) (m θ : List ℤ) {g : Option ℤ} → g ≡ evaluate (rule_of v) (reading_of mask m θ (rule_of v).terms)
        → g ≡ evaluate (rule_in P.rules i) (reading_of mask m θ (rule_in P.rules i).terms)
    here_as mask m θ e = e ∙ ap (λ (r : Rule). evaluate r (reading_of mask m θ r.terms)) (ap rule_of q ∙ sym lies.is)

  -- its head, and that head's variable
  pub head_lies : (next_at s at ≤ length s) × (rule_header ≤ length (value_at s at))
  head_lies = (lies.inside, lies.standing.headed)

  pub here_head : {x : ℕ} → x ≡ (rule_of (value_at s at)).head → x ≡ head_of P i
  here_head e = e ∙ ap (λ (r : Rule). r.head) (sym lies.is)

  here_declared : head_of P i < length P.variables
  here_declared = subst (λ (r : Rule). r.head < length P.variables) (sym lies.is) lies.standing.head

  module _ {x : ℕ} (e : x ≡ (rule_of (value_at s at)).head) where
    pub head_field : 8 * x + 8 ≤ length s
    head_field = omega (arith, ap (λ (n : ℕ). 8 * n) e, lies.standing.head, lies.standing.inside)

    pub head_variable : {y : Variable} → ((n : ℕ) → x < n → y ≡ variable_in (variables_at s n) x) → y ≡ variable_in P.variables (head_of P i)
    head_variable f =
        let n = length P.variables in
        f n (rw (here_head e) here_declared) ∙ ap (variable_in (variables_at s n)) (here_head e) ∙ variable_at_is s n (head_of P i) here_declared
        ∙ sym (variable_lies h.accepts (head_of P i) here_declared)

-- ---- what it demands

-- it goes by the head's order
same_demand : (x y : Variable) (g : Option ℤ) (z : ℤ) → ((a b : ℤ) → not_past x a b ≡ not_past y a b) → demand_of x g z ≡ demand_of y g z
unfolding demand_of
same_demand x y None z e = refl
same_demand x y (Some a) z e = ap (λ (t : Bool). cond t None (Some a)) (e a z)

demanded_by : (P : Program) (R : Reckoning) (θ m : Valuation) (i : ℕ) (g : Option ℤ) → R.gives i m θ ≡ g
    → Demanded P R θ m i (demand_of (R.variable (head_of P i)) g (m (head_of P i)))
unfolding demand_of
demanded_by P R θ m i None e = rw e tt
demanded_by P R θ m i (Some a) e = cases (not_past (R.variable (head_of P i)) a (m (head_of P i))) (λ b. Demanded P R θ m i (cond b None (Some a)))
    (λ t. rw e t) (λ t. record { gives_it = e; more = record { lt = t } })

-- what was looked at, where what is found is what is given
pub looked_demanded : (P : Program) (R : Reckoning) (θ : Valuation) (mask : ℕ) (cut : Bool) (stops others m : List ℤ) (i : ℕ) {d : Option ℤ}
    → ((a b : ℤ) → not_past (R.variable (head_of P i)) a b ≡ not_past (variable_in P.variables (head_of P i)) a b) → R.gives i (valued m) θ ≡ found_by P mask cut stops others m i
    → LookedAt P mask cut stops others m i d → Demanded P R θ (valued m) i d
looked_demanded P R θ mask cut stops others m i {d} k f q =
    subst (Demanded P R θ (valued m) i)
    (sym (q ∙ sym (same_demand (R.variable (head_of P i)) (variable_in P.variables (head_of P i)) (found_by P mask cut stops others m i) (valued m (head_of P i)) k)))
    (demanded_by P R θ (valued m) i (found_by P mask cut stops others m i) f)

-- what the code found, of the code's variable x, value z and stop b
pub looked : (P : Program) (mask : ℕ) (cut : Bool) (stops others m : List ℤ) (i : ℕ) {x : Variable} {f g : Option ℤ} {z b : ℤ} {d : Option ℤ} → d ≡ demand_of x g z
    → g ≡ stopped cut x b mask f → x ≡ variable_in P.variables (head_of P i) → f ≡ evaluate (rule_in P.rules i) (reading_of mask m others (rule_in P.rules i).terms)
    → z ≡ valued m (head_of P i) → b ≡ valued stops (head_of P i) → LookedAt P mask cut stops others m i d
looked P mask cut stops others m i p q o f z b = cc

-- positions of a rule that does not read x in the model
same_read : (r : Rule) (mask : ℕ) (m m⁺ others : List ℤ) (x : ℕ) (b : ℤ) → Raised (valued m) (valued m⁺) x b → read_at r mask x ≡ false → (j : ℕ) → j < length r.terms
    → reading_of mask m⁺ others r.terms j ≡ reading_of mask m others r.terms j
unfolding reading_of read_at
same_read r mask m m⁺ others x b is e j l = go (bit mask j) (none_below (length r.terms) (λ n. bit mask n && eqb (body_variable r n) x) e j l) (is (body_variable r j))
  where
    v : ℕ
    v = body_variable r j

    go : (t : Bool) → (t && eqb v x) ≡ false → (valued m⁺ v ≡ valued m v) ⊎ ((x ≡ v) × (valued m⁺ v ≡ b)) → cond t (valued m⁺ v) (valued others v) ≡ cond t (valued m v) (valued others v)
    go true f (inl q) = q
    go true f (inr q) = absurd (never (eq-eqb v x (sym q.0)) f)
    go false f q = refl

module _ {s : List ℕ} {P : Program} {R : Reckoning} {θ : Valuation} {offsets masks : List ℕ} {others stops : List ℤ} {cut : Bool}
    (k : Reckons s P R θ offsets masks others stops cut) where
  pub reckons_demanded : (m : List ℤ) → AsAssigned P θ m → (i : ℕ) → i < length P.rules → {d : Option ℤ} → LookedAt P (get_or masks i 0) cut stops others m i d
      → Demanded P R θ (valued m) i d
  reckons_demanded m a i l = looked_demanded P R θ (get_or masks i 0) cut stops others m i (narrows_past k.narrows (head_of P i)) (k.finds i l m a)

  -- a rule that does not read x in the model gives what it gave, where x alone has changed
  pub reckons_unread : (m m⁺ : List ℤ) → AsAssigned P θ m → AsAssigned P θ m⁺ → (x : ℕ) (b : ℤ) → Raised (valued m) (valued m⁺) x b → (i : ℕ) → i < length P.rules
      → read_at (rule_in P.rules i) (get_or masks i 0) x ≡ false → R.gives i (valued m⁺) θ ≡ R.gives i (valued m) θ
  reckons_unread m m⁺ a a⁺ x b is i l e =
      let r = rule_in P.rules i in
      let mask = get_or masks i 0 in
      k.finds i l m⁺ a⁺
      ∙ ap (stopped cut (variable_in P.variables r.head) (valued stops r.head) mask)
      (evaluate_same r (reading_of mask m⁺ others r.terms) (reading_of mask m others r.terms) (same_read r mask m m⁺ others x b is e)
      (rw (lies (k.stands i l)).is (lies (k.stands i l)).evaluable))
      ∙ sym (k.finds i l m a)

-- ---- no stops

pub unstopped : (x : Variable) (b : ℤ) (mask : ℕ) (g : Option ℤ) → stopped false x b mask g ≡ g
unfolding stopped
unstopped x b mask g = refl

-- in the reduct
module _ {s : List ℕ} {P : Program} {i at mask : ℕ} (h : RuleAt s P i at mask) (stops m θ : List ℤ) where
  pub found_reduct : gives P.variables (rule_in P.rules i) (valued m) (valued θ) ≡ found_by P mask false stops θ m i
  found_reduct =
      sym (unstopped (variable_in P.variables (head_of P i)) (valued stops (head_of P i)) mask (evaluate (rule_in P.rules i) (reading_of mask m θ (rule_in P.rules i).terms))
      ∙ given_as P (rule_in P.rules i) mask m θ (rw (lies (at_stands h)).is (lies (at_stands h)).evaluable) h.masked)

-- ---- the ways of the tests

module _ (x : Variable) {g : Option ℤ} (z : ℤ) where
  pub nothing_given : g ≡ None → None ≡ demand_of x g z
  unfolding demand_of
  nothing_given e = rw e

  pub value_more : (a : ℤ) {t : Bool} → g ≡ Some a → t ≡ not (not_past x a z) → t ≡ true → Some a ≡ demand_of x g z
  unfolding demand_of
  value_more a e q h = rw (e, not-true (not_past x a z) (sym q ∙ h))

  pub value_enough : (a : ℤ) {t : Bool} → g ≡ Some a → t ≡ not (not_past x a z) → t ≡ false → None ≡ demand_of x g z
  unfolding demand_of
  value_enough a e q h = rw (e, not-false (not_past x a z) (sym q ∙ h))

  -- cut off at z
  pub nothing_cut : g ≡ None → None ≡ cut_off x z g
  unfolding cut_off
  nothing_cut e = rw e

  pub value_past : (a : ℤ) {t : Bool} → g ≡ Some a → t ≡ not (not_past x a z) → t ≡ true → Some z ≡ cut_off x z g
  unfolding cut_off
  value_past a e q h = rw (e, not-true (not_past x a z) (sym q ∙ h))

  pub value_stays : (a : ℤ) {t : Bool} → g ≡ Some a → t ≡ not (not_past x a z) → t ≡ false → Some a ≡ cut_off x z g
  unfolding cut_off
  value_stays a e q h = rw (e, not-false (not_past x a z) (sym q ∙ h))

-- stopped at z, where lifts stop
module _ (x : Variable) (g : Option ℤ) (z : ℤ) (mask : ℕ) where
  pub never_stops : {cut : Bool} → cut ≡ false → g ≡ stopped cut x z mask g
  unfolding stopped
  never_stops e = rw e

  pub stops_free : {cut : Bool} → cut ≡ true → bit mask free_bit ≡ true → Some z ≡ stopped cut x z mask g
  unfolding stopped
  stops_free e f = rw (e, f)

  pub stops_cut : {cut : Bool} {r : Option ℤ} → cut ≡ true → bit mask free_bit ≡ false → r ≡ cut_off x z g → r ≡ stopped cut x z mask g
  unfolding stopped
  stops_cut e f q = rw (e, f) q
