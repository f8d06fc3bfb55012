-- The values of fields, case by case.
use Prim.Native.Nat.{ℕ, suc, ◌+◌, ◌*◌, ◌-◌, ◌/◌, ◌%◌, ◌<◌, ◌≤◌}
use mathlib.Core.Path.{◌≡◌, refl, sym, ap, ap₂, ◌∙◌}
use mathlib.Core.List.{List, [], ◌∷◌}
use mathlib.Core.Bool.{Bool, true, false, not, cond, ◌||◌}
use lib.Dec.{eqb, ltb, leb}
use lib.IntN.{ℤ, nat_abs}
use lib.ListN.{length, get_or, drop, length-take}
use lib.Signed.{lt_z}
use native.Mathlib.Omega.{arith}
use borrow.Author.Tests.{eq-eqb, ne_eqb, eqb-true, lt-ltb, le-ltb, le-leb, lt-leb, ltb-false, leb-true}
use Rattle.format.specs.Limits.{max_number, max_terms}
use Rattle.format.specs.Numbers.{beyond}
use Rattle.program.specs.Tables.{◌when◌, first_of, any_below}
use Rattle.program.specs.Program.{variable, rule, constraint, divisor_terms, variable_of, rule_divisor}
use Rattle.program.specs.Program.{rule_body, rule_of, constraint_body, constraint_of, terms_of, term_in, variable_in, variables_at}
use Rattle.program.specs.Refusals.{any_term, wrong_divisor, outside_divisor, wrong_divisors, wrong_length, not_terms, wrong_form, outside_range, undeclared, wrong_count}
use Rattle.program.specs.Refusals.{variable_twice, negative_product, item_refusal, unknown_form, wrong_head, wrong_count_of, wrong_constraint, body_form}
use Rattle.program.specs.Refusals.{negative_term, not_from}
use Rattle.program.proofs.Bodies.{terms_length}
use Rattle.program.proofs.Forms.{divisor_own, divisor_none, divisor_few, no_divisor, read_as_sum, read_as_itself}
use Rattle.program.proofs.Conditions.{below_none, none_below, never}
use Rattle.program.proofs.Places.{variables_length, sized_terms}
use Rattle.parts.specs.Values.{Handed}
use Rattle.faults.specs.Faults.{FaultsBelow, faults_number}
use Rattle.values.specs.Lengths.{length_refusal, in_order}
use Rattle.faults.specs.declared.Faults.{Faults}
use Rattle.faultless.specs.Faultless.{Faultless}
use Rattle.faults.proofs.TermLaws.{negative_other}
use Rattle.program.specs.Variables.{is_founded}
use Rattle.program.specs.declared.Variable.{Variable}
use Rattle.program.specs.declared.Term.{Term}

-- ---- variables

pub range_outside : (x : Variable) (a b d : Bool) → a ≡ beyond max_number x.low → b ≡ beyond max_number x.high → d ≡ lt_z x.high x.low
    → ((a || b) || d) ≡ outside_range (variable x)
unfolding outside_range
range_outside x a b d e f g = rw (e, f, g)

module _ (v : List ℕ) where
  module _ (vs : List Variable) where
    pub variable_length : (length v ≡ 5 → ⊥) → 6 ≡ length_refusal vs 1 v
    unfolding length_refusal wrong_length
    variable_length h = simp (ne_eqb (length v) 5 h)

    pub variable_kind : length v ≡ 5 → 2 < get_or v 0 0 → 7 ≡ length_refusal vs 1 v
    unfolding length_refusal wrong_length item_refusal wrong_form
    variable_kind h k = simp (eq-eqb (length v) 5 h, lt-ltb 2 (get_or v 0 0) k)

    module _ (h : length v ≡ 5) (k : get_or v 0 0 ≤ 2) where
      pub variable_range : outside_range (variable (variable_of v)) ≡ true → 8 ≡ length_refusal vs 1 v
      unfolding length_refusal wrong_length item_refusal wrong_form
      variable_range e = simp (eq-eqb (length v) 5 h, le-ltb 2 (get_or v 0 0) k, e)

      pub variable_fine : outside_range (variable (variable_of v)) ≡ false → 0 ≡ length_refusal vs 1 v
      unfolding length_refusal wrong_length item_refusal wrong_form undeclared wrong_count variable_twice negative_product
      variable_fine e = simp (eq-eqb (length v) 5 h, le-ltb 2 (get_or v 0 0) k, e)

-- the variable that was read is that of the value
pub kind_of_lem : {x y : Variable} → x ≡ y → x.kind ≡ y.kind
kind_of_lem e = ap (λ (x : Variable). x.kind) e

pub range_of : {x y : Variable} {b : Bool} → x ≡ y → outside_range (variable x) ≡ b → outside_range (variable y) ≡ b
range_of e h = rw e at h

-- ---- lengths

module _ (header most len : ℕ) where
  abbrev is_terms : ℕ → Bool
  is_terms n = eqb len (header + 4 * n)

  none_right : ((n : ℕ) → n < most + 1 → len ≡ header + 4 * n → ⊥) → true ≡ not_terms header most len
  unfolding not_terms
  none_right h = sym (ap not (below_none (most + 1) is_terms (λ n k. ne_eqb len (header + 4 * n) (h n k))))

  pub terms_short : len < header → true ≡ not_terms header most len
  terms_short h = none_right (λ n k e. omega arith)

  pub terms_uneven : header ≤ len → ((len - header) % 4 ≡ 0 → ⊥) → true ≡ not_terms header most len
  terms_uneven h u = none_right (λ n k e. u (omega arith))

  pub terms_even : header ≤ len → (len - header) % 4 ≡ 0 → ltb most ((len - header) / 4) ≡ not_terms header most len
  unfolding not_terms
  terms_even h u = go (ltb most ((len - header) / 4)) refl
    where
      at_least_one : (b : Bool) → any_below (most + 1) is_terms ≡ b → (len - header) / 4 < most + 1 → false ≡ not b
      at_least_one true e k = refl
      at_least_one false e k =
          absurd (never (eq-eqb len (header + 4 * ((len - header) / 4)) (omega arith)) (none_below (most + 1) is_terms e ((len - header) / 4) k))

      go : (t : Bool) → ltb most ((len - header) / 4) ≡ t → t ≡ not_terms header most len
      go true e = none_right (λ n k q. let m = lt_of e in omega arith)
        where
          lt_of : ltb most ((len - header) / 4) ≡ true → most < (len - header) / 4
          lt_of e = leb-true (suc most) ((len - header) / 4) e
      go false e = at_least_one (any_below (most + 1) is_terms) refl (let m = ltb-false most ((len - header) / 4) e in omega arith)

  -- a right length has the header
  pub terms_header : not_terms header most len ≡ false → header ≤ len
  terms_header e = let w = sized_terms header most len e in omega arith

-- ---- forms and counts

pub form_known : (form : ℕ) → 1 ≤ form → form ≤ 8 → false ≡ unknown_form form
unfolding unknown_form
form_known form h k = simp (le-leb 1 form h, le-leb form 8 k)

pub form_zero : (form : ℕ) → form ≡ 0 → true ≡ unknown_form form
unfolding unknown_form
form_zero form h = rw h

pub form_above : (form : ℕ) → 8 < form → true ≡ unknown_form form
unfolding unknown_form
form_above form h = simp (le-leb 1 form (omega arith), lt-leb form 8 h)

pub count_in : (least most n : ℕ) → least ≤ n → n ≤ most → false ≡ not_from least most n
count_in least most n h k = simp (le-ltb n least h, le-ltb most n k)

pub count_out : (least most n : ℕ) → (least ≤ n → n ≤ most → ⊥) → true ≡ not_from least most n
count_out least most n h = go (ltb n least) (ltb most n) refl refl
  where
    go : (a b : Bool) → ltb n least ≡ a → ltb most n ≡ b → true ≡ (a || b)
    go true b p q = refl
    go false true p q = refl
    go false false p q = absurd (h (ltb-false n least p) (ltb-false most n q))

pub count_only : (k n : ℕ) → not (eqb n k) ≡ not_from k k n
count_only k n = go (eqb n k) refl
  where
    go : (t : Bool) → eqb n k ≡ t → not t ≡ not_from k k n
    go true e = let h = eqb-true n k e in count_in k k n (omega arith) (omega arith)
    go false e = count_out k k n (λ a b. never (eq-eqb n k (omega arith)) e)

-- a count, by the form
pub count_form : (form k n : ℕ) (b : Bool) → form ≡ k → b ≡ wrong_count_of k n → b ≡ wrong_count_of form n
count_form form k n b h e = rw h e

module _ (n : ℕ) where
  pub count_sum : not_from 0 max_terms n ≡ wrong_count_of 1 n
  unfolding wrong_count_of
  count_sum = refl

  pub count_max : not_from 1 max_terms n ≡ wrong_count_of 2 n
  unfolding wrong_count_of
  count_max = refl

  pub count_min : not_from 1 max_terms n ≡ wrong_count_of 3 n
  unfolding wrong_count_of
  count_min = refl

  pub count_product : not (eqb n 2) ≡ wrong_count_of 4 n
  unfolding wrong_count_of
  count_product = count_only 2 n

  pub count_size : not (eqb n 1) ≡ wrong_count_of 5 n
  unfolding wrong_count_of
  count_size = count_only 1 n

  pub count_if : not_from 1 max_terms n ≡ wrong_count_of 6 n
  unfolding wrong_count_of
  count_if = refl

  pub count_carry : not_from 2 max_terms n ≡ wrong_count_of 7 n
  unfolding wrong_count_of
  count_carry = refl

pub count_unknown : (form n : ℕ) → (form ≡ 1 → ⊥) → (form ≡ 2 → ⊥) → (form ≡ 3 → ⊥) → (form ≡ 4 → ⊥) → (form ≡ 5 → ⊥) → (form ≡ 6 → ⊥) → (form ≡ 7 → ⊥)
    → false ≡ wrong_count_of form n
unfolding wrong_count_of
count_unknown form n a b c d e f g =
    simp (ne_eqb form 1 a, ne_eqb form 2 b, ne_eqb form 3 c, ne_eqb form 4 d, ne_eqb form 5 e, ne_eqb form 6 f, ne_eqb form 7 g)

-- ---- heads

module _ (s : List ℕ) (n head : ℕ) where
  pub head_undeclared : leb n head ≡ true → true ≡ wrong_head (variables_at s n) head
  unfolding wrong_head
  head_undeclared e = simp (variables_length, e)

  pub head_kind : {x : Variable} → leb n head ≡ false → x ≡ variable_in (variables_at s n) head → not (is_founded x) ≡ wrong_head (variables_at s n) head
  unfolding wrong_head
  head_kind e k = simp (variables_length, e, k)

-- ---- constraints

pub body_sum : (form : ℕ) → form ≡ 1 → 1 ≡ body_form form
body_sum form h = rw h

pub body_literals : (form : ℕ) → form ≡ 2 → 6 ≡ body_form form
body_literals form h = rw h

pub body_unknown : (form : ℕ) → (form ≡ 1 → ⊥) → (form ≡ 2 → ⊥) → 0 ≡ body_form form
body_unknown form h k = simp (ne_eqb form 1 h, ne_eqb form 2 k)

pub constraint_sum : (form : ℕ) (c : ℤ) → form ≡ 1 → false ≡ wrong_constraint form c
unfolding wrong_constraint
constraint_sum form c h = rw h

pub constraint_literals : (form : ℕ) (c : ℤ) (b : Bool) → b ≡ eqb (nat_abs c) 0 → form ≡ 2 → not b ≡ wrong_constraint form c
unfolding wrong_constraint
constraint_literals form c b e h = rw (h, e)

pub constraint_unknown : (form : ℕ) (c : ℤ) → (form ≡ 1 → ⊥) → (form ≡ 2 → ⊥) → true ≡ wrong_constraint form c
unfolding wrong_constraint
constraint_unknown form c h k = simp (ne_eqb form 1 h, ne_eqb form 2 k)

-- ---- bodies

first_six : {a a' b b' c c' d d' e e' f f' : Bool} → a ≡ a' → b ≡ b' → c ≡ c' → d ≡ d' → e ≡ e' → f ≡ f'
    → first_of ((7 when a) ∷ (8 when b) ∷ (9 when c) ∷ (10 when d) ∷ (11 when e) ∷ (12 when f) ∷ [])
    ≡ first_of ((7 when a') ∷ (8 when b') ∷ (9 when c') ∷ (10 when d') ∷ (11 when e') ∷ (12 when f') ∷ [])
first_six p q r s t u = λ i. first_of ((7 when p i) ∷ (8 when q i) ∷ (9 when r i) ∷ (10 when s i) ∷ (11 when t i) ∷ (12 when u i) ∷ [])

abbrev joined_is : Faults → Faults → Faults → Type 0
joined_is all own terms =
    (all.form ≡ (own.form || terms.form)) × (all.range ≡ (own.range || terms.range)) × (all.variable ≡ (own.variable || terms.variable))
    × (all.repeated ≡ (own.repeated || terms.repeated)) × (all.negative ≡ (own.negative || terms.negative))

-- what is wrong first, by the faults before the body and those of the body
module _ (vs : List Variable) (form : ℕ) (b : List ℕ) (terms own all : Faults) where
  pub in_order_is : (count wrong : Bool) → FaultsBelow vs form (terms_of b) (length b / 4) terms → joined_is all own terms → wrong ≡ wrong_count_of form (length b / 4)
      → faults_number all (count || wrong) ≡ in_order vs form (terms_of b) own count
  in_order_is count wrong f e k =
      let g = rw (← terms_length b) at f in
      first_six
      (e.0 ∙ ap (λ (t : Bool). own.form || t) g.form_is)
      (e.1 ∙ ap (λ (t : Bool). own.range || t) g.range_is)
      (e.2 ∙ ap (λ (t : Bool). own.variable || t) g.variable_is)
      (ap (λ (t : Bool). count || t) (rw (← terms_length b) at k))
      (e.3 ∙ ap (λ (t : Bool). own.repeated || t) g.repeated_is)
      (e.4 ∙ ap (λ (t : Bool). own.negative || t) g.negative_is)

-- the faults before a body, as conditions
abbrev pub own_of : Bool → Bool → Bool → Faults
own_of a b c = record { form = a; range = b; variable = c; repeated = false; negative = false }

-- nothing is wrong before a body or with it
pub all_sound : {vs : List Variable} {form : ℕ} {ts : List Term} → Faultless vs form ts → 0 ≡ in_order vs form ts (own_of false false false) false
all_sound h = first_six (sym h.forms) (sym h.ranges) (sym h.declared) (sym h.count) (sym h.distinct) (sym h.lows)

or_none : (a : Bool) {b : Bool} → b ≡ false → a ≡ (a || b)
or_none true e = refl
or_none false e = sym e

-- the conditions on the terms of a body, by its bytes and by the form as which they are read
module _ (vs : List Variable) {body b : List ℕ} {form g : ℕ} (y : Handed body b) (e : form ≡ g) where
  -- both sides have the same conditions before the body and on the count
  pub in_order_as : {a a' r r' c c' k k' : Bool} → a ≡ a' → r ≡ r' → c ≡ c' → k ≡ k'
      → in_order vs form (terms_of b) (own_of a r c) k ≡ in_order vs g (terms_of body) (own_of a' r' c') k'
  in_order_as p q t u = λ i. in_order vs (e i) (terms_of (y.is i)) (own_of (p i) (q i) (t i)) (u i)

module _ (vs : List Variable) (v : List ℕ) (n : ℕ) where
  -- of a form other than 8: no divisor stands there, and none is asked for
  module _ (f : (rule_of v).form ≡ 8 → ⊥) where
    none_wrong : (p : ℕ → Term → Bool) → any_term (rule_of v).divisor p ≡ false
    unfolding any_below
    none_wrong p = ap (λ (ts : List Term). any_term ts p) (no_divisor v f)

    none_asked : false ≡ wrong_divisors (rule_of v)
    unfolding wrong_divisors
    none_asked = sym (ap₂ (λ (ts : List Term) (k : ℕ). not (eqb (length ts) k)) (no_divisor v f) (sym (divisor_none (get_or v 0 0) f)))

    pub rule_refusal : {form : ℕ} {b : List ℕ} {u w h : Bool} → form ≡ (rule_of v).form → Handed (rule_body v) b
        → u ≡ unknown_form (rule_of v).form → w ≡ beyond max_number (rule_of v).c → h ≡ wrong_head vs (rule_of v).head
        → n ≡ in_order vs form (terms_of b) (own_of u w h) false → n ≡ item_refusal vs (rule (rule_of v))
    unfolding item_refusal wrong_form outside_range undeclared wrong_count variable_twice negative_product
    rule_refusal p y u w h e =
        e ∙ in_order_as vs y (p ∙ read_as_itself (rule_of v).form f) (u ∙ or_none _ (none_wrong (λ i t. wrong_divisor t)))
        (w ∙ or_none _ (none_wrong (λ i t. outside_divisor t))) h none_asked

  -- of form 8
  pub divided_refusal : {b ds : List ℕ} {t w h k : Bool} → (rule_of v).form ≡ 8 → Handed (rule_body v) b → Handed (rule_divisor v) ds
      → t ≡ any_term (terms_of ds) (λ i x. wrong_divisor x) → w ≡ (beyond max_number (rule_of v).c || any_term (terms_of ds) (λ i x. outside_divisor x))
      → h ≡ wrong_head vs (rule_of v).head → k ≡ not (eqb (length ds / 4) 1)
      → n ≡ in_order vs 1 (terms_of b) (own_of t w h) k → n ≡ item_refusal vs (rule (rule_of v))
  unfolding item_refusal wrong_form outside_range undeclared wrong_count variable_twice negative_product wrong_divisors
  divided_refusal f y d t w h k e =
      let known : false ≡ unknown_form (rule_of v).form = form_known (rule_of v).form (omega arith) (omega arith) in
      let ds = ap terms_of d.is in
      e ∙ in_order_as vs y (read_as_sum (rule_of v).form f)
      (t ∙ ap₂ (λ (u : Bool) (ts : List Term). u || any_term ts (λ i x. wrong_divisor x)) known ds)
      (w ∙ ap (λ (ts : List Term). beyond max_number (rule_of v).c || any_term ts (λ i x. outside_divisor x)) ds) h
      (k ∙ ap₂ (λ (m j : ℕ). not (eqb m j)) d.many (divisor_own (rule_of v).form f))

  no_product : (form : ℕ) → form ≡ body_form (get_or v 0 0) → form ≡ 4 → ⊥
  no_product form e q = go (eqb (get_or v 0 0) 1) (eqb (get_or v 0 0) 2) (sym e ∙ q)
    where
      go : (a b : Bool) → ◌≡◌ {A = ℕ} (cond a 1 (cond b 6 0)) 4 → ⊥
      go true b w = omega arith
      go false true w = omega arith
      go false false w = omega arith

  pub constraint_refusal : {form : ℕ} {b : List ℕ} {u w : Bool} → form ≡ body_form (constraint_of v).form → Handed (constraint_body v) b
      → u ≡ wrong_constraint (constraint_of v).form (constraint_of v).c → w ≡ beyond max_number (constraint_of v).c
      → n ≡ in_order vs form (terms_of b) (own_of u w false) false → n ≡ item_refusal vs (constraint (constraint_of v))
  unfolding item_refusal wrong_form outside_range undeclared wrong_count variable_twice negative_product
  constraint_refusal {form} h y u w e =
      let ts = (constraint_of v).terms in
      let z = below_none (length ts) (λ i. negative_term vs form (term_in ts i)) (λ i k. sym (negative_other vs form (term_in ts i) (no_product form h))) in
      let q : n ≡ in_order vs form ts (own_of (wrong_constraint (constraint_of v).form (constraint_of v).c) (beyond max_number (constraint_of v).c) false) false =
      e ∙ in_order_as vs y refl {c = false} {k = false} u w refl refl in
      rw (z, h) at q

  -- a rule's length, by how many divisors its form has
  module _ {k : ℕ} (d : k ≡ divisor_terms (get_or v 0 0)) where
    pub rule_length : not_terms 4 (k + max_terms) (length v) ≡ true → 6 ≡ length_refusal vs 2 v
    unfolding length_refusal wrong_length
    rule_length h = simp (rw d at h)

    pub rule_rest : not_terms 4 (k + max_terms) (length v) ≡ false → n ≡ item_refusal vs (rule (rule_of v)) → n ≡ length_refusal vs 2 v
    unfolding length_refusal wrong_length
    rule_rest h e = simp (rw d at h) e

  -- a rule without a header
  pub rule_short : length v < 4 → 6 ≡ length_refusal vs 2 v
  rule_short h = rule_length refl (sym (terms_short 4 (divisor_terms (get_or v 0 0) + max_terms) (length v) h))

  pub constraint_length : not_terms 3 max_terms (length v) ≡ true → 6 ≡ length_refusal vs 3 v
  unfolding length_refusal wrong_length
  constraint_length h = simp h

  pub constraint_rest : not_terms 3 max_terms (length v) ≡ false → n ≡ item_refusal vs (constraint (constraint_of v)) → n ≡ length_refusal vs 3 v
  unfolding length_refusal wrong_length
  constraint_rest h e = simp h e

-- the divisor's part has room for one term
pub divisor_room : (v : List ℕ) {b : List ℕ} → Handed (rule_divisor v) b → length b / 4 ≤ 1
divisor_room v h = omega (arith, ap length h.is, length-take (4 * divisor_terms (get_or v 0 0)) (drop 4 v), divisor_few (get_or v 0 0))
