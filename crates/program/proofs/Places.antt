-- Where things stand in a file whose first k fields passed.
use Prim.Native.Nat.{ℕ, zero, suc, ◌+◌, ◌*◌, ◌<◌, ◌≤◌}
use mathlib.Core.Path.{◌≡◌, refl, sym, ap, ap₂, ◌∙◌}
use mathlib.Core.List.{List, [], ◌∷◌, ◌++◌, append-nil, append_assoc}
use mathlib.Core.Bool.{true, false, ◌&&◌}
use native.Mathlib.Numerals.{add-one}
use native.Mathlib.Omega.{arith}
use lib.ListN.{length, get_or, take, drop, length-append, length-drop, get_or-append}
use lib.Seq.{length-take-le, get_or-take, get_or_at}
use lib.Dec.{eqb, leb, ltb, lit<}
use borrow.Author.Tests.{ltb-false, leb-true, leb-false, eqb-true, not-false}
use Rattle.format.specs.Limits.{max_file, max_variables, max_rules, max_constraints, max_terms}
use Rattle.program.specs.Tables.{Condition, ◌when◌, first_of}
use Rattle.program.specs.Fields.{tag_at, length_at, value_at, next_at, place, tag_before}
use Rattle.program.specs.Program.{Program, Item, variable, rule, constraint, none, variable_of, rule_of, constraint_of, with, item_of, item, program, divisor_terms}
use Rattle.program.specs.Program.{variable_in, rule_in, constraint_in, no_variable, no_rule, no_constraint, variables_at}
use Rattle.program.specs.Refusals.{cut_short, unknown_tag, tag_below, one_too_many, not_terms, wrong_length, undeclared, negative_product, item_refusal, value_refusal, field_refusal}
use Rattle.program.specs.Reading.{Passed, RuleField}
use Rattle.program.proofs.Conditions.{neither, both, none_first, some_below, last_or}
use Rattle.program.specs.declared.Variable.{Variable}

-- ---- the next field

module _ (s : List ℕ) where
  pub place_start : place s 0 ≡ 0
  unfolding place
  place_start = refl

  pub program_start : program s 0 ≡ record { variables = []; rules = []; constraints = [] }
  unfolding program
  program_start = refl

  pub before_start : tag_before s 0 ≡ 0
  unfolding tag_before
  before_start = refl

  module _ (k : ℕ) where
    pub place_next : place s (k + 1) ≡ next_at s (place s k)
    unfolding place
    place_next = rw (add-one k)

    pub program_next : program s (k + 1) ≡ with (program s k) (item s k)
    unfolding program
    program_next = rw (add-one k)

    pub before_next : tag_before s (k + 1) ≡ tag_at s (place s k)
    unfolding tag_before
    before_next = rw (add-one k)

    pub place_suc : place s (suc k) ≡ next_at s (place s k)
    unfolding place
    place_suc = refl

    pub program_suc : program s (suc k) ≡ with (program s k) (item s k)
    unfolding program
    program_suc = refl

    pub before_suc : tag_before s (suc k) ≡ tag_at s (place s k)
    unfolding tag_before
    before_suc = refl

  -- a field takes its tag and its length
  pub place_least : (k : ℕ) → 3 * k ≤ place s k
  place_least zero = omega arith
  place_least (suc k) = let r = place_least k in omega (arith, place_suc k)

pub passed_less : {s : List ℕ} {j k : ℕ} → Passed s k → j ≤ k → Passed s j
passed_less p h = record { short = p.short; stands = λ i l. p.stands i (omega arith); fine = λ i l. p.fine i (omega arith) }

pub passed_none : (s : List ℕ) → length s ≤ max_file → Passed s 0
passed_none s h = record { short = h; stands = λ j l. absurd (omega arith); fine = λ j l. absurd (omega arith) }

pub passed_more : {s : List ℕ} {k : ℕ} → Passed s k → place s k < length s → field_refusal s k ≡ 0 → Passed s (k + 1)
passed_more {s} {k} p h e = record {
  short = p.short;
  stands = λ j l. last_or (λ i. place s i < length s) k j (omega arith) (p.stands j) h;
  fine = λ j l. last_or (λ i. field_refusal s i ≡ 0) k j (omega arith) (p.fine j) e;
}

-- ---- a field that meets no refusal

pub record Fine (s : List ℕ) (j : ℕ) : Type 0 where
  pub whole : next_at s (place s j) ≤ length s
  pub tag_least : 1 ≤ tag_at s (place s j)
  pub tag_most : tag_at s (place s j) ≤ 3
  pub ascends : tag_before s j ≤ tag_at s (place s j)
  pub room : one_too_many (program s j) (tag_at s (place s j)) ≡ false
  pub length_is : length (value_at s (place s j)) ≡ length_at s (place s j)
  pub sized : wrong_length (tag_at s (place s j)) (value_at s (place s j)) ≡ false
  pub meant : item_refusal (program s j).variables (item s j) ≡ 0

-- a field that is not cut short ends within the file
pub not_cut : (s : List ℕ) (at : ℕ) → cut_short s at ≡ false → next_at s at ≤ length s
unfolding cut_short
not_cut s at e = ltb-false (length s) (next_at s at) (neither (ltb (length s) (at + 3)) (ltb (length s) (next_at s at)) e).1

pub value_length : (s : List ℕ) (at : ℕ) → next_at s at ≤ length s → length (value_at s at) ≡ length_at s at
value_length s at h = length-take-le (length_at s at) (drop (at + 3) s) (omega (arith, length-drop (at + 3) s))

pub tag_known : (tag : ℕ) → unknown_tag tag ≡ false → (1 ≤ tag) × (tag ≤ 3)
unfolding unknown_tag
tag_known tag e =
    let b = both (leb 1 tag) (leb tag 3) (not-false (leb 1 tag && leb tag 3) e) in
    (leb-true 1 tag b.0, leb-true tag 3 b.1)

pub tag_above : (before tag : ℕ) → tag_below before tag ≡ false → before ≤ tag
unfolding tag_below
tag_above before tag e = ltb-false tag before e

-- the conditions of a field that is not cut short
abbrev conditions : Program → ℕ → ℕ → List ℕ → List Condition
conditions P before tag v =
    (3 when unknown_tag tag)
    ∷ (4 when tag_below before tag)
    ∷ (5 when one_too_many P tag)
    ∷ (6 when wrong_length tag v)
    ∷ (item_refusal P.variables (item_of tag v) when true)
    ∷ []

pub fine_field : (s : List ℕ) (j : ℕ) → field_refusal s j ≡ 0 → Fine s j
unfolding field_refusal value_refusal
fine_field s j e =
    let at = place s j in
    let cs = conditions (program s j) (tag_before s j) (tag_at s at) (value_at s at) in
    let cut = none_first 1 _ ((first_of cs when true) ∷ []) e in
    let known = none_first 2 _ (drop 1 cs) cut.1 in
    let above = none_first 3 _ (drop 2 cs) known.1 in
    let room = none_first 4 _ (drop 3 cs) above.1 in
    let sized = none_first 5 _ (drop 4 cs) room.1 in
    let inside = not_cut s at cut.0 in
    let tag = tag_known (tag_at s at) known.0 in
    record {
      whole = inside;
      tag_least = tag.0;
      tag_most = tag.1;
      ascends = tag_above (tag_before s j) (tag_at s at) above.0;
      room = room.0;
      length_is = value_length s at inside;
      sized = sized.0;
      meant = sized.1;
    }

pub passed_fine : {s : List ℕ} {k : ℕ} → Passed s k → (j : ℕ) → j < k → Fine s j
passed_fine {s} p j h = fine_field s j (p.fine j h)

pub passed_inside : {s : List ℕ} (k : ℕ) → Passed s k → place s k ≤ length s
passed_inside {s} zero p = omega (arith, place_start s)
passed_inside {s} (suc k) p = rw (place_suc s k) (passed_fine p k (omega arith)).whole

-- ---- the three kinds of field

-- a value of `header` bytes and some terms, at most so many
pub record Sized (header most len : ℕ) : Type 0 where
  pub terms : ℕ
  pub few : terms ≤ most
  pub length_is : len ≡ header + 4 * terms

pub sized_terms : (header most len : ℕ) → not_terms header most len ≡ false → Sized header most len
unfolding not_terms
sized_terms header most len e =
    let r = some_below (most + 1) (λ n. eqb len (header + 4 * n)) (not-false _ e) in
    record { terms = r.0; few = omega arith; length_is = eqb-true len (header + 4 * r.0) r.2 }

module _ (tag : ℕ) (v : List ℕ) (e : wrong_length tag v ≡ false) where
  pub variable_sized : tag ≡ 1 → length v ≡ 5
  unfolding wrong_length
  variable_sized h = eqb-true (length v) 5 (not-false (eqb (length v) 5) (rw h at e))

  pub rule_sized : tag ≡ 2 → Sized 4 (divisor_terms (get_or v 0 0) + max_terms) (length v)
  unfolding wrong_length
  rule_sized h = sized_terms 4 (divisor_terms (get_or v 0 0) + max_terms) (length v) (rw h at e)

  pub constraint_sized : tag ≡ 3 → Sized 3 max_terms (length v)
  unfolding wrong_length
  constraint_sized h = sized_terms 3 max_terms (length v) (rw h at e)

-- the length of a field
module _ {s : List ℕ} {j : ℕ} (f : Fine s j) where
  pub variable_length : tag_at s (place s j) ≡ 1 → length_at s (place s j) ≡ 5
  variable_length h = sym f.length_is ∙ variable_sized _ _ f.sized h

  -- there is room for the header of a rule, of a constraint
  pub rule_header_is : tag_at s (place s j) ≡ 2 → 4 ≤ length_at s (place s j)
  rule_header_is h = omega (arith, f.length_is, (rule_sized _ _ f.sized h).length_is)

  pub constraint_header_is : tag_at s (place s j) ≡ 3 → 3 ≤ length_at s (place s j)
  constraint_header_is h = omega (arith, f.length_is, (constraint_sized _ _ f.sized h).length_is)

module _ (P : Program) (tag : ℕ) (e : one_too_many P tag ≡ false) where
  pub variable_room : tag ≡ 1 → length P.variables < max_variables
  unfolding one_too_many
  variable_room h = leb-false max_variables (length P.variables) (rw h at e)

  pub rule_room : tag ≡ 2 → length P.rules < max_rules
  unfolding one_too_many
  rule_room h = leb-false max_rules (length P.rules) (rw h at e)

  pub constraint_room : tag ≡ 3 → length P.constraints < max_constraints
  unfolding one_too_many
  constraint_room h = leb-false max_constraints (length P.constraints) (rw h at e)

module _ (s : List ℕ) (k : ℕ) where
  one_item : {t : ℕ} → tag_at s (place s k) ≡ t → program s (suc k) ≡ with (program s k) (item_of t (value_at s (place s k)))
  one_item h = program_suc s k ∙ ap (λ (t : ℕ). with (program s k) (item_of t (value_at s (place s k)))) h

  pub one_variable : tag_at s (place s k) ≡ 1 → program s (suc k) ≡ with (program s k) (variable (variable_of (value_at s (place s k))))
  one_variable h = one_item h

  pub one_rule : tag_at s (place s k) ≡ 2 → program s (suc k) ≡ with (program s k) (rule (rule_of (value_at s (place s k))))
  one_rule h = one_item h

  pub one_constraint : tag_at s (place s k) ≡ 3 → program s (suc k) ≡ with (program s k) (constraint (constraint_of (value_at s (place s k))))
  one_constraint h = one_item h

pub data Tag (t : ℕ) : Type 0 where
  one : t ≡ 1 → Tag t
  two : t ≡ 2 → Tag t
  three : t ≡ 3 → Tag t

pub tag_of : (t : ℕ) → 1 ≤ t → t ≤ 3 → Tag t
tag_of zero h l = let f : ⊥ = omega arith in absurd f
tag_of (suc zero) h l = one refl
tag_of (suc (suc zero)) h l = two refl
tag_of (suc (suc (suc zero))) h l = three refl
tag_of (suc (suc (suc (suc t)))) h l = let f : ⊥ = omega arith in absurd f

pub length_snoc : {A : Type 0} (xs : List A) (x : A) → length (xs ++ (x ∷ [])) ≡ suc (length xs)
length_snoc xs x = length-append xs (x ∷ []) ∙ add-one (length xs)

-- how many variables, rules and constraints stand before field k
abbrev pub variables_to : List ℕ → ℕ → ℕ
variables_to s k = length (program s k).variables

abbrev pub rules_to : List ℕ → ℕ → ℕ
rules_to s k = length (program s k).rules

abbrev pub constraints_to : List ℕ → ℕ → ℕ
constraints_to s k = length (program s k).constraints

-- the counts after field k, by the counts before it
record Counted (s : List ℕ) (k v r c : ℕ) : Type 0 where
  variables_are : variables_to s (suc k) ≡ v + variables_to s k
  rules_are : rules_to s (suc k) ≡ r + rules_to s k
  constraints_are : constraints_to s (suc k) ≡ c + constraints_to s k

module _ (s : List ℕ) (k : ℕ) where
  counted_variable : tag_at s (place s k) ≡ 1 → Counted s k 1 0 0
  counted_variable h =
      let e = one_variable s k h in
      record { variables_are = rw (e, length_snoc) (omega arith); rules_are = rw e (omega arith); constraints_are = rw e (omega arith) }

  counted_rule : tag_at s (place s k) ≡ 2 → Counted s k 0 1 0
  counted_rule h =
      let e = one_rule s k h in
      record { variables_are = rw e (omega arith); rules_are = rw (e, length_snoc) (omega arith); constraints_are = rw e (omega arith) }

  counted_constraint : tag_at s (place s k) ≡ 3 → Counted s k 0 0 1
  counted_constraint h =
      let e = one_constraint s k h in
      record { variables_are = rw e (omega arith); rules_are = rw e (omega arith); constraints_are = rw (e, length_snoc) (omega arith) }

-- no rule before a tag below 2, no constraint before a tag below 3
record Sorted (s : List ℕ) (k : ℕ) : Type 0 where
  no_rule_is : tag_before s k < 2 → rules_to s k ≡ 0
  no_constraint_is : tag_before s k < 3 → constraints_to s k ≡ 0
  in_all : k ≡ variables_to s k + rules_to s k + constraints_to s k
  few_variables : variables_to s k ≤ max_variables
  few_rules : rules_to s k ≤ max_rules
  few_constraints : constraints_to s k ≤ max_constraints

sorted_start : (s : List ℕ) → Sorted s 0
unfolding program
sorted_start s = record {
  no_rule_is = λ h. refl;
  no_constraint_is = λ h. refl;
  in_all = refl;
  few_variables = omega arith;
  few_rules = omega arith;
  few_constraints = omega arith;
}

sorted_more : {s : List ℕ} {k : ℕ} → Sorted s k → Fine s k → Tag (tag_at s (place s k)) → Sorted s (suc k)
sorted_more {s} {k} o f (one h) =
    let c = counted_variable s k h in
    let r : rules_to s k ≡ 0 = o.no_rule_is (omega arith) in
    let q : constraints_to s k ≡ 0 = o.no_constraint_is (omega arith) in
    omega (arith, before_suc s k, variable_room (program s k) _ f.room h)
sorted_more {s} {k} o f (two h) =
    let c = counted_rule s k h in
    let q : constraints_to s k ≡ 0 = o.no_constraint_is (omega arith) in
    omega (arith, before_suc s k, rule_room (program s k) _ f.room h)
sorted_more {s} {k} o f (three h) =
    let c = counted_constraint s k h in
    omega (arith, before_suc s k, constraint_room (program s k) _ f.room h)

sorted : {s : List ℕ} (k : ℕ) → Passed s k → Sorted s k
sorted {s} zero p = sorted_start s
sorted {s} (suc k) p =
    let f = passed_fine p k (omega arith) in
    sorted_more (sorted k (passed_less p (omega arith))) f (tag_of _ f.tag_least f.tag_most)

-- the counts of the first k fields, each within its limit
pub record CountsWithin (s : List ℕ) (k : ℕ) : Type 0 where
  pub in_all : k ≡ variables_to s k + rules_to s k + constraints_to s k
  pub few_variables : variables_to s k ≤ max_variables
  pub few_rules : rules_to s k ≤ max_rules
  pub few_constraints : constraints_to s k ≤ max_constraints

pub counts : {s : List ℕ} {k : ℕ} → Passed s k → CountsWithin s k
counts {s} {k} p = let o = sorted k p in omega arith

-- ---- what field k is

pub record NextVariable (s : List ℕ) (k : ℕ) : Type 0 where
  pub tagged : tag_at s (place s k) ≡ 1
  pub takes : length_at s (place s k) ≡ 5
  pub means : program s (suc k) ≡ with (program s k) (variable (variable_of (value_at s (place s k))))
  pub no_rule_is : rules_to s k ≡ 0
  pub no_constraint_is : constraints_to s k ≡ 0
  pub variables_more : variables_to s (suc k) ≡ suc (variables_to s k)
  pub number : k ≡ variables_to s k

pub record NextRule (s : List ℕ) (k : ℕ) : Type 0 where
  pub tagged : tag_at s (place s k) ≡ 2
  pub sized : Sized 4 (divisor_terms (get_or (value_at s (place s k)) 0 0) + max_terms) (length (value_at s (place s k)))
  pub means : program s (suc k) ≡ with (program s k) (rule (rule_of (value_at s (place s k))))
  pub no_constraint_is : constraints_to s k ≡ 0
  pub rules_more : rules_to s (suc k) ≡ suc (rules_to s k)
  pub number : k ≡ variables_to s k + rules_to s k

pub record NextConstraint (s : List ℕ) (k : ℕ) : Type 0 where
  pub tagged : tag_at s (place s k) ≡ 3
  pub sized : Sized 3 max_terms (length (value_at s (place s k)))
  pub means : program s (suc k) ≡ with (program s k) (constraint (constraint_of (value_at s (place s k))))
  pub constraints_more : constraints_to s (suc k) ≡ suc (constraints_to s k)
  pub number : k ≡ variables_to s k + rules_to s k + constraints_to s k

pub data Next (s : List ℕ) (k : ℕ) : Type 0 where
  a_variable : NextVariable s k → Next s k
  a_rule : NextRule s k → Next s k
  a_constraint : NextConstraint s k → Next s k

module _ {s : List ℕ} {k : ℕ} (o : Sorted s k) (f : Fine s k) where
  next_variable : tag_at s (place s k) ≡ 1 → NextVariable s k
  next_variable h =
      let r : rules_to s k ≡ 0 = o.no_rule_is (omega arith) in
      let q : constraints_to s k ≡ 0 = o.no_constraint_is (omega arith) in
      record {
        tagged = h;
        takes = variable_length f h;
        means = one_variable s k h;
        no_rule_is = r;
        no_constraint_is = q;
        variables_more = omega (arith, (counted_variable s k h).variables_are);
        number = omega arith;
      }

  next_rule : tag_at s (place s k) ≡ 2 → NextRule s k
  next_rule h =
      let q : constraints_to s k ≡ 0 = o.no_constraint_is (omega arith) in
      record {
        tagged = h;
        sized = rule_sized _ _ f.sized h;
        means = one_rule s k h;
        no_constraint_is = q;
        rules_more = omega (arith, (counted_rule s k h).rules_are);
        number = omega arith;
      }

  next_constraint : tag_at s (place s k) ≡ 3 → NextConstraint s k
  next_constraint h = record {
    tagged = h;
    sized = constraint_sized _ _ f.sized h;
    means = one_constraint s k h;
    constraints_more = omega (arith, (counted_constraint s k h).constraints_are);
    number = o.in_all;
  }

  next_by : Tag (tag_at s (place s k)) → Next s k
  next_by (one h) = a_variable (next_variable h)
  next_by (two h) = a_rule (next_rule h)
  next_by (three h) = a_constraint (next_constraint h)

pub next : {s : List ℕ} {k : ℕ} → Passed s k → Fine s k → Next s k
next {s} {k} p f = next_by (sorted k p) f (tag_of _ f.tag_least f.tag_most)

pub next_of : {s : List ℕ} {k : ℕ} → Passed s (suc k) → Next s k
next_of {s} {k} p = next (passed_less p (omega arith)) (passed_fine p k (omega arith))

-- ---- the variables

pub variables_length : (s : List ℕ) (n : ℕ) → length (variables_at s n) ≡ n
unfolding variables_at
variables_length s zero = refl
variables_length s (suc n) = rw (length_snoc, variables_length s n)

pub variable_at_is : (s : List ℕ) (n x : ℕ) → x < n → variable_in (variables_at s n) x ≡ variable_of (drop (8 * x + 3) s)
unfolding variables_at
variable_at_is s zero x h = let f : ⊥ = omega arith in absurd f
variable_at_is s (suc n) x h = last_or
    (λ i. variable_in (variables_at s (suc n)) i ≡ variable_of (drop (8 * i + 3) s)) n x h
    (λ l. get_or-append (variables_at s n) _ no_variable x (omega (arith, variables_length s n)) ∙ variable_at_is s n x l)
    (get_or_at (variables_at s n) _ [] no_variable n (variables_length s n))

-- a variable's value, read to the end of the file
variable_value_lem : (s : List ℕ) (at : ℕ) → length_at s at ≡ 5 → variable_of (value_at s at) ≡ variable_of (drop (at + 3) s)
variable_value_lem s at h =
    let e : (i : ℕ) → i < 5 → get_or (take 5 (drop (at + 3) s)) i 0 ≡ get_or (drop (at + 3) s) i 0 = λ i l. get_or-take 5 (drop (at + 3) s) i 0 l in
    rw (h, e 0 (lit< tt), e 1 (lit< tt), e 2 (lit< tt), e 3 (lit< tt), e 4 (lit< tt))

-- the first k fields begin with the variables, 8 bytes each
pub record VariablesStand (s : List ℕ) (k n : ℕ) : Type 0 where
  pub are : (program s k).variables ≡ variables_at s n
  pub tagged : (j : ℕ) → j < n → tag_at s (place s j) ≡ 1
  pub placed : (j : ℕ) → j ≤ n → place s j ≡ 8 * j
  pub inside : 8 * n ≤ length s
  pub before : n ≤ k

stand_start : (s : List ℕ) → VariablesStand s 0 0
unfolding program variables_at
stand_start s = record {
  are = refl;
  tagged = λ j h. let f : ⊥ = omega arith in absurd f;
  placed = λ j h. let e : j ≡ 0 = omega arith in rw e (place_start s);
  inside = omega arith;
  before = omega arith;
}

stand_variable : {s : List ℕ} {k n : ℕ} → VariablesStand s k n → k ≡ n → Fine s k → NextVariable s k → VariablesStand s (suc k) (suc n)
unfolding variables_at
stand_variable {s} {k} {n} v e f x =
    let at : place s k ≡ 8 * n = rw e (v.placed n (omega arith)) in
    let more : place s (suc k) ≡ 8 * suc n = omega (arith, place_suc s k, x.takes) in
    record {
      are = ap (λ (P : Program). P.variables) x.means
          ∙ ap₂ (λ (xs : List Variable) (y : Variable). xs ++ (y ∷ [])) v.are
          (variable_value_lem s (place s k) x.takes ∙ ap (λ (i : ℕ). variable_of (drop (i + 3) s)) at);
      tagged = λ j h. last_or (λ i. tag_at s (place s i) ≡ 1) n j h (v.tagged j) (rw e at x.tagged);
      placed = λ j h. last_or (λ i. place s i ≡ 8 * i) (suc n) j (omega arith) (λ l. v.placed j (omega arith)) (rw e at more);
      inside = omega (arith, f.whole, place_suc s k);
      before = omega arith;
    }

stand_other : {s : List ℕ} {k n : ℕ} → VariablesStand s k n → (program s (suc k)).variables ≡ (program s k).variables → VariablesStand s (suc k) n
stand_other v e = record { are = e ∙ v.are; tagged = v.tagged; placed = v.placed; inside = v.inside; before = omega arith }

stand_next : {s : List ℕ} {k : ℕ} → VariablesStand s k (variables_to s k) → Fine s k → Next s k → VariablesStand s (suc k) (variables_to s (suc k))
stand_next v f (a_variable x) = rw x.variables_more (stand_variable v x.number f x)
stand_next v f (a_rule x) = let e = ap (λ (P : Program). P.variables) x.means in rw (ap length e) (stand_other v e)
stand_next v f (a_constraint x) = let e = ap (λ (P : Program). P.variables) x.means in rw (ap length e) (stand_other v e)

pub variables_stand : {s : List ℕ} (k : ℕ) → Passed s k → VariablesStand s k (variables_to s k)
unfolding program
variables_stand {s} zero p = stand_start s
variables_stand {s} (suc k) p = stand_next (variables_stand k (passed_less p (omega arith))) (passed_fine p k (omega arith)) (next_of p)

-- ---- one field more: each list stays, or grows at its end

pub record Extends {A : Type 0} (xs ys : List A) : Type 0 where
  pub more : List A
  pub are : ys ≡ xs ++ more

pub extends_length : {A : Type 0} {xs ys : List A} → Extends xs ys → length xs ≤ length ys
extends_length {xs = xs} e = omega (arith, ap length e.are, length-append xs e.more)

extends_at : {A : Type 0} {xs ys : List A} → Extends xs ys → (i : ℕ) (d : A) → i < length xs → get_or ys i d ≡ get_or xs i d
extends_at {xs = xs} e i d h = rw e.are (get_or-append xs e.more d i h)

extends_same : {A : Type 0} (xs : List A) → Extends xs xs
extends_same xs = record { more = []; are = sym (append-nil xs) }

extends_snoc : {A : Type 0} {xs ys : List A} (y : A) → Extends xs ys → Extends xs (ys ++ (y ∷ []))
extends_snoc {xs = xs} y e = record { more = e.more ++ (y ∷ []); are = rw e.are (append_assoc xs e.more (y ∷ [])) }

pub record Grows (P Q : Program) : Type 0 where
  pub variables : Extends P.variables Q.variables
  pub rules : Extends P.rules Q.rules
  pub constraints : Extends P.constraints Q.constraints

grows_with : {P Q : Program} → Grows P Q → (it : Item) → Grows P (with Q it)
grows_with g (variable x) = record { variables = extends_snoc x g.variables; rules = g.rules; constraints = g.constraints }
grows_with g (rule r) = record { variables = g.variables; rules = extends_snoc r g.rules; constraints = g.constraints }
grows_with g (constraint c) = record { variables = g.variables; rules = g.rules; constraints = extends_snoc c g.constraints }
grows_with g none = g

grows_same : (P : Program) → Grows P P
grows_same P = record { variables = extends_same _; rules = extends_same _; constraints = extends_same _ }

pub program_grows : (s : List ℕ) (j k : ℕ) → j ≤ k → Grows (program s j) (program s k)
program_grows s j zero h = let e : j ≡ 0 = omega arith in rw e (grows_same _)
program_grows s j (suc k) h = last_or (λ i. Grows (program s i) (program s (suc k))) (suc k) j (omega arith)
    (λ l. rw (program_suc s k) (grows_with (program_grows s j k (omega arith)) (item s k))) (grows_same _)

-- ---- rules and constraints

pub tags_ascend : {s : List ℕ} {k : ℕ} → Passed s k → (i j : ℕ) → i ≤ j → j < k → tag_at s (place s i) ≤ tag_at s (place s j)
tags_ascend {s} p i zero h l = let e : i ≡ 0 = omega arith in rw e (omega arith)
tags_ascend {s} p i (suc j) h l = last_or (λ x. tag_at s (place s x) ≤ tag_at s (place s (suc j))) (suc j) i (omega arith)
    (λ m. let r = tags_ascend p i j (omega arith) (omega arith) in omega (arith, (passed_fine p (suc j) l).ascends, before_suc s j))
    (omega arith)

module _ {s : List ℕ} {k : ℕ} where
  keeps_variables : Next s k → 2 ≤ tag_at s (place s k) → (program s (suc k)).variables ≡ (program s k).variables
  keeps_variables (a_variable x) h = let f : ⊥ = omega arith in absurd f
  keeps_variables (a_rule x) h = ap (λ (P : Program). P.variables) x.means
  keeps_variables (a_constraint x) h = ap (λ (P : Program). P.variables) x.means

  keeps_rules : Next s k → 3 ≤ tag_at s (place s k) → (program s (suc k)).rules ≡ (program s k).rules
  keeps_rules (a_variable x) h = let f : ⊥ = omega arith in absurd f
  keeps_rules (a_rule x) h = let f : ⊥ = omega arith in absurd f
  keeps_rules (a_constraint x) h = ap (λ (P : Program). P.rules) x.means

-- what no field of tag t or above changes does not change after one
stays : {A : Type 0} {s : List ℕ} (part : Program → A) (t : ℕ)
    → ((k : ℕ) → Next s k → t ≤ tag_at s (place s k) → part (program s (suc k)) ≡ part (program s k))
    → (j k : ℕ) → Passed s k → j < k → t ≤ tag_at s (place s j) → part (program s k) ≡ part (program s j)
stays part t keeps j zero p h l = let f : ⊥ = omega arith in absurd f
stays {s = s} part t keeps j (suc k) p h l = last_or (λ i. t ≤ tag_at s (place s i) → part (program s (suc k)) ≡ part (program s i)) k j h
    (λ m u. keeps k (next_of p) (omega (arith, tags_ascend p j k (omega arith) (omega arith)))
    ∙ stays part t keeps j k (passed_less p (omega arith)) m u)
    (keeps k (next_of p)) l

module _ {s : List ℕ} {j k : ℕ} (p : Passed s k) (h : j < k) where
  pub variables_stay : 2 ≤ tag_at s (place s j) → (program s k).variables ≡ (program s j).variables
  variables_stay = stays (λ P. P.variables) 2 (λ i. keeps_variables) j k p h

  pub rules_stay : 3 ≤ tag_at s (place s j) → (program s k).rules ≡ (program s j).rules
  rules_stay = stays (λ P. P.rules) 3 (λ i. keeps_rules) j k p h

-- field j, before field k, is rule i
pub record RuleStands (s : List ℕ) (k j i : ℕ) : Type 0 where
  pub before : j < k
  pub field : RuleField s j i
  pub among : i < rules_to s k
  pub number : j ≡ variables_to s k + i
  pub is : rule_in (program s k).rules i ≡ rule_of (value_at s (place s j))
  pub declared : (program s k).variables ≡ (program s j).variables
  pub fine : item_refusal (program s k).variables (rule (rule_in (program s k).rules i)) ≡ 0

-- field k is constraint i
pub record ConstraintField (s : List ℕ) (k i : ℕ) : Type 0 where
  pub tagged : tag_at s (place s k) ≡ 3
  pub number : constraints_to s k ≡ i

pub record ConstraintStands (s : List ℕ) (k j i : ℕ) : Type 0 where
  pub before : j < k
  pub field : ConstraintField s j i
  pub among : i < constraints_to s k
  pub number : j ≡ variables_to s k + rules_to s k + i
  pub is : constraint_in (program s k).constraints i ≡ constraint_of (value_at s (place s j))
  pub declared : (program s k).variables ≡ (program s j).variables
  pub fine : item_refusal (program s k).variables (constraint (constraint_in (program s k).constraints i)) ≡ 0

meant_as : {s : List ℕ} {j t : ℕ} → Fine s j → tag_at s (place s j) ≡ t → item_refusal (program s j).variables (item_of t (value_at s (place s j))) ≡ 0
meant_as {s} {j} f e = ap (λ (t : ℕ). item_refusal (program s j).variables (item_of t (value_at s (place s j)))) (sym e) ∙ f.meant

module _ {s : List ℕ} {j k i : ℕ} (p : Passed s k) (h : j < k) where
  pub rule_stands : RuleField s j i → RuleStands s k j i
  rule_stands f =
      let a = passed_fine p j h in
      let x = next_rule (sorted j (passed_less p (omega arith))) a f.tagged in
      let d = variables_stay p h (omega arith) in
      let g = (program_grows s (suc j) k (omega arith)).rules in
      let l : i < rules_to s (suc j) = omega arith in
      let is : rule_in (program s k).rules i ≡ rule_of (value_at s (place s j)) =
      extends_at g i no_rule l ∙ ap (λ (P : Program). rule_in P.rules i) x.means ∙ get_or_at (program s j).rules _ [] no_rule i f.number in
      record {
        before = h;
        field = f;
        among = omega (arith, extends_length g);
        number = omega (arith, ap length d);
        is = is;
        declared = d;
        fine = rw (d, is) (meant_as a f.tagged);
      }

  pub constraint_stands : ConstraintField s j i → ConstraintStands s k j i
  constraint_stands f =
      let a = passed_fine p j h in
      let x = next_constraint (sorted j (passed_less p (omega arith))) a f.tagged in
      let d = variables_stay p h (omega arith) in
      let r = rules_stay p h (omega arith) in
      let g = (program_grows s (suc j) k (omega arith)).constraints in
      let l : i < constraints_to s (suc j) = omega arith in
      let is : constraint_in (program s k).constraints i ≡ constraint_of (value_at s (place s j)) =
      extends_at g i no_constraint l ∙ ap (λ (P : Program). constraint_in P.constraints i) x.means
      ∙ get_or_at (program s j).constraints _ [] no_constraint i f.number in
      record {
        before = h;
        field = f;
        among = omega (arith, extends_length g);
        number = omega (arith, ap length d, ap length r);
        is = is;
        declared = d;
        fine = rw (d, is) (meant_as a f.tagged);
      }

-- a count that goes up by one at the fields of a kind: there is a field for each number below it
data Step (count : ℕ → ℕ) (kind : ℕ → Type 0) (j : ℕ) : Type 0 where
  same : count (suc j) ≡ count j → Step count kind j
  more : count (suc j) ≡ suc (count j) → kind j → Step count kind j

record Found (count : ℕ → ℕ) (kind : ℕ → Type 0) (k i : ℕ) : Type 0 where
  at : ℕ
  before : at < k
  is : kind at
  number : count at ≡ i

module _ (count : ℕ → ℕ) (kind : ℕ → Type 0) where
  found_later : {k i : ℕ} → Found count kind k i → Found count kind (suc k) i
  found_later r = record { at = r.at; before = omega arith; is = r.is; number = r.number }

  found_step : {k i : ℕ} → Step count kind k → (i < count k → Found count kind k i) → i < count (suc k) → Found count kind (suc k) i
  found_step (same e) old h = found_later (old (omega arith))
  found_step {k} {i} (more e x) old h = last_or (Found count kind (suc k)) (count k) i (omega arith)
      (λ l. found_later (old l)) (record { at = k; before = omega arith; is = x; number = refl })

  found : count 0 ≡ 0 → (k : ℕ) → ((j : ℕ) → j < k → Step count kind j) → (i : ℕ) → i < count k → Found count kind k i
  found z zero steps i h = let f : ⊥ = omega arith in absurd f
  found z (suc k) steps i h = found_step (steps k (omega arith)) (found z k (λ j l. steps j (omega arith)) i) h

module _ {s : List ℕ} {j : ℕ} where
  rule_step : Next s j → Step (rules_to s) (λ x. tag_at s (place s x) ≡ 2) j
  rule_step (a_variable x) = same (ap (λ (P : Program). length P.rules) x.means)
  rule_step (a_rule x) = more x.rules_more x.tagged
  rule_step (a_constraint x) = same (ap (λ (P : Program). length P.rules) x.means)

  constraint_step : Next s j → Step (constraints_to s) (λ x. tag_at s (place s x) ≡ 3) j
  constraint_step (a_variable x) = same (ap (λ (P : Program). length P.constraints) x.means)
  constraint_step (a_rule x) = same (ap (λ (P : Program). length P.constraints) x.means)
  constraint_step (a_constraint x) = more x.constraints_more x.tagged

module _ {s : List ℕ} {k i : ℕ} (p : Passed s k) where
  pub rule_at_is : i < rules_to s k → RuleStands s k (variables_to s k + i) i
  rule_at_is h =
      let f = found (rules_to s) _ (ap (λ (P : Program). length P.rules) (program_start s)) k (λ j l. rule_step (next_of (passed_less p l))) i h in
      let r = rule_stands p f.before (record { tagged = f.is; number = f.number }) in
      rw (← r.number) r

  pub constraint_at_is : i < constraints_to s k → ConstraintStands s k (variables_to s k + rules_to s k + i) i
  constraint_at_is h =
      let f = found (constraints_to s) _ (ap (λ (P : Program). length P.constraints) (program_start s)) k (λ j l. constraint_step (next_of (passed_less p l))) i h in
      let r = constraint_stands p f.before (record { tagged = f.is; number = f.number }) in
      rw (← r.number) r

-- field x, before field k, is variable x
pub record VariableStands (s : List ℕ) (k x : ℕ) : Type 0 where
  pub before : x < k
  pub tagged : tag_at s (place s x) ≡ 1
  pub placed : place s x ≡ 8 * x
  pub inside : 8 * x + 8 ≤ length s
  pub is : variable_in (program s k).variables x ≡ variable_of (drop (8 * x + 3) s)
  pub fine : item_refusal (program s k).variables (variable (variable_in (program s k).variables x)) ≡ 0

-- a variable is not turned down for those before it
pub alone : (vs ws : List Variable) (x : Variable) → item_refusal vs (variable x) ≡ item_refusal ws (variable x)
unfolding item_refusal undeclared negative_product
alone vs ws x = refl

pub variable_stands : {s : List ℕ} {k x : ℕ} → Passed s k → x < variables_to s k → VariableStands s k x
variable_stands {s} {k} {x} p h =
    let v = variables_stand k p in
    let f = passed_fine p x (omega arith) in
    let t = v.tagged x h in
    let at = v.placed x (omega arith) in
    let is = ap (λ (vs : List Variable). variable_in vs x) v.are ∙ variable_at_is s (variables_to s k) x h in
    let same = variable_value_lem s (place s x) (variable_length f t) ∙ ap (λ (i : ℕ). variable_of (drop (i + 3) s)) at in
    record {
      before = omega arith;
      tagged = t;
      placed = at;
      inside = omega arith;
      is = is;
      fine = ap (λ (y : Variable). item_refusal (program s k).variables (variable y)) (is ∙ sym same)
          ∙ alone (program s k).variables (program s x).variables _ ∙ meant_as f t;
    }
