-- The first demand, of every reading: a file has one answer, and a field's refusal has a number from 2 to 12.
use Prim.Native.Nat.{ℕ, ◌<◌, ◌≤◌}
use mathlib.Core.Path.{◌≡◌, refl, sym, ap}
use mathlib.Core.List.{List, [], ◌∷◌}
use mathlib.Core.Bool.{Bool, true, false, not, ◌&&◌}
use native.Mathlib.Omega.{arith}
use lib.Dec.{T, T_not, leb, eqb, leb→le}
use lib.ListN.{length}
use borrow.Author.Tests.{eq-eqb}
use Rattle.format.specs.Limits.{max_file}
use Rattle.program.specs.Tables.{Condition, ◌when◌, first_of}
use Rattle.program.specs.Fields.{tag_at, value_at, place, tag_before}
use Rattle.program.specs.Program.{Program, Item, item_of, program}
use Rattle.program.specs.Refusals.{cut_short, unknown_tag, tag_below, one_too_many, wrong_length}
use Rattle.program.specs.Refusals.{item_conditions, item_refusal, value_refusal, field_refusal}
use Rattle.program.specs.Reading.{Answer, accepted, refused, Reads, too_long, bad_field, not_valid, whole, Accepts}
use Rattle.program.specs.ReadDemands.{BadField, OffendingField, ReadDemands}
use Rattle.program.specs.declared.Variable.{Variable}
use Rattle.program.proofs.Tests.{and_left, and_right, and_both, is_test}
use Rattle.program.proofs.Unique.{reads_unique}

-- ---- the numbers of a field's refusals

-- n is at most 12, and not 1
abbrev of_field : ℕ → Bool
of_field n = leb n 12 && not (eqb n 1)

abbrev all_of_field : List Condition → Bool
all_of_field [] = true
all_of_field ((n when b) ∷ rest) = of_field n && all_of_field rest

first_of_field : (cs : List Condition) → T (all_of_field cs) → T (of_field (first_of cs))
first_of_field [] t = tt
first_of_field ((n when true) ∷ rest) t = and_left (of_field n) (all_of_field rest) t
first_of_field ((n when false) ∷ rest) t = first_of_field rest (and_right (of_field n) (all_of_field rest) t)

item_number : (vs : List Variable) (it : Item) → T (of_field (item_refusal vs it))
unfolding item_refusal
item_number vs it = first_of_field (item_conditions vs it) tt

value_number : (P : Program) (before tag : ℕ) (v : List ℕ) → T (of_field (value_refusal P before tag v))
unfolding value_refusal
value_number P before tag v =
    let last = item_refusal P.variables (item_of tag v) in
    first_of_field
    ((3 when unknown_tag tag)
    ∷ (4 when tag_below before tag)
    ∷ (5 when one_too_many P tag)
    ∷ (6 when wrong_length tag v)
    ∷ (last when true)
    ∷ [])
    (and_both (of_field last) true (item_number _ _) tt)

field_number : (s : List ℕ) (k : ℕ) → T (of_field (field_refusal s k))
unfolding field_refusal
field_number s k =
    let at = place s k in
    let value = value_refusal (program s k) (tag_before s k) (tag_at s at) (value_at s at) in
    first_of_field ((2 when cut_short s at) ∷ (value when true) ∷ []) (and_both (of_field value) true (value_number _ _ _ _) tt)

module _ (s : List ℕ) (k : ℕ) where
  pub field_most : field_refusal s k ≤ 12
  field_most = leb→le (field_refusal s k) 12 (and_left (leb (field_refusal s k) 12) (not (eqb (field_refusal s k) 1)) (field_number s k))

  pub field_not_one : field_refusal s k ≡ 1 → ⊥
  field_not_one e =
      T_not (eqb (field_refusal s k) 1) (and_right (leb (field_refusal s k) 12) (not (eqb (field_refusal s k) 1)) (field_number s k))
      (is_test (eq-eqb (field_refusal s k) 1 e))

-- ---- a file that is turned down, by its number

number_in : Answer → ℕ
number_in (accepted v r c) = 0
number_in (refused n at) = n

place_in : Answer → ℕ
place_in (accepted v r c) = 0
place_in (refused n at) = at

module _ {s : List ℕ} where
  over_limit_is : {r : Answer} → Reads s r → (at : ℕ) → r ≡ refused 1 at → (max_file < length s) × (at ≡ 0)
  unfolding number_in place_in
  over_limit_is (too_long h) at e = (h, sym (ap place_in e))
  over_limit_is (bad_field {k} p h q) at e = absurd (field_not_one s k (ap number_in e))
  over_limit_is (not_valid w h f x) at e = absurd (omega (arith, ap number_in e))
  over_limit_is (whole w x) at e = absurd (omega (arith, ap number_in e))

  by_field_is : {r : Answer} → Reads s r → (n at : ℕ) → 2 ≤ n → n ≤ 12 → r ≡ refused n at → BadField s n at
  unfolding number_in place_in
  by_field_is (too_long h) n at l m e = absurd (omega (arith, ap number_in e))
  by_field_is (bad_field {k} p h q) n at l m e = record { field = k; before = p; stands = h; meets = ap number_in e; placed = ap place_in e }
  by_field_is (not_valid w h g x) n at l m e = absurd (omega (arith, ap number_in e))
  by_field_is (whole w x) n at l m e = absurd (omega (arith, ap number_in e))

  invalid_is : {r : Answer} → Reads s r → (at : ℕ) → r ≡ refused 13 at → OffendingField s at
  unfolding number_in place_in
  invalid_is (too_long h) at e = absurd (omega (arith, ap number_in e))
  invalid_is (bad_field {k} p h q) at e = absurd (omega (arith, ap number_in e, field_most s k))
  invalid_is (not_valid {k} {j} {i} w h g x) at e =
      record { fields = k; field = j; rule = i; fine = w; among = h; is_rule = g; offends = x; placed = ap place_in e }
  invalid_is (whole w x) at e = absurd (omega (arith, ap number_in e))

  no_other_is : {r : Answer} → Reads s r → (n at : ℕ) → r ≡ refused n at → (1 ≤ n) × (n ≤ 13)
  unfolding number_in
  no_other_is (too_long h) n at e = let z = ap number_in e in (omega (arith, z), omega (arith, z))
  no_other_is (bad_field {k} p h q) n at e = let z = ap number_in e in (omega (arith, z, q), omega (arith, z, field_most s k))
  no_other_is (not_valid w h f x) n at e = let z = ap number_in e in (omega (arith, z), omega (arith, z))
  no_other_is (whole w x) n at e = let z : ◌≡◌ {A = ℕ} 0 1 = cc in absurd (omega arith)

  accepts_is : {r : Answer} → Reads s r → ((n at : ℕ) → r ≡ refused n at → ⊥)
      → (P : Program) × Accepts s P × (r ≡ accepted (length P.variables) (length P.rules) (length P.constraints))
  accepts_is (too_long h) f = absurd (f _ _ refl)
  accepts_is (bad_field p h q) f = absurd (f _ _ refl)
  accepts_is (not_valid w h g x) f = absurd (f _ _ refl)
  accepts_is (whole {k} w x) f = (program s k, record { fields = k; whole = w; means = refl; valid = x }, refl)

  bad_field_is : {n at : ℕ} → 2 ≤ n → BadField s n at → Reads s (refused n at)
  bad_field_is l b = rw (← b.meets, ← b.placed) (bad_field b.before b.stands (omega (arith, l, b.meets)))

  offending_is : {at : ℕ} → OffendingField s at → Reads s (refused 13 at)
  offending_is o = rw (← o.placed) (not_valid o.fine o.among o.is_rule o.offends)

  pub read_demands : {r : Answer} → Reads s r → ReadDemands s r
  read_demands c = record {
    over_limit = λ at. (over_limit_is c at, λ x. reads_unique c (rw x.1 (too_long x.0)));
    by_field = λ n at l m. (by_field_is c n at l m, λ b. reads_unique c (bad_field_is l b));
    invalid = λ at. (invalid_is c at, λ o. reads_unique c (offending_is o));
    no_other = no_other_is c;
    accepts = accepts_is c;
  }
