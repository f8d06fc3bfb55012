-- The first demand, of every call of flatten: a field's refusal has none of the numbers 1, 13 and 17, and what is written fits.
use Prim.Native.Nat.{ℕ, ◌<◌, ◌≤◌}
use mathlib.Core.Path.{◌≡◌, refl, sym, ap, subst}
use mathlib.Core.Logic.{◌≢◌}
use mathlib.Core.Bool.{Bool, true, false}
use mathlib.Core.List.{List, [], ◌∷◌}
use native.Mathlib.Omega.{arith}
use lib.Dec.{eqb}
use lib.ListN.{length, drop, length-append, length-drop}
use lib.Seq.{drop-append_seam}
use borrow.Author.Tests.{eqb-false}
use Rattle.format.specs.Limits.{max_file}
use Rattle.program.specs.Tables.{Condition, ◌when◌, first_of}
use Rattle.program.specs.Fields.{tag_at, value_at, place}
use Rattle.program.specs.Program.{rule}
use Rattle.program.specs.Refusals.{cut_short}
use Rattle.program.specs.Encode.{Bytes, All}
use Rattle.program.proofs.ReadDemanded.{field_most, field_not_one}
use Rattle.normal.specs.Normalizes.{Answer, refusal, written}
use Rattle.nested.specs.Nested.{tree_tag, Nested, Treed, malformed, treed, treed_of, nested}
use Rattle.nested.specs.TreeRefusals.{rooted_refusal, treed_refusal, nested_refusal}
use Rattle.nested.specs.NestedReading.{too_long, bad_field, not_valid}
use Rattle.nested.specs.FlattenCall.{flat, FlattenRefuses, bad_file, no_room, FlattenCall, turned_down, flattened}
use Rattle.nested.specs.FlattenDemands.{BadTreeField, OffendingRule, Roomless, FlattenDemands}
use Rattle.nested.proofs.TreeFields.{conditions, other_refusal}
use Rattle.nested.proofs.Calls.{flatten_unique}
use Rattle.nested.proofs.Grows.{whole_grows}

-- ---- the numbers of a field's refusals

record OfField (n : ℕ) : Type 0 where
  most : n ≤ 19
  not_one : n ≢ 1
  not_thirteen : n ≢ 13
  not_seventeen : n ≢ 17

abbrev numbered : Condition → ℕ
numbered (n when b) = n

first_of_field : (cs : List Condition) → All (λ c. OfField (numbered c)) cs → OfField (first_of cs)
first_of_field [] a = omega arith
first_of_field ((n when true) ∷ cs) a = a.0
first_of_field ((n when false) ∷ cs) a = first_of_field cs a.1

treed_number : (N : Nested) (t : Treed) → OfField (treed_refusal N t)
unfolding rooted_refusal
treed_number N malformed = omega arith
treed_number N (treed t) = first_of_field (conditions N t) (omega arith, (omega arith, (omega arith, (omega arith, tt))))

field_number : (s : List ℕ) (k : ℕ) → OfField (nested_refusal s k)
unfolding nested_refusal
field_number s k = go (eqb (tag_at s (place s k)) tree_tag) refl
  where
    go : (t : Bool) → eqb (tag_at s (place s k)) tree_tag ≡ t → OfField (nested_refusal s k)
    go true e =
        let value = treed_refusal (nested s k) (treed_of (value_at s (place s k))) in
        rw e (first_of_field ((2 when cut_short s (place s k)) ∷ (value when true) ∷ []) (omega arith, (treed_number (nested s k) (treed_of (value_at s (place s k))), tt)))
    go false e =
        let l = field_most s k in
        subst OfField (sym (other_refusal s k (eqb-false (tag_at s (place s k)) tree_tag e)))
        (record { most = omega arith; not_one = field_not_one s k; not_thirteen = λ q. omega arith; not_seventeen = λ q. omega arith })

-- the number and the place of a refusal are small
pub refused_small : {s b : List ℕ} {n at : ℕ} → FlattenRefuses s b n at → (n ≤ 19) × (at ≤ max_file)
refused_small (bad_file (too_long h)) = (omega arith, omega arith)
refused_small {s} (bad_file (bad_field {k = k} p h z)) = ((field_number s k).most, omega (arith, p.short))
refused_small {s} (bad_file (not_valid {j = j} w h f o)) = (omega arith, omega (arith, w.passed.short, w.passed.stands j h))
refused_small (no_room a r) = (omega arith, omega arith)

-- ---- a call that is turned down, by its number

module _ {s b : List ℕ} where
  over_limit_is : {n at : ℕ} → FlattenRefuses s b n at → n ≡ 1 → (max_file < length s) × (at ≡ 0)
  over_limit_is (bad_file (too_long h)) e = (h, refl)
  over_limit_is (bad_file (bad_field {k} p h q)) e = absurd ((field_number s k).not_one e)
  over_limit_is (bad_file (not_valid w h f x)) e = absurd (omega arith)
  over_limit_is (no_room a h) e = absurd (omega arith)

  invalid_is : {n at : ℕ} → FlattenRefuses s b n at → n ≡ 13 → OffendingRule s at
  invalid_is (bad_file (too_long h)) e = absurd (omega arith)
  invalid_is (bad_file (bad_field {k} p h q)) e = absurd ((field_number s k).not_thirteen e)
  invalid_is (bad_file (not_valid {k} {j} {i} w h f x)) e =
      record { fields = k; field = j; rule = i; fine = w; among = h; is_rule = f; offends = x; placed = refl }
  invalid_is (no_room a h) e = absurd (omega arith)

  roomless_is : {n at : ℕ} → FlattenRefuses s b n at → n ≡ 17 → Roomless s b × (at ≡ 0)
  roomless_is (bad_file (too_long h)) e = absurd (omega arith)
  roomless_is (bad_file (bad_field {k} p h q)) e = absurd ((field_number s k).not_seventeen e)
  roomless_is (bad_file (not_valid w h f x)) e = absurd (omega arith)
  roomless_is (no_room {N = N} a h) e = (record { program = N; accepts = a; without = h }, refl)

  by_field_is : {n at : ℕ} → FlattenRefuses s b n at → (n ≡ 1 → ⊥) → (n ≡ 13 → ⊥) → (n ≡ 17 → ⊥) → BadTreeField s n at × (0 < n)
  by_field_is (bad_file (too_long h)) x y z = absurd (x refl)
  by_field_is (bad_file (bad_field {k} p h q)) x y z = (record { field = k; before = p; stands = h; meets = refl; placed = refl }, q)
  by_field_is (bad_file (not_valid w h f o)) x y z = absurd (y refl)
  by_field_is (no_room a h) x y z = absurd (z refl)

  -- and the other way round
  offending_is : {at : ℕ} → OffendingRule s at → FlattenRefuses s b 13 at
  offending_is o = rw (← o.placed) (bad_file (not_valid o.fine o.among o.is_rule o.offends))

  bad_field_is : {n at : ℕ} → BadTreeField s n at → 0 < n → FlattenRefuses s b n at
  bad_field_is f h = rw (← f.meets, ← f.placed) (bad_file (bad_field f.before f.stands (omega (arith, f.meets))))

  without_room : {at : ℕ} → Roomless s b → at ≡ 0 → FlattenRefuses s b 17 at
  without_room r e = rw e (no_room r.accepts r.without)

-- ---- a call that writes

record Writes (s b : List ℕ) (n : ℕ) (b' : List ℕ) : Type 0 where
  short : n ≤ max_file
  inside : n ≤ length b
  fits : length b' ≡ length b
  rest : drop n b' ≡ drop n b
  grows : length s ≤ n

module _ {s b : List ℕ} (y : Bytes s) where
  refused_as : {n at : ℕ} {b' : List ℕ} → FlattenCall s b (refusal n at) b' → FlattenRefuses s b n at × (b' ≡ b)
  refused_as (turned_down p) = (p, refl)

  written_as : {n : ℕ} {b' : List ℕ} → FlattenCall s b (written n) b' → Writes s b n b'
  written_as (flattened {N = N} a h) =
      let o = flat N in
      let after = drop (length o) b in
      record {
        short = h.short;
        inside = h.fits;
        fits = omega (arith, h.fits, length-append o after, length-drop (length o) b);
        rest = drop-append_seam o after;
        grows = omega (arith, whole_grows y a.whole, ap (λ (M : Nested). length (flat M)) a.means);
      }

  pub flatten_demanded : {r : Answer} {b' : List ℕ} → FlattenCall s b r b' → FlattenDemands s b r b'
  flatten_demanded {r} {b'} c = record {
    over_limit = λ at. (λ e. over_limit_is (down e).0 refl, λ x. back (rw x.1 (bad_file (too_long x.0))));
    invalid = λ at. (λ e. invalid_is (down e).0 refl, λ o. back (offending_is o));
    roomless = λ at. (λ e. roomless_is (down e).0 refl, λ x. back (without_room x.0 x.1));
    by_field = λ n at i j k. (λ e. by_field_is (down e).0 i j k, λ x. back (bad_field_is x.0 x.1));
    untouched = λ n at e. (down e).1;
    short = λ n e. (done e).short;
    inside = λ n e. (done e).inside;
    fits = λ n e. (done e).fits;
    rest = λ n e. (done e).rest;
    grows = λ n e. (done e).grows;
  }
    where
      down : {n at : ℕ} → r ≡ refusal n at → FlattenRefuses s b n at × (b' ≡ b)
      down e = refused_as (subst (λ x. FlattenCall s b x b') e c)

      back : {n at : ℕ} → FlattenRefuses s b n at → r ≡ refusal n at
      back q = (flatten_unique c (turned_down q)).0

      done : {n : ℕ} → r ≡ written n → Writes s b n b'
      done e = written_as (subst (λ x. FlattenCall s b x b') e c)
