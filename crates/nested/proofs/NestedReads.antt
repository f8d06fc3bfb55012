-- A nested file is accepted or turned down, never both, and in one way.
use Prim.Native.Nat.{ℕ, zero, suc, ◌+◌, ◌<◌, ◌≤◌}
use mathlib.Core.Path.{◌≡◌, refl, sym, ap, ◌∙◌, subst}
use mathlib.Core.Bool.{Bool, true, false}
use mathlib.Core.List.{List}
use native.Mathlib.Omega.{arith}
use lib.Dec.{leb, ltb}
use lib.ListN.{length}
use borrow.Author.Tests.{leb-true, leb-false, ltb-true, ltb-false}
use Rattle.format.specs.Limits.{max_file}
use Rattle.program.specs.Fields.{place}
use Rattle.program.specs.Program.{Program}
use Rattle.program.specs.Components.{Valid, FirstOffending}
use Rattle.program.specs.Reading.{RuleField}
use Rattle.program.proofs.Places.{rules_to, variables_to, place_least, rule_stands, rule_at_is}
use Rattle.program.proofs.Unique.{same_by, first_offending}
use Rattle.program.proofs.Total.{Search, first_is, no_rule_is, searched}
use Rattle.nested.specs.Nested.{Nested, nested}
use Rattle.nested.specs.Flatten.{flatten}
use Rattle.nested.specs.TreeRefusals.{nested_refusal}
use Rattle.nested.specs.NestedReading.{NestedPassed, NestedWhole, NestedAccepts, NestedRefuses, too_long, bad_field, not_valid}
use Rattle.nested.proofs.PassedFine.{Standing, nested_none, nested_more, standing, passed_fine}
use Rattle.nested.proofs.FlatProper.{flatten_promises}
use Rattle.nested.proofs.OldRules.{old_offends}

-- ---- the field that ends the reading

-- field k meets a refusal, and is the first that does
record Bad (s : List ℕ) (k : ℕ) : Type 0 where
  passed : NestedPassed s k
  stands : place s k < length s
  refusal : 0 < nested_refusal s k

module _ {s : List ℕ} {k m : ℕ} where
  no_more : NestedWhole s k → NestedPassed s m → ¬ (k < m)
  no_more w p h = omega (arith, p.stands k h, w.ended)

  not_fine : Bad s k → NestedPassed s m → ¬ (k < m)
  not_fine b p h = omega (arith, p.fine k h, b.refusal)

module _ {s : List ℕ} {k m : ℕ} where
  pub whole_unique : NestedWhole s k → NestedWhole s m → k ≡ m
  whole_unique w v = same_by k m (no_more w v.passed) (no_more v w.passed)

  same_bad : Bad s k → Bad s m → k ≡ m
  same_bad b c = same_by k m (not_fine b c.passed) (not_fine c b.passed)

  bad_or_whole : Bad s k → NestedWhole s m → ⊥
  bad_or_whole b w = let e : k ≡ m = same_by k m (not_fine b w.passed) (no_more w b.passed) in omega (arith, ap (place s) e, b.stands, w.ended)

-- ---- rules stand in the plain part of a nested file

module _ {s : List ℕ} {k : ℕ} (o : Standing s k) where
  -- where rule i stands
  pub rule_place_is : {j i : ℕ} → j < k → RuleField s j i → j ≡ variables_to s o.plain + i
  rule_place_is {j} {i} h f = go (ltb j o.plain) refl
    where
      go : (t : Bool) → ltb j o.plain ≡ t → j ≡ variables_to s o.plain + i
      go true e = (rule_stands o.passed (ltb-true j o.plain e) f).number
      go false e = let t = (o.treed j (ltb-false j o.plain e) h).1 in absurd (omega (arith, f.tagged))

  pub rule_found : (i : ℕ) → i < rules_to s k → (j : ℕ) × (j < k) × RuleField s j i
  rule_found i h =
      let r = rule_at_is {i = i} o.passed (subst (λ (P : Program). i < length P.rules) o.means h) in
      (variables_to s o.plain + i, omega (arith, r.before, o.before), r.field)

-- ---- one way

module _ {s : List ℕ} where
  pub nested_accepts_unique : {N M : Nested} → NestedAccepts s N → NestedAccepts s M → N ≡ M
  nested_accepts_unique a b = sym a.means ∙ ap (nested s) (whole_unique a.whole b.whole) ∙ b.means

  same_rule : {k m i j a b : ℕ} → NestedWhole s k → NestedWhole s m → i < k → RuleField s i a → FirstOffending (flatten (nested s k)) a
      → j < m → RuleField s j b → FirstOffending (flatten (nested s m)) b → i ≡ j
  same_rule {k} {m} {i} {j} {a} {b} w v h f x l g y =
      let e : k ≡ m = whole_unique w v in
      let z : a ≡ b = first_offending x (subst (λ (n : ℕ). FirstOffending (flatten (nested s n)) b) (sym e) y) in
      let o = standing k w.passed in
      omega (arith, rule_place_is o h f, rule_place_is o {j = j} {i = b} (omega arith) g)

  pub same_refusal : {n m at to : ℕ} → NestedRefuses s n at → NestedRefuses s m to → (n ≡ m) × (at ≡ to)
  same_refusal (too_long h) (too_long l) = (refl, refl)
  same_refusal (too_long h) (bad_field p l r) = absurd (omega (arith, p.short))
  same_refusal (too_long h) (not_valid w l f x) = absurd (omega (arith, w.passed.short))
  same_refusal (bad_field p h r) (too_long l) = absurd (omega (arith, p.short))
  same_refusal (bad_field p h r) (bad_field q l t) =
      let e = same_bad (record { passed = p; stands = h; refusal = r }) (record { passed = q; stands = l; refusal = t }) in
      (ap (nested_refusal s) e, ap (place s) e)
  same_refusal (bad_field p h r) (not_valid w l f x) = absurd (bad_or_whole (record { passed = p; stands = h; refusal = r }) w)
  same_refusal (not_valid w h f x) (too_long l) = absurd (omega (arith, w.passed.short))
  same_refusal (not_valid w h f x) (bad_field p l r) = absurd (bad_or_whole (record { passed = p; stands = l; refusal = r }) w)
  same_refusal (not_valid w h f x) (not_valid v l g y) = (refl, ap (place s) (same_rule w v h f x l g y))

  pub refused_or_accepted : {n at : ℕ} {N : Nested} → NestedRefuses s n at → NestedAccepts s N → ⊥
  refused_or_accepted (too_long h) a = omega (arith, a.whole.passed.short)
  refused_or_accepted (bad_field p h r) a = bad_or_whole (record { passed = p; stands = h; refusal = r }) a.whole
  refused_or_accepted (not_valid {k} {j} {i} w h f x) a =
      let e : nested s k ≡ _ = ap (nested s) (whole_unique w a.whole) ∙ a.means in
      subst (λ M. Valid (flatten M)) (sym e) a.valid i x.offends

-- ---- and always

pub data NestedRead (s : List ℕ) : Type 0 where
  refused : {n at : ℕ} → NestedRefuses s n at → NestedRead s
  accepted : {N : Nested} → NestedAccepts s N → NestedRead s

module _ (s : List ℕ) where
  at_end : {k : ℕ} → NestedWhole s k → Search (flatten (nested s k)) (length (flatten (nested s k)).rules) → NestedRead s
  at_end {k} w (first_is {i = i} f) =
      let r = rule_found (standing k w.passed) i (old_offends (passed_fine w.passed) f.offends) in
      refused (not_valid w r.1 r.2 f)
  at_end {k} w (no_rule_is clear) = accepted {N = nested s k} (record { fields = k; whole = w; means = refl; valid = λ i o. clear i o.among o })

  ended : {k : ℕ} → NestedPassed s k → length s ≤ place s k → NestedRead s
  ended p h = at_end (record { passed = p; ended = h }) (searched (flatten_promises (passed_fine p)))

  -- enough turns are left: a field takes a byte at least
  from : (turns k : ℕ) → length s ≤ k + turns → NestedPassed s k → NestedRead s
  from zero k h p = ended p (omega (arith, place_least s k))
  from (suc turns) k h p = go (from turns (suc k) (omega arith)) (leb (length s) (place s k)) refl (nested_refusal s k) refl
    where
      go : (NestedPassed s (suc k) → NestedRead s) → (t : Bool) → leb (length s) (place s k) ≡ t → (n : ℕ) → nested_refusal s k ≡ n → NestedRead s
      go later true e n f = ended p (leb-true (length s) (place s k) e)
      go later false e zero f = later (nested_more p (leb-false (length s) (place s k) e) f)
      go later false e (suc n) f = refused (bad_field p (leb-false (length s) (place s k) e) (omega arith))

  pub nested_read : NestedRead s
  nested_read = go (leb (length s) max_file) refl
    where
      go : (t : Bool) → leb (length s) max_file ≡ t → NestedRead s
      go true e = from (length s) 0 (omega arith) (nested_none s (leb-true (length s) max_file e))
      go false e = refused (too_long (leb-false (length s) max_file e))
