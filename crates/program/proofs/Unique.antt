-- Reading a file has at most one answer, and an accepted file means one program.
use Prim.Native.Nat.{ℕ, ◌<◌}
use mathlib.Core.Path.{◌≡◌, refl, sym, ap, ◌∙◌, subst}
use mathlib.Core.List.{List}
use native.Mathlib.Omega.{arith}
use lib.ListN.{length}
use Rattle.program.specs.Fields.{place}
use Rattle.program.specs.Program.{Program, program}
use Rattle.program.specs.Refusals.{field_refusal}
use Rattle.program.specs.Components.{Valid, FirstOffending}
use Rattle.program.specs.Reading.{Answer, accepted, refused, Passed, Whole, RuleField, Reads, too_long, bad_field, not_valid, whole, Accepts}
use Rattle.program.proofs.Places.{rule_stands}

pub same_by : (k m : ℕ) → ¬ (k < m) → ¬ (m < k) → k ≡ m
same_by k m h l = omega arith

-- field k meets a refusal, and is the first that does
pub record Bad (s : List ℕ) (k : ℕ) : Type 0 where
  pub passed : Passed s k
  pub stands : place s k < length s
  pub refusal : 0 < field_refusal s k

module _ {s : List ℕ} {k m : ℕ} where
  no_more : Whole s k → Passed s m → ¬ (k < m)
  no_more w p h = omega (arith, p.stands k h, w.ended)

  not_fine : Bad s k → Passed s m → ¬ (k < m)
  not_fine b p h = omega (arith, p.fine k h, b.refusal)

module _ {s : List ℕ} {k m : ℕ} where
  pub whole_unique : Whole s k → Whole s m → k ≡ m
  whole_unique w v = same_by k m (no_more w v.passed) (no_more v w.passed)

  same_bad : Bad s k → Bad s m → k ≡ m
  same_bad b c = same_by k m (not_fine b c.passed) (not_fine c b.passed)

  pub bad_or_whole : Bad s k → Whole s m → ⊥
  bad_or_whole b w = let e : k ≡ m = same_by k m (not_fine b w.passed) (no_more w b.passed) in omega (arith, ap (place s) e, b.stands, w.ended)

-- the first rule that offends
pub first_offending : {P : Program} {i j : ℕ} → FirstOffending P i → FirstOffending P j → i ≡ j
first_offending {i = i} {j} f g = same_by i j (λ h. g.first i h f.offends) (λ h. f.first j h g.offends)

same_rule : {s : List ℕ} {k m i j a b : ℕ} → Whole s k → Whole s m → i < k → RuleField s i a → FirstOffending (program s k) a
    → j < m → RuleField s j b → FirstOffending (program s m) b → i ≡ j
same_rule {s} {k} {m} {i} {j} {a} {b} w v h f x l g y =
    let e : k ≡ m = whole_unique w v in
    let z : a ≡ b = first_offending x (subst (λ (n : ℕ). FirstOffending (program s n) b) (sym e) y) in
    let o = rule_stands w.passed h f in
    let q = rule_stands v.passed l g in
    omega (arith, o.number, q.number, ap (λ (n : ℕ). length (program s n).variables) e)

never_valid : {s : List ℕ} {k m i : ℕ} → Whole s k → Whole s m → FirstOffending (program s k) i → Valid (program s m) → ⊥
never_valid {s} {k} {m} {i} w v x y = subst (λ (n : ℕ). Valid (program s n)) (sym (whole_unique w v)) y i x.offends

pub reads_unique : {s : List ℕ} {a b : Answer} → Reads s a → Reads s b → a ≡ b
reads_unique (too_long h) (too_long l) = refl
reads_unique (too_long h) (bad_field p l r) = absurd (omega (arith, p.short))
reads_unique (too_long h) (not_valid w l f x) = absurd (omega (arith, w.passed.short))
reads_unique (too_long h) (whole w x) = absurd (omega (arith, w.passed.short))
reads_unique (bad_field p h r) (too_long l) = absurd (omega (arith, p.short))
reads_unique {s} (bad_field p h r) (bad_field q l t) =
    ap (λ (k : ℕ). refused (field_refusal s k) (place s k)) (same_bad (record { passed = p; stands = h; refusal = r }) (record { passed = q; stands = l; refusal = t }))
reads_unique (bad_field p h r) (not_valid w l f x) = absurd (bad_or_whole (record { passed = p; stands = h; refusal = r }) w)
reads_unique (bad_field p h r) (whole w x) = absurd (bad_or_whole (record { passed = p; stands = h; refusal = r }) w)
reads_unique (not_valid w h f x) (too_long l) = absurd (omega (arith, w.passed.short))
reads_unique (not_valid w h f x) (bad_field p l r) = absurd (bad_or_whole (record { passed = p; stands = l; refusal = r }) w)
reads_unique {s} (not_valid w h f x) (not_valid v l g y) = ap (λ (j : ℕ). refused 13 (place s j)) (same_rule w v h f x l g y)
reads_unique (not_valid w h f x) (whole v y) = absurd (never_valid w v x y)
reads_unique (whole w x) (too_long l) = absurd (omega (arith, w.passed.short))
reads_unique (whole w x) (bad_field p l r) = absurd (bad_or_whole (record { passed = p; stands = l; refusal = r }) w)
reads_unique (whole w x) (not_valid v l f y) = absurd (never_valid v w y x)
reads_unique {s} (whole w x) (whole v y) =
    ap (λ (k : ℕ). accepted (length (program s k).variables) (length (program s k).rules) (length (program s k).constraints)) (whole_unique w v)

pub accepts_unique : {s : List ℕ} {P Q : Program} → Accepts s P → Accepts s Q → P ≡ Q
accepts_unique {s} a b = sym a.means ∙ ap (program s) (whole_unique a.whole b.whole) ∙ b.means

-- an accepted file is one that reading answers with the counts of its program
abbrev pub counts_of : Program → Answer
counts_of P = accepted (length P.variables) (length P.rules) (length P.constraints)

pub accepts_reads : {s : List ℕ} {P : Program} → Accepts s P → Reads s (counts_of P)
accepts_reads {s} a = subst (λ (Q : Program). Reads s (counts_of Q)) a.means (whole a.whole (subst Valid (sym a.means) a.valid))

pub record Accepted (s : List ℕ) (a b c : ℕ) : Type 0 where
  pub meant : Program
  pub accepts : Accepts s meant
  pub variables_are : length meant.variables ≡ a
  pub rules_are : length meant.rules ≡ b
  pub constraints_are : length meant.constraints ≡ c

pub reads_accepts : {s : List ℕ} {a b c : ℕ} → Reads s (accepted a b c) → Accepted s a b c
reads_accepts {s} (whole {k = k} w x) = record {
  meant = program s k;
  accepts = record { fields = k; whole = w; means = refl; valid = x };
  variables_are = refl;
  rules_are = refl;
  constraints_are = refl;
}
