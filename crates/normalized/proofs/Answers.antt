-- Alike programs of two accepted files: for every assignment and every lent report the check answers the same for both, but for the number of an unmet rule or
-- constraint, and leaves the same bytes; the call least answers the same and leaves the same bytes.
use Prim.Native.Nat.{ℕ, ◌+◌, ◌*◌}
use mathlib.Core.Path.{◌≡◌, sym, subst, subst₂}
use mathlib.Core.List.{List, ◌++◌}
use lib.Dec.{T}
use lib.ListN.{length, drop}
use Rattle.program.specs.Program.{Program}
use Rattle.program.specs.Reading.{Accepts}
use Rattle.program.specs.Readings.{Valuation}
use Rattle.meaning.specs.Founded.{Least}
use Rattle.meaning.specs.Reduct.{system}
use Rattle.meaning.specs.Stable.{assigned, Meets}
use Rattle.meaning.specs.Calls.{Called, lengths}
use Rattle.meaning.specs.LeastCall.{LeastCall}
use Rattle.meaning.specs.LeastCall as least
use Rattle.meaning.proofs.SameModels.{meant, within_over, outside_over, least_over, refused_over, called_over, least_same}
use Rattle.report.specs.Report.{Entry, bytes_in, shown, bounds, conditions, reported}
use Rattle.verdict.specs.Checks.{Answer, unfounded, Judged, outside, rule_unmet, constraint_unmet, some_shown, is_stable}
use Rattle.verdict.specs.Checks.{check_bytes, Checks, turned_down, judged}
use Rattle.verdict.proofs.Determined.{checks_unique}
use Rattle.verdict.proofs.Unmet.{called_judged, rule_judged, constraint_judged}
use Rattle.normal.proofs.Alike.{AlikePrograms}
use Rattle.normal.proofs.AlikeValid.{alike_back}
use Rattle.normalized.specs.Unchanged.{SameButNumbers, same, rules, constraints}
use Rattle.normalized.proofs.Meanings.{rules-over, constraints-over, meets-over, models-alike, stable-alike, bounds_alike, conditions-alike}

-- the set that one file's check shows is what the other's shows
shown-over : {P Q : Program} → AlikePrograms P Q → {θ m : Valuation} (b : List ℕ) → Meets P θ → Least (system P) θ m → (v : ℕ) × T (shown P θ m v)
    → Judged Q θ b (unfounded (length (bounds P θ m)) (length (conditions P θ m))) (reported P θ m b)
shown-over {P} {Q} al {θ} {m} b t l n =
    subst₂ (λ (bs cs : List Entry). Judged Q θ b (unfounded (length bs) (length cs)) (bytes_in (bs ++ cs) ++ drop (4 * (length bs + length cs)) b))
    (bounds_alike al θ m) (conditions-alike al θ m)
    (some_shown (meets-over al t) (least_over P Q al.variables (models-alike al θ) l) (n.0, rw al.variables n.1))

module _ {s s' : List ℕ} {P Q : Program} (x : Accepts s P) (y : Accepts s' Q) (al : AlikePrograms P Q) (a b : List ℕ) where
  abbrev Begins : Program → Type 0
  Begins = Called (lengths check_bytes a b) s

  -- the second file's check has one answer
  given : {r r' : Answer} {b₁ b₂ : List ℕ} → Checks s' a b r b₁ → Checks s' a b r' b₂ → SameButNumbers r r' × (b₁ ≡ b₂)
  given {r} p q = let e = checks_unique p q in (subst (SameButNumbers r) e.0 same, e.1)

  judged_alike : {r r' : Answer} {b₁ b₂ : List ℕ} → Begins P → Judged P (assigned a) b r b₁ → Checks s' a b r' b₂ → SameButNumbers r r' × (b₁ ≡ b₂)
  judged_alike c (outside o) q = given (judged (called_over x y al.variables check_bytes a b c) (outside (outside_over P Q al.variables o))) q
  judged_alike {r} c (rule_unmet w f) q =
      let d = called_judged (called_over x y al.variables check_bytes a b c) q in
      let u = rule_judged (within_over P Q al.variables w) (λ met. f.unmet (rules-over (alike_back al) (assigned a) (assigned a) met _ f.among)) d in
      (subst (SameButNumbers r) (sym u.0.1) rules, sym u.1)
  judged_alike {r} c (constraint_unmet w met f) q =
      let d = called_judged (called_over x y al.variables check_bytes a b c) q in
      let u = constraint_judged (within_over P Q al.variables w) (rules-over al (assigned a) (assigned a) met)
      (λ h. f.unmet (constraints-over (alike_back al) (assigned a) h _ f.among)) d in
      (subst (SameButNumbers r) (sym u.0.1) constraints, sym u.1)
  judged_alike c (some_shown t l n) q = given (judged (called_over x y al.variables check_bytes a b c) (shown-over al b t l n)) q
  judged_alike c (is_stable t) q = given (judged (called_over x y al.variables check_bytes a b c) (is_stable ((stable-alike al (assigned a)).0 t))) q

  pub alike-checked : {r r' : Answer} {b₁ b₂ : List ℕ} → Checks s a b r b₁ → Checks s' a b r' b₂ → SameButNumbers r r' × (b₁ ≡ b₂)
  alike-checked (turned_down p) q = given (turned_down (refused_over x y al.variables check_bytes a b p)) q
  alike-checked {r} {r'} {b₁} {b₂} (judged c j) q =
      meant (λ R. Begins R → Judged R (assigned a) b r b₁ → SameButNumbers r r' × (b₁ ≡ b₂)) x c.accepts (λ d k. judged_alike d k q) c j

  pub alike-least : {r r' : least.Answer} {b₁ b₂ : List ℕ} → LeastCall s a b r b₁ → LeastCall s' a b r' b₂ → (r ≡ r') × (b₁ ≡ b₂)
  alike-least = least_same x y al.variables (λ θ w. models-alike al θ) a b
