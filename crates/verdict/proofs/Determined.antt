-- The call check has at most one answer, and leaves the lent report in at most one way.
use Prim.Native.Nat.{ℕ, ◌<◌}
use mathlib.Core.Path.{◌≡◌, refl, ap, subst}
use mathlib.Core.List.{List}
use lib.ListN.{length}
use native.Mathlib.Omega.{arith}
use Rattle.program.specs.Program.{Program}
use Rattle.program.proofs.Promises.{Promises, accepts_promises}
use Rattle.program.proofs.Unique.{accepts_unique}
use Rattle.meaning.specs.Founded.{Least}
use Rattle.meaning.specs.Reduct.{system}
use Rattle.meaning.specs.Stable.{assigned}
use Rattle.meaning.proofs.Theory.{least_unique}
use Rattle.meaning.proofs.Denials.{same_refusal, refused_or_called, lengths_fixed}
use Rattle.meaning.proofs.Determined.{same_outside}
use Rattle.report.specs.Report.{bounds, conditions, reported}
use Rattle.verdict.specs.Checks.{Answer, range, rule, constraint, unfounded, FirstUnmet, Judged, outside, rule_unmet, constraint_unmet, some_shown, is_stable}
use Rattle.verdict.specs.Checks.{check_bytes, Checks, turned_down, judged}
use Rattle.verdict.proofs.Demanded.{never_outside, none_short}
use Rattle.program.specs.Readings.{Valuation}

same_unmet : {Met : ℕ → Type 0} {n i j : ℕ} → FirstUnmet Met n i → FirstUnmet Met n j → i ≡ j
same_unmet {i = i} {j} f g = by (λ h. f.unmet (g.first i h)) (λ h. g.unmet (f.first j h))
  where
    by : (i < j → ⊥) → (j < i → ⊥) → i ≡ j
    by h k = omega arith

-- what an answer and a report afterwards are
abbrev Same : Answer → Answer → List ℕ → List ℕ → Type 0
Same r r' b₁ b₂ = (r ≡ r') × (b₁ ≡ b₂)

module _ {P : Program} (promised : Promises P) {θ : Valuation} where
  -- the least model is one valuation
  one_model : {m m' : Valuation} → Least (system P) θ m → Least (system P) θ m' → m ≡ m'
  one_model l k = λ i v. least_unique l k v i

  judged_unique : {b : List ℕ} {r r' : Answer} {b₁ b₂ : List ℕ} → Judged P θ b r b₁ → Judged P θ b r' b₂ → Same r r' b₁ b₂
  judged_unique (outside o) (outside q) = (ap range (same_outside o q), refl)
  judged_unique (outside o) (rule_unmet w f) = absurd (never_outside w o)
  judged_unique (outside o) (constraint_unmet w h f) = absurd (never_outside w o)
  judged_unique (outside o) (some_shown t l s) = absurd (never_outside t.ranges o)
  judged_unique (outside o) (is_stable st) = absurd (never_outside st.meets.ranges o)
  judged_unique (rule_unmet w f) (outside q) = absurd (never_outside w q)
  judged_unique (rule_unmet w f) (rule_unmet w' g) = (ap rule (same_unmet f g), refl)
  judged_unique (rule_unmet w f) (constraint_unmet w' h g) = absurd (f.unmet (h _ f.among))
  judged_unique (rule_unmet w f) (some_shown t l s) = absurd (f.unmet (t.rules _ f.among))
  judged_unique (rule_unmet w f) (is_stable st) = absurd (f.unmet (st.meets.rules _ f.among))
  judged_unique (constraint_unmet w h f) (outside q) = absurd (never_outside w q)
  judged_unique (constraint_unmet w h f) (rule_unmet w' g) = absurd (g.unmet (h _ g.among))
  judged_unique (constraint_unmet w h f) (constraint_unmet w' k g) = (ap constraint (same_unmet f g), refl)
  judged_unique (constraint_unmet w h f) (some_shown t l s) = absurd (f.unmet (t.constraints _ f.among))
  judged_unique (constraint_unmet w h f) (is_stable st) = absurd (f.unmet (st.meets.constraints _ f.among))
  judged_unique (some_shown t l s) (outside q) = absurd (never_outside t.ranges q)
  judged_unique (some_shown t l s) (rule_unmet w g) = absurd (g.unmet (t.rules _ g.among))
  judged_unique (some_shown t l s) (constraint_unmet w h g) = absurd (g.unmet (t.constraints _ g.among))
  judged_unique {b} (some_shown t l s) (some_shown t' l' s') =
      let e = one_model l l' in
      (ap (λ (m : Valuation). unfounded (length (bounds P θ m)) (length (conditions P θ m))) e, ap (λ (m : Valuation). reported P θ m b) e)
  judged_unique (some_shown t l s) (is_stable st) = absurd (none_short promised st l s.0 s.1)
  judged_unique (is_stable st) (outside q) = absurd (never_outside st.meets.ranges q)
  judged_unique (is_stable st) (rule_unmet w g) = absurd (g.unmet (st.meets.rules _ g.among))
  judged_unique (is_stable st) (constraint_unmet w h g) = absurd (g.unmet (st.meets.constraints _ g.among))
  judged_unique (is_stable st) (some_shown t l s) = absurd (none_short promised st l s.0 s.1)
  judged_unique (is_stable st) (is_stable st') = (refl, refl)

pub checks_unique : {s a b : List ℕ} {r r' : Answer} {b₁ b₂ : List ℕ} → Checks s a b r b₁ → Checks s a b r' b₂ → (r ≡ r') × (b₁ ≡ b₂)
checks_unique {a = a} {b} (turned_down p) (turned_down q) = let e = same_refusal (lengths_fixed check_bytes a b) p q in (cc, refl)
checks_unique (turned_down p) (judged c j) = absurd (refused_or_called p c)
checks_unique (judged c j) (turned_down q) = absurd (refused_or_called q c)
checks_unique {a = a} {b} {r' = r'} {b₂ = b₂} (judged c j) (judged d k) =
    judged_unique (accepts_promises c.accepts) j (subst (λ (Q : Program). Judged Q (assigned a) b r' b₂) (accepts_unique d.accepts c.accepts) k)
