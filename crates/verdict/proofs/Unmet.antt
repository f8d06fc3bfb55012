-- A call that is not turned down is judged. Where not every rule is met its verdict is `rule`, and where every rule is met and not every constraint it is
-- `constraint`, with nothing written.
use Prim.Native.Nat.{ℕ, ◌<◌}
use mathlib.Core.Path.{◌≡◌, refl, subst}
use mathlib.Core.List.{List}
use lib.ListN.{length}
use Rattle.program.specs.Program.{Program}
use Rattle.program.specs.Readings.{Valuation}
use Rattle.program.proofs.Unique.{accepts_unique}
use Rattle.meaning.specs.Founded.{Within}
use Rattle.meaning.specs.Reduct.{system}
use Rattle.meaning.specs.Stable.{assigned, RuleMet, ConstraintsMet}
use Rattle.meaning.specs.Calls.{Called, lengths}
use Rattle.meaning.proofs.Denials.{refused_or_called}
use Rattle.verdict.specs.Checks.{Answer, rule, constraint, Judged, outside, rule_unmet, constraint_unmet, some_shown, is_stable}
use Rattle.verdict.specs.Checks.{check_bytes, Checks, turned_down, judged}
use Rattle.verdict.proofs.Demanded.{never_outside}

pub called_judged : {s a b : List ℕ} {P : Program} {r : Answer} {b' : List ℕ} → Called (lengths check_bytes a b) s P → Checks s a b r b' → Judged P (assigned a) b r b'
called_judged c (turned_down p) = absurd (refused_or_called p c)
called_judged {a = a} {b} {r = r} {b'} c (judged d j) = subst (λ R. Judged R (assigned a) b r b') (accepts_unique d.accepts c.accepts) j

-- every rule of the program is met
abbrev pub RulesMet : Program → Valuation → Type 0
RulesMet P θ = (j : ℕ) → j < length P.rules → RuleMet P θ j

module _ {P : Program} {θ : Valuation} (w : Within (system P) θ) {b : List ℕ} where
  pub rule_judged : {r : Answer} {b' : List ℕ} → (RulesMet P θ → ⊥) → Judged P θ b r b' → ((j : ℕ) × (r ≡ rule j)) × (b' ≡ b)
  rule_judged n (outside o) = absurd (never_outside w o)
  rule_judged n (rule_unmet v f) = ((_, refl), refl)
  rule_judged n (constraint_unmet v met f) = absurd (n met)
  rule_judged n (some_shown t l s) = absurd (n t.rules)
  rule_judged n (is_stable t) = absurd (n t.meets.rules)

  pub constraint_judged : {r : Answer} {b' : List ℕ} → RulesMet P θ → (ConstraintsMet P θ → ⊥) → Judged P θ b r b' → ((j : ℕ) × (r ≡ constraint j)) × (b' ≡ b)
  constraint_judged met n (outside o) = absurd (never_outside w o)
  constraint_judged met n (rule_unmet v f) = absurd (f.unmet (met _ f.among))
  constraint_judged met n (constraint_unmet v h f) = ((_, refl), refl)
  constraint_judged met n (some_shown t l s) = absurd (n t.constraints)
  constraint_judged met n (is_stable t) = absurd (n t.meets.constraints)
