-- The founded variables whose value in the model comes before their assigned one, one variable after the other.
use Prim.Native.Nat.{ℕ, ◌≤◌}
use mathlib.Core.Path.{◌≡◌, refl, sym, ap, ◌∙◌}
use mathlib.Core.Bool.{Bool, true, false, not, ◌&&◌, and-true, and-false}
use mathlib.Core.List.{List}
use native.Mathlib.Omega.{arith}
use lib.Dec.{ltb}
use lib.ListN.{get_or-eq_default}
use borrow.Author.Tests.{ltb-true, ltb-false}
use Rattle.program.specs.Tables.{any_below}
use Rattle.program.specs.Program.{no_variable, variable_in, variables_at}
use Rattle.program.proofs.Conditions.{none_below}
use Rattle.report.specs.Written.{from_below_in, from_above_in}
use Rattle.program.specs.Variables.{from_above}
use Rattle.program.specs.Readings.{Valuation}
use Rattle.program.specs.declared.Variable.{Variable}
use Rattle.reader.proofs.Published.{variables_length}
use Rattle.conditions.specs.Shortfall.{short_in, part_in}

module _ (s : List ℕ) (n : ℕ) (θ m : Valuation) where
  -- past the last variable stands a standard one
  short_past : (v : ℕ) → n ≤ v → short_in (variables_at s n) θ m v ≡ false
  short_past v h = rw (get_or-eq_default (variables_at s n) no_variable {n = v} (omega (arith, variables_length s n)))

  pub short_all : {r : ℕ → Bool} → ((v : ℕ) → r v ≡ (ltb v n && short_in (variables_at s n) θ m v)) → (v : ℕ) → r v ≡ short_in (variables_at s n) θ m v
  short_all h v = h v ∙ go (ltb v n) refl
    where
      go : (t : Bool) → ltb v n ≡ t → (t && short_in (variables_at s n) θ m v) ≡ short_in (variables_at s n) θ m v
      go true q = refl
      go false q = sym (short_past v (ltb-false v n q))

-- ---- the parts of a set

module _ (above : Bool) (vs : List Variable) (set : ℕ → Bool) where
  pub part_all : {n : ℕ} {r : ℕ → Bool} → ((v : ℕ) → n ≤ v → set v ≡ false) → ((v : ℕ) → r v ≡ (ltb v n && part_in above vs set v)) → (v : ℕ) → r v ≡ part_in above vs set v
  part_all {n} past h v = h v ∙ go (ltb v n) refl
    where
      none : (a : Bool) → set v ≡ false → part_in a vs set v ≡ false
      none true e = rw e
      none false e = rw e

      go : (t : Bool) → ltb v n ≡ t → (t && part_in above vs set v) ≡ part_in above vs set v
      go true q = refl
      go false q = sym (none above (past v (ltb-false v n q)))

-- where no variable is founded from above, a set is its own first part
module _ (s : List ℕ) (n : ℕ) (set : ℕ → Bool) (none : any_below n (λ v. from_above (variable_in (variables_at s n) v)) ≡ false) where
  not_above : (v : ℕ) → from_above (variable_in (variables_at s n) v) ≡ false
  not_above v = go (ltb v n) refl
    where
      go : (t : Bool) → ltb v n ≡ t → from_above (variable_in (variables_at s n) v) ≡ false
      go true q = none_below n (λ u. from_above (variable_in (variables_at s n) u)) none v (ltb-true v n q)
      go false q = rw (get_or-eq_default (variables_at s n) no_variable {n = v} (omega (arith, variables_length s n, ltb-false v n q)))

  pub whole_below : (v : ℕ) → set v ≡ from_below_in (variables_at s n) set v
  whole_below v = sym (ap (λ (b : Bool). set v && not b) (not_above v) ∙ and-true (set v))

  pub none_above : {r : ℕ → Bool} → ((v : ℕ) → r v ≡ false) → (v : ℕ) → r v ≡ from_above_in (variables_at s n) set v
  none_above h v = h v ∙ sym (ap (λ (b : Bool). set v && b) (not_above v) ∙ and-false (set v))
