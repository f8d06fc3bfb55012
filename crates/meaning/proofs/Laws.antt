-- What the theory assumes of a system, that its directions are right; and what holds in every system, by the laws of a variable's order.
use Rattle.std.specs.Prelude.{Option, Some, None}
use mathlib.Core.Path.{◌≡◌}
use mathlib.Core.Bool.{cond}
use Prim.Native.Nat.{ℕ}
use lib.IntN.{ℤ}
use Rattle.program.specs.declared.Direction.{Direction}
use Rattle.program.specs.declared.Direction.TheVariants.{Rising, Falling, Mixed}
use Rattle.meaning.specs.Founded.{System, AtOrBefore, Before, Within}
use Rattle.program.specs.Readings.{Valuation}
use Rattle.program.specs.Variables.{is_founded, start, far}
use Rattle.program.proofs.Variables.{past_refl, past_trans, past_antisym, past_total, start_first, far_last, between}

module _ (𝒮 : System) where
  open 𝒮 use {variable, Rule, In, head, occurs, gives}

  -- the first gives no more than the second
  abbrev pub NoMore : ℕ → Option ℤ → Option ℤ → Type 0
  NoMore v None h = Unit {0}
  NoMore v (Some a) None = ⊥
  NoMore v (Some a) (Some b) = AtOrBefore 𝒮 v a b

  -- at a position of this direction, the first two valuations push the rule no further than the last two
  abbrev pub Less : ℕ → Direction → Valuation → Valuation → Valuation → Valuation → Type 0
  Less x Rising m θ m' θ' = AtOrBefore 𝒮 x (cond (is_founded (variable x)) (m x) (θ x)) (cond (is_founded (variable x)) (m' x) (θ' x))
  Less x Falling m θ m' θ' = AtOrBefore 𝒮 x (θ' x) (θ x)
  Less x Mixed m θ m' θ' = θ x ≡ θ' x

  pub record Laws : Type 0 where
    pub mono : (r : Rule) → In r → (m θ m' θ' : Valuation) → Within 𝒮 m → Within 𝒮 θ → Within 𝒮 m' → Within 𝒮 θ'
        → ((x : ℕ) (d : Direction) → occurs r x d → Less x d m θ m' θ') → NoMore (head r) (gives r m θ) (gives r m' θ')

module _ {𝒮 : System} where
  open 𝒮 use {variable}

  pub at_refl : (v : ℕ) (a : ℤ) → AtOrBefore 𝒮 v a a
  at_refl v a = record { le = past_refl (variable v) a }

  pub at_trans : {v : ℕ} {a b c : ℤ} → AtOrBefore 𝒮 v a b → AtOrBefore 𝒮 v b c → AtOrBefore 𝒮 v a c
  at_trans {v} {a} {b} {c} h k = record { le = past_trans (variable v) a b c h.le k.le }

  pub at_antisym : {v : ℕ} {a b : ℤ} → AtOrBefore 𝒮 v a b → AtOrBefore 𝒮 v b a → a ≡ b
  at_antisym {v} {a} {b} h k = past_antisym (variable v) a b h.le k.le

  pub before_at : {v : ℕ} {a b : ℤ} → Before 𝒮 v a b → AtOrBefore 𝒮 v a b
  before_at {v} {a} {b} h = record { le = past_total (variable v) a b h.lt }

  -- a value in its range lies between the variable's ends, in its order
  pub from_start : {m : Valuation} → Within 𝒮 m → (v : ℕ) → AtOrBefore 𝒮 v (start (variable v)) (m v)
  from_start {m} w v = record { le = start_first (variable v) (m v) (w.inside v) }

  pub to_far_is : {m : Valuation} → Within 𝒮 m → (v : ℕ) → AtOrBefore 𝒮 v (m v) (far (variable v))
  to_far_is {m} w v = record { le = far_last (variable v) (m v) (w.inside v) }

  pub within_ends : {m : Valuation} → ((v : ℕ) → AtOrBefore 𝒮 v (start (variable v)) (m v)) → ((v : ℕ) → AtOrBefore 𝒮 v (m v) (far (variable v))) → Within 𝒮 m
  within_ends {m} l h = record { inside = λ v. between (variable v) (m v) (l v).le (h v).le }
