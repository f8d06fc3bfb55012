-- Values that are the same on both sides.
use Rattle.std.specs.Prelude.{ℕ, ◌<◌, ◌≤◌, ◌≡◌, Bool, List, ℤ}
use Rattle.program.specs.Readings.{Valuation}
use Rattle.sided.specs.Sides.{on_side}

-- the first n variables have the values θ on both sides; the others stay
pub record LevelSides (n : ℕ) (θ : Valuation) (sides sides⁺ : List ℤ) : Type 0 where
  pub below : (v : ℕ) → v < n → (falling : Bool) → on_side sides⁺ falling v ≡ θ v
  pub past : (v : ℕ) → n ≤ v → (falling : Bool) → on_side sides⁺ falling v ≡ on_side sides falling v

-- past the first n variables both sides have the values θ
abbrev pub LevelPast : ℕ → Valuation → List ℤ → Type 0
LevelPast n θ sides = (v : ℕ) → n ≤ v → (falling : Bool) → on_side sides falling v ≡ θ v
