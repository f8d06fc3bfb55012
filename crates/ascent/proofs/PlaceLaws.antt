-- The places of values that stand on two sides, and one value or two stored there.
use Prim.Native.Nat.{ℕ, zero, suc, ◌*◌, ◌<◌, ◌≤◌}
use mathlib.Core.Path.{◌≡◌, refl, sym, ◌∙◌}
use mathlib.Core.Bool.{Bool, true, false, not, true≢false}
use mathlib.Core.List.{List}
use native.Mathlib.Omega.{arith}
use lib.IntN.{ℤ, pos}
use lib.ListN.{length, set, length-set}
use lib.Seq.{get_or-set_same, get_or-set_other}
use Rattle.format.specs.Limits.{max_variables}
use Rattle.sided.specs.Sides.{sides_length, side_place, on_side}

-- ---- places

pub not_other : (b : Bool) → not b ≡ b → ⊥
not_other true e = true≢false (sym e)
not_other false e = true≢false e

-- every place is that of one side of one variable
pub side_of_lem : (p : ℕ) → (v : ℕ) × (b : Bool) × (p ≡ side_place b v)
side_of_lem zero = (0, false, refl)
side_of_lem (suc zero) = (0, true, refl)
side_of_lem (suc (suc p)) = let q = side_of_lem p in (suc q.0, q.1, omega (arith, q.2))

place_once : (b c : Bool) (v h : ℕ) → side_place b v ≡ side_place c h → (v ≡ h) × (b ≡ c)
place_once true true v h e = (omega arith, refl)
place_once true false v h e = let f : ⊥ = omega arith in absurd f
place_once false true v h e = let f : ⊥ = omega arith in absurd f
place_once false false v h e = (omega arith, refl)

-- one side of one variable is set
module _ (sides : List ℤ) (c : Bool) (h : ℕ) (a : ℤ) where
  pub set_same : side_place c h < length sides → on_side (set sides (side_place c h) a) c h ≡ a
  set_same l = get_or-set_same sides (side_place c h) a (pos 0) l

  pub set_other : (b : Bool) (v : ℕ) → (v ≡ h → b ≡ c → ⊥) → on_side (set sides (side_place c h) a) b v ≡ on_side sides b v
  set_other b v n = get_or-set_other sides (side_place c h) (side_place b v) a (pos 0) (λ e. let q = place_once b c v h e in n q.0 q.1)

-- a place of a declared variable
pub place_few : (c : Bool) (h : ℕ) {n k : ℕ} → h < n → 2 * n ≤ k → side_place c h < k
place_few true h l m = omega arith
place_few false h l m = omega arith

-- ---- both values of a variable are stored

abbrev pub both : List ℤ → Bool → ℕ → ℤ → ℤ → List ℤ
both sides f v a b = set (set sides (side_place f v) a) (side_place (not f) v) b

module _ (sides : List ℤ) (e : length sides ≡ sides_length) (f : Bool) (v : ℕ) (a b : ℤ) where
  abbrev once : List ℤ
  once = set sides (side_place f v) a

  few : (g : Bool) → v < max_variables → {n : ℕ} → n ≡ sides_length → side_place g v < n
  few g l q = place_few g v l (omega arith)

  pub both_own : v < max_variables → on_side (both sides f v a b) f v ≡ a
  both_own l = set_other once (not f) v b f v (λ p q. not_other f (sym q)) ∙ set_same sides f v a (few f l e)

  pub both_other : v < max_variables → on_side (both sides f v a b) (not f) v ≡ b
  both_other l = set_same once (not f) v b (few (not f) l (length-set sides (side_place f v) a ∙ e))

  pub both_else : (u : ℕ) → (u ≡ v → ⊥) → (g : Bool) → on_side (both sides f v a b) g u ≡ on_side sides g u
  both_else u n g = set_other once (not f) v b g u (λ p q. n p) ∙ set_other sides f v a g u (λ p q. n p)
