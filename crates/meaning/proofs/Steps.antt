-- One head is raised: how far the values still can go.
use Prim.Native.Nat.{ℕ, zero, suc, ◌+◌, ◌<◌, ◌≤◌}
use mathlib.Core.Path.{◌≡◌}
use mathlib.Core.Logic.{◌⊎◌}
use mathlib.Core.Bool.{not}
use mathlib.Core.List.{List, [], ◌∷◌}
use native.Mathlib.Omega.{arith}
use lib.Dec.{T}
use lib.IntN.{ℤ, pos}
use lib.ListN.{length, get_or, set}
use Rattle.program.specs.Program.{variable_in}
use Rattle.program.specs.Readings.{Valuation}
use Rattle.program.specs.declared.Variable.{Variable}
use Rattle.program.specs.Variables.{far, not_past}
use Rattle.program.proofs.Variables.{to_far, nearer}

-- m⁺ is m with h at a
abbrev pub Raised : Valuation → Valuation → ℕ → ℤ → Type 0
Raised m m⁺ h a = (v : ℕ) → (m⁺ v ≡ m v) ⊎ ((h ≡ v) × (m⁺ v ≡ a))

-- how far the values are from the far ends, in all
abbrev pub gap : List Variable → List ℤ → ℕ
gap [] xs = 0
gap (x ∷ vs) [] = 0
gap (x ∷ vs) (z ∷ zs) = to_far x z + gap vs zs

-- a raise within the range brings them nearer
pub gap_raised : (vs : List Variable) (zs : List ℤ) (h : ℕ) (a : ℤ) → h < length vs → length vs ≤ length zs → T (not (not_past (variable_in vs h) a (get_or zs h (pos 0))))
    → T (not_past (variable_in vs h) a (far (variable_in vs h))) → gap vs (set zs h a) < gap vs zs
gap_raised [] zs h a k l n t = let f : ⊥ = omega arith in absurd f
gap_raised (x ∷ vs) [] h a k l n t = let f : ⊥ = omega arith in absurd f
gap_raised (x ∷ vs) (z ∷ zs) zero a k l n t = omega (arith, nearer x z a n t)
gap_raised (x ∷ vs) (z ∷ zs) (suc h) a k l n t = omega (arith, gap_raised vs zs h a (omega arith) (omega arith) n t)
