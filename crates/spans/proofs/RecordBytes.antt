-- The field of a variable.
use Prim.Native.Nat.{ℕ, ◌/◌, ◌%◌, ◌≤◌}
use mathlib.Core.Path.{◌≡◌}
use mathlib.Core.List.{[], ◌∷◌}
use native.Mathlib.Omega.{arith}
use lib.IntN.{ℤ, nat_abs}
use mir.Syntax.{w16, w64}
use mir.Val.{to_z, of_z}
use Rattle.format.specs.Limits.{max_number}
use Rattle.format.specs.Numbers.{bytes_of}
use Rattle.format.proofs.Ints.{back}
use Rattle.program.specs.Encode.{variable_bytes}
use Rattle.program.specs.declared.Variable.{Variable}

-- an end of a range, as it was handed on
pub end_is : (z : ℤ) → nat_abs z ≤ max_number → to_z w64 (of_z w64 z) ≡ z
end_is z h = back z max_number h (omega arith)

pub record_bytes : (x : Variable) {a b c d : ℕ} → a ≡ of_z w16 x.low / 256 → b ≡ of_z w16 x.low % 256 → c ≡ of_z w16 x.high / 256 → d ≡ of_z w16 x.high % 256
    → 1 ∷ 0 ∷ 5 ∷ x.kind ∷ a ∷ b ∷ c ∷ d ∷ [] ≡ variable_bytes x
unfolding bytes_of
record_bytes x e f g h = rw (e, f, g, h)
