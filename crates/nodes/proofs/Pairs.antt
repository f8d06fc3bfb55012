-- Bytes of which two are taken off the front.
use Prim.Native.Nat.{ℕ, ◌<◌}
use mathlib.Core.Path.{◌≡◌, refl}
use mathlib.Core.List.{List, [], ◌∷◌, ◌++◌}
use native.Mathlib.Omega.{arith}
use lib.ListN.{length, get_or}

-- two bytes, and those after them
pub pair_and : (node rest : List ℕ) → length node ≡ 2 → node ++ rest ≡ get_or node 0 0 ∷ get_or node 1 0 ∷ rest
pair_and [] rest h = absurd (let f : ⊥ = omega arith in f)
pair_and (a ∷ []) rest h = absurd (let f : ⊥ = omega arith in f)
pair_and (a ∷ b ∷ []) rest h = refl
pair_and (a ∷ b ∷ c ∷ xs) rest h = absurd (let f : ⊥ = omega arith in f)

-- what is said of no byte and of one holds where no two are left
pub none_left : {A : Type 0} (f : List ℕ → A) (e : A) → f [] ≡ e → ((a : ℕ) → f (a ∷ []) ≡ e) → (rest : List ℕ) → length rest < 2 → f rest ≡ e
none_left f e none one [] k = none
none_left f e none one (a ∷ []) k = one a
none_left f e none one (a ∷ b ∷ rest) k = absurd (let f : ⊥ = omega arith in f)
