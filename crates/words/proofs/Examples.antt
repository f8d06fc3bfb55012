-- Wrong sets, refuted on samples of four words.
use Rattle.std.specs.Prelude.{None}
use Prim.Native.Nat.{ℕ, ◌≤◌}
use mathlib.Core.Path.{◌≡◌, sym}
use mathlib.Core.Bool.{◌||◌, true≢false}
use mathlib.Core.List.{List, [], ◌∷◌}
use lib.Dec.{eqb, lit<, lit≤}
use Rattle.words.specs.Bit.{bit, has, NextIs}

-- the set of 0 alone, and the empty one
abbrev one : List ℕ
one = 1 ∷ 0 ∷ 0 ∷ 0 ∷ []

abbrev none : List ℕ
none = 0 ∷ 0 ∷ 0 ∷ 0 ∷ []

-- a search from 0 that starts one later finds nothing in the set of 0
pub not_started_late : NextIs (has one) 0 256 None → ⊥
unfolding has bit
not_started_late h = true≢false (h 0 (lit≤ tt) (lit< tt))

-- 0 put into the set of 0: a bit that is toggled leaves the empty set
pub not_toggled : ((i : ℕ) → has none i ≡ (eqb i 0 || has one i)) → ⊥
unfolding has bit
not_toggled h = true≢false (sym (h 0))

-- the union of the set of 0 and the empty one: what both have is nothing
pub not_the_meet : ((i : ℕ) → has none i ≡ (has one i || has none i)) → ⊥
unfolding has bit
not_the_meet h = true≢false (sym (h 0))
