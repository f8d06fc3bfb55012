-- Document 01: "Two variables share a component when they are the same or each reaches the other." What sets say of components, t being the test that
-- the sets make: t x y says that the set of x has y.
use Rattle.std.specs.Prelude.{ℕ, ◌<◌, ◌≤◌, ◌≡◌, Bool, true, false, ◌||◌, ◌&&◌, List, eqb, length, get_or}
use Rattle.reach.specs.Rows.{row_has}
use Rattle.reach.specs.Stepping.{Lent}

unfoldable pub share_in : (ℕ → ℕ → Bool) → ℕ → ℕ → Bool
share_in t x y = eqb x y || (t x y && t y x)

-- y is the first variable that shares x's component
pub record FirstSharing (t : ℕ → ℕ → Bool) (x y : ℕ) : Type 0 where
  pub shares : share_in t x y ≡ true
  pub first : (z : ℕ) → z < y → share_in t x z ≡ false

-- byte x is the first variable of x's component, for each of so many variables; every other byte is as it was
pub record Named (t : ℕ → ℕ → Bool) (variables : ℕ) (b b' : List ℕ) : Type 0 where
  pub long : length b' ≡ length b
  pub is : (x : ℕ) → x < variables → FirstSharing t x (get_or b' x 0)
  pub rest : (x : ℕ) → variables ≤ x → get_or b' x 0 ≡ get_or b x 0

-- what the call components answers for the sets ws of so many variables and the lent buffer b, and the buffer afterwards: whether there are so
-- many sets, and a byte for each
pub data Names (ws : List ℕ) (variables : ℕ) (b : List ℕ) : Bool → List ℕ → Type 0 where
  named : {b' : List ℕ} → Lent ws variables → variables ≤ length b → Named (row_has ws) variables b b' → Names ws variables b true b'
  no_room : (Lent ws variables → variables ≤ length b → ⊥) → Names ws variables b false b
