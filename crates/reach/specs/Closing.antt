-- Rows closed one by one: what each of them reaches over edges, the other rows being as they were.
use Rattle.std.specs.Prelude.{ℕ, ◌<◌, ◌≡◌, Bool, true, false}
use Rattle.format.specs.Limits.{max_variables}
use Rattle.walks.specs.Walk.{Walk}

-- i reaches j over one edge or more, every stop between being one of so many variables
abbrev pub ReachedIn : (ℕ → ℕ → Bool) → ℕ → ℕ → ℕ → Type 0
ReachedIn e variables i j = (k : ℕ) × (k < variables) × Walk e k i j

-- r' is r where each row that meets p holds exactly the variables that it reaches over the rows of r
pub record Closed (r r' : ℕ → ℕ → Bool) (variables : ℕ) (p : ℕ → Bool) : Type 0 where
  pub others : (a b : ℕ) → p a ≡ false → b < max_variables → r' a b ≡ r a b
  pub sound : (x j : ℕ) → p x ≡ true → j < max_variables → r' x j ≡ true → ReachedIn r variables x j
  pub whole : (x j : ℕ) → p x ≡ true → j < variables → ReachedIn r variables x j → r' x j ≡ true
