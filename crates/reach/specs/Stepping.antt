-- Document 02, wish 5: one round over lent sets, whatever they hold.
use Rattle.std.specs.Prelude.{ℕ, ◌*◌, ◌<◌, ◌≤◌, ◌≡◌, Bool, true, false, ◌||◌, ◌&&◌, List, ltb, length}
use Rattle.format.specs.Limits.{max_variables}
use Rattle.words.specs.Bit.{word_count}
use Rattle.reach.specs.Rows.{row_has}

-- the lent words have a set for each of so many variables
pub record Lent (ws : List ℕ) (variables : ℕ) : Type 0 where
  pub few : variables ≤ max_variables
  pub room : word_count * variables ≤ length ws

-- each set of so many variables that has k has taken in that of k; every other word is as it was
pub record TakenIn (ws ws' : List ℕ) (variables k : ℕ) : Type 0 where
  pub long : length ws' ≡ length ws
  pub is : (a b : ℕ) → b < max_variables → row_has ws' a b ≡ (row_has ws a b || (ltb a variables && (row_has ws a k && row_has ws k b)))

-- a step's answer, whether k is one of so many variables that have sets, and the words afterwards
pub data Steps (ws : List ℕ) (variables k : ℕ) : Bool → List ℕ → Type 0 where
  stepped : {ws' : List ℕ} → Lent ws variables → k < variables → TakenIn ws ws' variables k → Steps ws variables k true ws'
  no_round : (Lent ws variables → k < variables → ⊥) → Steps ws variables k false ws
