-- The mission's first demand, of a call of begin with the file s and the lent words w, which answers r and leaves the words as w'.
use Rattle.std.specs.Prelude.{ℕ, ◌≡◌, ◌↔◌, List}
use Rattle.search.specs.BeginCall.{Answer, refusal, TurnedDown}

-- that every call returns, for any file and lent words, is what it means for `begin` to be proved with no `requires`
pub record BeginDemands (s w : List ℕ) (r : Answer) (w' : List ℕ) : Type 0 where
  -- "a file is turned down only under document 01's conditions, with the number and place fixed there"
  pub turned_down : (n at : ℕ) → (r ≡ refusal n at) ↔ TurnedDown s w n at
  -- "a refusal leaves every buffer untouched"
  pub untouched : (n at : ℕ) → r ≡ refusal n at → w' ≡ w
