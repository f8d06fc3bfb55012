-- The mission's first demand, of a call of least with the file s, the assignment a and the lent buffer b, which answers r and leaves the buffer
-- as b'.
use Rattle.std.specs.Prelude.{ℕ, ◌≡◌, ◌↔◌, List}
use Rattle.meaning.specs.Calls.{Refuses, lengths}
use Rattle.meaning.specs.LeastCall.{Answer, refusal, found, least_bytes}

-- that every call returns, for any file, assignment and lent buffer, is what it means for `least` to be proved with no `requires`
pub record LeastDemands (s a b : List ℕ) (r : Answer) (b' : List ℕ) : Type 0 where
  -- "a file is turned down only under document 01's conditions, with the number and place fixed there"
  pub turned_down : (n at : ℕ) → (r ≡ refusal n at) ↔ Refuses (lengths least_bytes a b) s n at
  -- "a refusal leaves every buffer untouched"
  pub untouched : (n at : ℕ) → r ≡ refusal n at → b' ≡ b
  -- so does every answer but `found`; document 01: "Only this last case writes"
  pub only_found_writes : (r ≡ found → ⊥) → b' ≡ b
