-- The mission's first demand, of a call of normalize with the file s and the lent buffer b, which answers r and leaves the buffer as b'.
use Rattle.std.specs.Prelude.{ℕ, ◌≤◌, ◌≡◌, ◌↔◌, List, length, drop}
use Rattle.meaning.specs.Calls.{Refuses}
use Rattle.normal.specs.Normalizes.{Answer, refusal, written, shorter}

-- that every call returns, for any file and lent buffer, is what it means for `normalize` to be proved with no `requires`
pub record NormalizeDemands (s b : List ℕ) (r : Answer) (b' : List ℕ) : Type 0 where
  -- "a file is turned down only under document 01's conditions, with the number and place fixed there"
  pub turned_down : (n at : ℕ) → (r ≡ refusal n at) ↔ Refuses (shorter s b) s n at
  -- "a refusal leaves every buffer untouched"
  pub untouched : (n at : ℕ) → r ≡ refusal n at → b' ≡ b
  -- what is written is no longer than the file, so it fits in the buffer, and every byte after it is as it was
  pub no_longer : (n : ℕ) → r ≡ written n → n ≤ length s
  pub fits : (n : ℕ) → r ≡ written n → length b' ≡ length b
  pub rest : (n : ℕ) → r ≡ written n → drop n b' ≡ drop n b
