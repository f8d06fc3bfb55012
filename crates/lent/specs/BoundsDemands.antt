-- The mission's first demand, of a call of bounds with the file s, the ranges g and the lent buffer b, which answers r and leaves the buffer as b'.
use Rattle.std.specs.Prelude.{ℕ, ◌*◌, ◌≡◌, ◌↔◌, List, length, drop}
use Rattle.program.specs.Program.{Program}
use Rattle.program.specs.Reading.{Accepts}
use Rattle.meaning.specs.Calls.{Refuses}
use Rattle.lent.specs.BoundsCall.{Answer, refusal, bounded, turned}

-- that every call returns, for any file, ranges and lent buffer, is what it means for `bounds` to be proved with no `requires`
pub record BoundsDemands (s g b : List ℕ) (r : Answer) (b' : List ℕ) : Type 0 where
  -- "a file is turned down only under document 01's conditions, with the number and place fixed there"
  pub turned_down : (n at : ℕ) → (r ≡ refusal n at) ↔ Refuses (turned g b) s n at
  -- "a refusal leaves every buffer untouched"
  pub untouched : (n at : ℕ) → r ≡ refusal n at → b' ≡ b
  -- what is written fits in the buffer, and every byte after it is as it was
  pub fits : length b' ≡ length b
  pub rest : {P : Program} → r ≡ bounded → Accepts s P → drop (2 * length P.variables) b' ≡ drop (2 * length P.variables) b
