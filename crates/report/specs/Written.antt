-- A report part of whose entries are written.
use Rattle.std.specs.Prelude.{ℕ, ◌+◌, ◌*◌, ◌≡◌, Bool, not, ◌&&◌, List, ◌++◌, length, take, drop}
use Rattle.format.specs.Limits.{max_variables}
use Rattle.report.specs.Report.{Entry, entry, bytes_in, ascending, only}
use Rattle.program.specs.Program.{variable_in}
use Rattle.program.specs.Variables.{from_above}
use Rattle.program.specs.Readings.{Valuation}
use Rattle.program.specs.declared.Variable.{Variable}

-- the entries of one variable: mark a where the first test holds, then mark b where the second does
abbrev pub marked_of : (ℕ → Bool) → ℕ → (ℕ → Bool) → ℕ → Valuation → ℕ → List Entry
marked_of p a q b m v = only (p v) (entry v a (m v)) ++ only (q v) (entry v b (m v))

-- those of all variables
abbrev pub marked : (ℕ → Bool) → ℕ → (ℕ → Bool) → ℕ → Valuation → List Entry
marked p a q b m = ascending (marked_of p a q b m) max_variables

-- the members of a set that are not founded from above, and those that are; vs are the program's variables
abbrev pub from_below_in : List Variable → (ℕ → Bool) → ℕ → Bool
from_below_in vs set v = set v && not (from_above (variable_in vs v))

abbrev pub from_above_in : List Variable → (ℕ → Bool) → ℕ → Bool
from_above_in vs set v = set v && from_above (variable_in vs v)

-- b' is b with the entries es from entry i on, the next one being entry k
pub record Wrote (es : List Entry) (i k : ℕ) (b b' : List ℕ) : Type 0 where
  pub next : k ≡ i + length es
  pub bytes : b' ≡ take (4 * i) b ++ bytes_in es ++ drop (4 * k) b

-- b' is b with the entries es from its first byte on
abbrev pub Begins : List Entry → List ℕ → List ℕ → Type 0
Begins es b b' = Wrote es 0 (length es) b b'
