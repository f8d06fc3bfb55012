-- What the rules of a file ask of the assignment; vs are the file's variables.
use Rattle.std.specs.Prelude.{ℕ, ◌≡◌, List, Bool, ◌||◌, ◌&&◌}
use Rattle.words.specs.Bit.{has}
use Rattle.program.specs.Program.{Rule}
use Rattle.program.specs.declared.Variable.{Variable}
use Rattle.program.specs.declared.Direction.{Direction}
use Rattle.report.specs.Report.{asks_most, asks_least, asked_by}
use Rattle.conditions.specs.declared.asking.Asked.{Asked}

-- which variables are asked, by what a position asks
abbrev pub Asking : Type 0
Asking = (Direction → Bool → Bool) → ℕ → Bool

-- new is old with what p asks
pub record AsksMore (old new : Asked) (p : Asking) : Type 0 where
  pub most : (v : ℕ) → has new.most.words v ≡ (has old.most.words v || p asks_most v)
  pub least : (v : ℕ) → has new.least.words v ≡ (has old.least.words v || p asks_least v)

-- a rule asks where its head is in the set
unfoldable pub asked_into : List Variable → (ℕ → Bool) → Rule → Asking
asked_into vs set r asks v = set r.head && asked_by vs set asks r v
