-- One rule after the other: each stands where the one before it ends, and the set takes in the variable of its mixed position.
use Prim.Native.Nat.{ℕ, ◌+◌}
use mathlib.Core.Path.{◌≡◌}
use Rattle.words.specs.Bit.{has}
use Rattle.program.specs.Tables.{any_below}
use Rattle.program.specs.Fields.{place}
use Rattle.program.specs.Program.{variables_at}
use Rattle.validity.specs.Marks.{rule_at, acts_on}
use Rattle.validity.proofs.rules.acting_variables.Given as goal

abbrev pub invariant-loop-i : goal.invariant-loop-i
invariant-loop-i l = (l.at ≡ place l.file (l.n + l.i)) × ((v : ℕ) → has l.found.words v ≡ any_below l.i (λ j. acts_on (variables_at l.file l.n) (rule_at l.file l.n j) v))
