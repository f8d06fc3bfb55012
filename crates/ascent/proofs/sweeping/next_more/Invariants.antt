-- Invariant: the rules from i to before k are met.
use Prim.Native.Nat.{ℕ, ◌<◌, ◌≤◌}
use mathlib.Core.Path.{◌≡◌}
use Rattle.program.specs.Program.{Program}
use Rattle.program.specs.Reading.{Accepts}
use Rattle.program.specs.Readings.{Valuation}
use Rattle.meaning.specs.Reduct.{Reckoning}
use Rattle.reader.specs.Parts.{rule_place}
use Rattle.run.specs.Running.{RuleMetIn}
use Rattle.sided.specs.Reached.{risen}
use Rattle.ascent.specs.Ascending.{AllReadOn}
use Rattle.ascent.proofs.sweeping.next_more.Given as goal

abbrev pub invariant-loop-k : goal.invariant-loop-k
invariant-loop-k l = (l.i ≤ l.k) × (l.k ≤ l.rules) × ((P : Program) → Accepts l.file P → l.place ≡ rule_place l.file P l.k)
    × ((P : Program) (R : Reckoning) (θ : Valuation) → Accepts l.file P → AllReadOn P R θ l.stops l.full l.sides → (j : ℕ) → l.i ≤ j → j < l.k → RuleMetIn P R θ (risen P.variables l.sides) j)
