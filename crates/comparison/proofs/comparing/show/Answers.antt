-- The report has as many entries as the set and the conditions have variables.
use mathlib.Core.Path.{ap₂}
use Prim.Native.Nat.{◌+◌}
use Rattle.verdict.specs.Checks.{unfounded}
use Rattle.comparison.proofs.comparing.show.Goals as goal

pub returns : goal.returns
returns c = record {
  answer = ap₂ unfounded (ap₂ ◌+◌ c.count-below.ensures c.count-above.ensures) (ap₂ ◌+◌ c.count-most.ensures c.count-least.ensures);
  bytes = c.write_report.ensures;
}
