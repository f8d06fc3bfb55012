-- Invariant: the entries of all variables below `from` are written; the next variable is the least that either set has.
use mathlib.Core.Path.{◌≡◌}
use Prim.Native.Nat.{◌-◌, ◌≤◌}
use lib.ListN.{length}
use Rattle.format.specs.Limits.{max_variables}
use Rattle.words.specs.Bit.{has}
use Rattle.report.specs.Report.{ascending}
use Rattle.report.specs.Written.{marked_of, Wrote}
use Rattle.program.specs.Readings.{valued}
use Rattle.report.proofs.writing.write_marked.Given as goal

abbrev pub invariant-loop-v : goal.invariant-loop-v
invariant-loop-v l = (l.from ≤ max_variables) × (length l.report ≡ length l.initial.report)
    × Wrote (ascending (marked_of (has l.first.words) l.mark (has l.second.words) l.other (valued l.values)) l.from) 0 l.i l.initial.report l.report

abbrev pub decreases-loop-v : goal.decreases-loop-v
decreases-loop-v l = max_variables - l.from
