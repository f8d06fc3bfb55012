-- Invariant: the lines of the first i entries are written.
use mathlib.Core.Path.{◌≡◌}
use Prim.Native.Nat.{◌+◌, ◌*◌, ◌-◌, ◌≤◌}
use lib.ListN.{length}
use Rattle.text.specs.Output.{Appends}
use Rattle.entries.specs.Text.{entry_lines, entry_most}
use Rattle.entries.proofs.put_entries.Given as goal

abbrev pub invariant-loop-i : goal.invariant-loop-i
invariant-loop-i l = (length l.output ≡ length l.initial.output) × (l.i ≤ l.count) × (l.next ≤ l.at + entry_most * l.i) × Appends (entry_lines l.report l.i) l.at l.next l.initial.output l.output
