-- Invariant: the lines of the first v variables are written.
use mathlib.Core.Path.{◌≡◌}
use Prim.Native.Nat.{◌*◌, ◌-◌, ◌≤◌}
use lib.ListN.{length}
use Rattle.program.specs.Program.{variables_at}
use Rattle.text.specs.Output.{Appends}
use Rattle.entries.specs.Text.{entry_most}
use Rattle.listing.specs.Lists.{bound_lines}
use Rattle.listing.proofs.put_bounds.Given as goal

abbrev pub invariant-loop-v : goal.invariant-loop-v
invariant-loop-v l = (length l.output ≡ length l.initial.output) × (l.v ≤ l.n) × (l.next ≤ entry_most * l.v) × Appends (bound_lines (variables_at l.file l.n) l.bounds l.v) 0 l.next l.initial.output l.output
