use Prim.Native.Nat.{◌≤◌}
use mathlib.Core.Path.{◌≡◌}
use lib.ListN.{length}
use Rattle.tables.specs.Tabled.{row_words}
use Rattle.program.specs.Evaluable.{Small}
use Rattle.guess.proofs.live.keep_live.Given as goal

abbrev pub invariant-loop-i : goal.invariant-loop-i
invariant-loop-i l = (length l.live ≡ row_words) × Small l.tops × (l.i ≤ l.source.counts.rules)
