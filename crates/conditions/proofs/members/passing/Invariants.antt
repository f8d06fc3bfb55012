-- One variable after the other, for any test that computes what is asked.
use mathlib.Core.Path.{◌≡◌}
use mathlib.Core.Bool.{Bool, ◌&&◌}
use Prim.Native.Nat.{ℕ, ◌<◌}
use lib.Dec.{ltb}
use lib.ListN.{length}
use Rattle.words.specs.Bit.{has, word_count}
use Rattle.conditions.proofs.members.passing.Given as goal

abbrev pub invariant-loop-v : goal.invariant-loop-v
invariant-loop-v g l = (length l.words ≡ word_count)
    × ((p : ℕ → Bool) → ((u : ℕ) → u < l.variables → (b : Bool) → goal.F-post g l.passes u b → b ≡ p u) → (u : ℕ) → has l.words u ≡ (ltb u l.v && p u))
