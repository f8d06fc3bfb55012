-- The steps of a body's positions where position i is read in `first`, and its aim in `aims`, if bit i of `kept` is set.
use Rattle.std.specs.Prelude.{ℕ, ◌*◌, ◌≡◌, cond, List, ℤ, pos}
use Rattle.words.specs.Bit.{bit}
use Rattle.program.specs.Program.{term_in}
use Rattle.program.specs.Readings.{valued}
use Rattle.program.specs.declared.Term.{Term}
use Rattle.steady.specs.Estimate.{distance, weight}

-- the steps of variable x at position i; a position whose bit is not set stays
unfoldable pub steps_of : ℕ → List ℤ → List ℤ → ℕ → ℕ → ℕ
steps_of kept first aims i x = cond (bit kept i) (distance (valued first x) (valued aims x)) 0

-- the steps of position i
abbrev pub steps_at : ℕ → List ℤ → List ℤ → List Term → ℕ → ℕ
steps_at kept first aims ts i = steps_of kept first aims i (term_in ts i).variable

-- what a position takes of the room, and how far it lifts the sum
abbrev pub Shared : ℕ → ℤ → ℕ → ℕ → ℤ → ℤ → Type 0
Shared room number stride steps taken rise =
    let w = weight room number stride steps in
    (taken ≡ pos (w * stride)) × (rise ≡ pos (w * steps))
