-- A body that is read in two valuations.
use Rattle.std.specs.Prelude.{ℕ, List, Bool, cond, ℤ, ◌*ℤ◌}
use Rattle.words.specs.Bit.{bit}
use Rattle.program.specs.Program.{term_in}
use Rattle.program.specs.Readings.{valued}
use Rattle.program.specs.Evaluate.{larger, smaller}
use Rattle.program.specs.declared.Term.{Term}

-- variable x at position i of a body is read in `first` where bit i of `kept` is set, and in `second` else
abbrev pub read_at : ℕ → List ℤ → List ℤ → ℕ → ℕ → ℤ
read_at kept first second i x = cond (bit kept i) (valued first x) (valued second x)

-- the value at position i of a body
unfoldable pub reading_of : ℕ → List ℤ → List ℤ → List Term → ℕ → ℤ
reading_of kept first second ts i = read_at kept first second i (term_in ts i).variable

-- the larger of two, or the smaller
abbrev pub extreme : Bool → ℤ → ℤ → ℤ
extreme most = cond most larger smaller

-- what a term of a sum adds
abbrev pub weighted : List Term → (ℕ → ℤ) → ℕ → ℤ
weighted ts at i = (term_in ts i).number *ℤ at i
