-- The strides of variables, by a list of any numbers.
use Rattle.std.specs.Prelude.{ℕ, cond, ◌&&◌, List, ℤ, pos, nat_abs}
use Rattle.std.specs.Int.Signed.{le_z}
use Rattle.format.specs.Limits.{max_number}
use Rattle.program.specs.Program.{term_in}
use Rattle.program.specs.Readings.{valued}
use Rattle.program.specs.declared.Term.{Term}

-- a number from 1 to the largest of the format is a stride; for any other it is 1
unfoldable pub stride_by : ℤ → ℕ
stride_by a = cond (le_z (pos 1) a && le_z a (pos max_number)) (nat_abs a) 1

-- of variable v
abbrev pub stride_of : List ℤ → ℕ → ℕ
stride_of strides v = stride_by (valued strides v)

-- of position i
abbrev pub stride_at : List ℤ → List Term → ℕ → ℕ
stride_at strides ts i = stride_of strides (term_in ts i).variable
