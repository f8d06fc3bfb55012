-- A body read in values that stand twice: for each variable first what rising positions read of it, then what falling ones do.
use Rattle.std.specs.Prelude.{ℕ, ◌+◌, ◌*◌, List, Bool, not, cond, ◌&&◌, eqb, ℤ, pos}
use Rattle.std.specs.Int.Signed.{lt_z}
use Rattle.format.specs.Limits.{max_variables}
use Rattle.program.specs.Program.{term_in}
use Rattle.program.specs.Readings.{valued}
use Rattle.program.specs.declared.Term.{Term}

abbrev pub sides_length : ℕ
sides_length = 2 * max_variables

-- where the value of variable v stands, for rising positions or for falling ones
abbrev pub side_place : Bool → ℕ → ℕ
side_place falling v = 2 * v + cond falling 1 0

abbrev pub on_side : List ℤ → Bool → ℕ → ℤ
on_side sides falling v = valued sides (side_place falling v)

-- whether a term is read as falling: a literal by its op, a plain one as `side` says, and the other way where it has a negative coefficient; terms are read as of this form
unfoldable pub side_of : ℕ → Bool → Term → Bool
side_of form side t = cond (eqb t.op 0) (cond (eqb form 1 && lt_z t.number (pos 0)) (not side) side) (eqb t.op 2)

-- the value at position i of a body
unfoldable pub sided_reading : List ℤ → ℕ → Bool → List Term → ℕ → ℤ
sided_reading sides form side ts i = on_side sides (side_of form side (term_in ts i)) (term_in ts i).variable
