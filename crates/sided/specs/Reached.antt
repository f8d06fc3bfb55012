-- What stands on the two sides: for each variable the value that it has reached, where the positions that are kept read it, and another beside it.
use Rattle.std.specs.Prelude.{ℕ, ◌≡◌, Bool, true, false, not, cond, List, T, eqb, ℤ, pos, Option}
use Rattle.std.specs.Int.Signed.{le_z}
use Rattle.program.specs.Program.{Rule, term_form, variable_in}
use Rattle.program.specs.Variables.{is_founded, from_above}
use Rattle.program.specs.Evaluate.{evaluate}
use Rattle.program.specs.Readings.{Valuation, body_variable}
use Rattle.program.specs.declared.Direction.{Direction}
use Rattle.program.specs.declared.Direction.TheVariants.{Rising, Falling, Mixed}
use Rattle.program.specs.declared.Variable.{Variable}
use Rattle.sided.specs.Sides.{on_side, sided_reading}

-- whether the value that x has reached stands where falling positions read: of a variable founded from below it stands where rising ones do
unfoldable pub own_side : Variable → Bool
own_side x = not (eqb x.kind 1)

-- the values reached, vs being the program's variables
unfoldable pub risen : List Variable → List ℤ → Valuation
risen vs sides v = on_side sides (own_side (variable_in vs v)) v

-- standard variables have the values θ, and beside the values reached stand the others
pub record Sided (vs : List Variable) (θ others : Valuation) (sides : List ℤ) : Type 0 where
  pub other : (v : ℕ) → on_side sides (not (own_side (variable_in vs v))) v ≡ others v
  pub standard : (v : ℕ) → T (not (is_founded (variable_in vs v))) → risen vs sides v ≡ θ v

-- ---- on which side a position is read

-- a position that pushes this way, `above` telling whether its variable is founded from above; a mixed one is read beside the value reached
abbrev pub side_for : Direction → Bool → Bool
side_for Rising above = false
side_for Falling above = true
side_for Mixed above = not above

-- the variable x of a size, by its range, `above` telling whether the head is founded from above: as the head says, the other way, or, where it is mixed, beside
unfoldable pub size_side : Variable → Bool → Bool
size_side x above = cond (le_z (pos 0) x.low) above (cond (le_z x.high (pos 0)) (not above) (not (from_above x)))

-- h is the head of a rule whose terms are read as of this form, x the variable of its first term
unfoldable pub plain_side : ℕ → Variable → Variable → Bool
plain_side form h x = cond (eqb form 5) (size_side x (from_above h)) (from_above h)

-- the side of the plain terms of a rule
abbrev pub rule_side : List Variable → Rule → Bool
rule_side vs r = plain_side (term_form r.form) (variable_in vs r.head) (variable_in vs (body_variable r 0))

-- what a rule gives, each position read on its side
abbrev pub sided_gives : List Variable → List ℤ → Rule → Option ℤ
sided_gives vs sides r = evaluate r (sided_reading sides (term_form r.form) (rule_side vs r) r.terms)
