-- Which positions of a rule are kept, by the kind of the variable there.
use Rattle.std.specs.Prelude.{ℕ, ◌≡◌, List, [], ◌∷◌, Bool, true, false, cond, ◌&&◌, eqb, pos}
use Rattle.std.specs.Int.Signed.{lt_z}
use Rattle.program.specs.Tables.{◌⇒◌, select}
use Rattle.program.specs.Program.{Rule, term_form, variable_in}
use Rattle.program.specs.Variables.{is_founded}
use Rattle.program.specs.Directions.{away}
use Rattle.program.specs.declared.Direction.{Direction}
use Rattle.program.specs.declared.Direction.TheVariants.{Rising, Falling, Mixed}
use Rattle.program.specs.declared.Term.{Term}
use Rattle.program.specs.declared.Variable.{Variable}
use Rattle.positions.specs.declared.kinds.Kinds.{Kinds}

-- the kind of the variables that are kept where they push this way, 0 for none
abbrev pub kind_of : Direction → ℕ
kind_of Rising = 1
kind_of Falling = 2
kind_of Mixed = 0

-- the direction of a term, by the kind that is kept there
abbrev pub direction_of : ℕ → Direction
direction_of k = cond (eqb k 1) Rising (cond (eqb k 2) Falling Mixed)

-- the kind that is kept at a plain term of a rule for h, whose terms are read as this form, other than 5, by the sign of the term's number
unfoldable pub plain_kind : Variable → ℕ → Bool → ℕ
plain_kind h form negative =
    kind_of (away h (select form ((1 ⇒ cond negative Falling Rising) ∷ (2 ⇒ Rising) ∷ (3 ⇒ Rising) ∷ (4 ⇒ Rising) ∷ (7 ⇒ Rising) ∷ []) Mixed))

-- the kind that is kept at a term, plain terms being kept for these kinds; a literal's is its op
unfoldable pub kind_in : ℕ → ℕ → Term → ℕ
kind_in up down t = cond (eqb t.op 0) (cond (lt_z t.number (pos 0)) down up) t.op

-- x, the variable of a term, is kept
unfoldable pub kept_by : ℕ → ℕ → Variable → Term → Bool
kept_by up down x t = eqb x.kind (kind_in up down t) && is_founded x

-- the kinds at the plain terms of a rule of another form than 5, vs being the program's variables
pub record KindsOf (vs : List Variable) (r : Rule) (k : Kinds) : Type 0 where
  pub other : r.form ≡ 5 → ⊥
  pub up_is : k.up ≡ plain_kind (variable_in vs r.head) (term_form r.form) false
  pub down_is : k.down ≡ plain_kind (variable_in vs r.head) (term_form r.form) true
