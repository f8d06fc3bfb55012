-- How a rule of a file with lent ranges is read from two lists of values, by its mask: one holds the bounds so far and the low ends of standard variables, the
-- other the end at which all other positions are read.
use Rattle.std.specs.Prelude.{ℕ, ◌<◌, ◌≡◌, Bool, true, false, not, cond, ◌&&◌, ◌||◌, List, eqb, ℤ, length, get_or, set}
use Rattle.std.specs.Int.Signed.{lt_z}
use Rattle.words.specs.Bit.{bit}
use Rattle.program.specs.Fields.{value_at, next_at}
use Rattle.program.specs.Program.{Program, Rule, rule_of, variable_in, variables_at, rule_in}
use Rattle.program.specs.Variables.{is_founded, swaps}
use Rattle.program.specs.Directions.{direction, opposite, is_rising, is_mixed}
use Rattle.program.specs.Readings.{Valuation, body_variable, kept}
use Rattle.program.specs.declared.Term.{Term}
use Rattle.program.specs.declared.Variable.{Variable}
use Rattle.positions.specs.Kinds.{direction_of, kind_in, kept_by}
use Rattle.lent.specs.Ranges.{fits}
use Rattle.lent.specs.Lent.{undecided}
use Rattle.run.specs.Running.{free_bit}
use Rattle.ends.specs.declared.masks.Way.{Way}

-- the end of the range of x at which a position that is not read in the model is read
unfoldable pub other_end : Variable → ℤ → ℤ → ℤ
other_end x low high = cond (eqb x.kind 1) low high

-- the end at which lifts of x stop
unfoldable pub stop_end : Variable → ℤ → ℤ → ℤ
stop_end x low high = swaps x high low

-- of each variable
abbrev pub other_ends : List Variable → Valuation → Valuation → Valuation
other_ends vs low high v = other_end (variable_in vs v) (low v) (high v)

abbrev pub stop_ends : List Variable → Valuation → Valuation → Valuation
stop_ends vs low high v = stop_end (variable_in vs v) (low v) (high v)

-- every range of the first n variables fits, or one does not
abbrev pub FitIs : List Variable → Valuation → Valuation → ℕ → Bool → Type 0
FitIs vs low high n true = (v : ℕ) → v < n → fits (variable_in vs v) (low v) (high v) ≡ true
FitIs vs low high n false = (v : ℕ) × (v < n) × (fits (variable_in vs v) (low v) (high v) ≡ false)

-- position i is read in the model: it is kept, or a standard variable falls there
unfoldable pub in_model : List Variable → Rule → ℕ → Bool
in_model vs r i = kept vs r i || (not (is_founded (variable_in vs (body_variable r i))) && is_rising (opposite (direction vs r i)))

-- position i is mixed, and its variable's range is not single
abbrev pub loose_at : List Variable → Valuation → Valuation → Rule → ℕ → Bool
loose_at vs low high r i = is_mixed (direction vs r i) && lt_z (low (body_variable r i)) (high (body_variable r i))

-- what is found of position i
pub record WayIs (vs : List Variable) (low high : Valuation) (r : Rule) (i : ℕ) (w : Way) : Type 0 where
  pub first_is : w.first ≡ in_model vs r i
  pub loose_is : w.loose ≡ loose_at vs low high r i

-- what is found of a term of a rule of another form than 5, plain terms being kept for these kinds
pub record TermWay (vs : List Variable) (low high : Valuation) (up down : ℕ) (t : Term) (w : Way) : Type 0 where
  pub first_is : w.first ≡ (kept_by up down (variable_in vs t.variable) t || (not (is_founded (variable_in vs t.variable)) && is_rising (opposite (direction_of (kind_in up down t)))))
  pub loose_is : w.loose ≡ (is_mixed (direction_of (kind_in up down t)) && lt_z (low t.variable) (high t.variable))

-- the mask of a rule
pub record LentMask (vs : List Variable) (low high : Valuation) (r : Rule) (w : ℕ) : Type 0 where
  pub read : (i : ℕ) → i < length r.terms → bit w i ≡ in_model vs r i
  pub free : bit w free_bit ≡ undecided vs low high r

-- of each of the first n rules
abbrev pub LentMasks : Program → Valuation → Valuation → ℕ → List ℕ → Type 0
LentMasks P low high n masks = (i : ℕ) → i < n → LentMask P.variables low high (rule_in P.rules i) (get_or masks i 0)

-- the rule at this place is entered as rule i, and the next field stands at next
pub record LentEntry (s : List ℕ) (n : ℕ) (low high : Valuation) (at i next : ℕ) (os os' ms ms' : List ℕ) : Type 0 where
  pub next_is : next ≡ next_at s at
  pub placed : os' ≡ set os i at
  pub mask : ℕ
  pub masked : ms' ≡ set ms i mask
  pub mask_is : LentMask (variables_at s n) low high (rule_of (value_at s at)) mask
