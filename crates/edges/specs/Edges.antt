-- What the code finds of the positions of a rule, rows being a test of two variables.
use Rattle.std.specs.Prelude.{ℕ, ◌<◌, ◌≡◌, List, Bool, ◌||◌, ◌&&◌, length, eqb}
use Rattle.format.specs.Limits.{max_variables}
use Rattle.program.specs.Tables.{any_below}
use Rattle.program.specs.Program.{Rule, term_in}
use Rattle.program.specs.Directions.{direction, is_mixed}
use Rattle.program.specs.Readings.{body_variable, kept}
use Rattle.program.specs.declared.Term.{Term}
use Rattle.program.specs.declared.Variable.{Variable}
use Rattle.positions.specs.Kinds.{direction_of, kind_in, kept_by}
use Rattle.sharing.specs.Sharing.{share_in}

-- r' is r with the edges of e
pub record Grown (r r' e : ℕ → ℕ → Bool) : Type 0 where
  pub is : (a b : ℕ) → a < max_variables → b < max_variables → r' a b ≡ (r a b || e a b)

-- ---- one rule, vs being the file's variables

unfoldable pub any_mixed : List Variable → Rule → Bool
any_mixed vs r = any_below (length r.terms) (λ i. is_mixed (direction vs r i))

-- position i draws an edge: it is kept or mixed
abbrev pub draws_edge : List Variable → Rule → ℕ → Bool
draws_edge vs r i = kept vs r i || is_mixed (direction vs r i)

-- a term is kept or mixed, by the kinds of its rule, of another form than 5; x is its variable
unfoldable pub draws_by : ℕ → ℕ → Variable → Term → Bool
draws_by up down x t = kept_by up down x t || is_mixed (direction_of (kind_in up down t))

-- from x to y
unfoldable pub draws_at : List Variable → Rule → ℕ → ℕ → ℕ → Bool
draws_at vs r i x y = eqb r.head x && (eqb (body_variable r i) y && draws_edge vs r i)

unfoldable pub draws_in : List Variable → Rule → ℕ → ℕ → Bool
draws_in vs r x y = any_below (length r.terms) (λ i. draws_at vs r i x y)

unfoldable pub offends_at : (ℕ → ℕ → Bool) → List Variable → Rule → ℕ → Bool
offends_at t vs r i = is_mixed (direction vs r i) && share_in t r.head (term_in r.terms i).variable

unfoldable pub offends_in : (ℕ → ℕ → Bool) → List Variable → Rule → Bool
offends_in t vs r = any_below (length r.terms) (offends_at t vs r)
