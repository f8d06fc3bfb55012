-- Document 01, "Verdicts and the report": the entries of the report and their bytes.
use Rattle.std.specs.Prelude.{ℕ, zero, suc, ◌+◌, ◌*◌, List, [], ◌∷◌, ◌++◌, Bool, true, false, not, cond, ◌&&◌, eqb, ℤ, length, drop}
use Rattle.format.specs.Numbers.{bytes_of}
use Rattle.program.specs.Tables.{any_below}
use Rattle.program.specs.Program.{Program, Rule, variable_in, rule_in}
use Rattle.program.specs.Variables.{swaps}
use Rattle.program.specs.Directions.{direction}
use Rattle.program.specs.declared.Variable.{Variable}
use Rattle.program.specs.declared.Direction.{Direction}
use Rattle.program.specs.declared.Direction.TheVariants.{Rising, Falling, Mixed}
use Rattle.meaning.specs.Reduct.{system}
use Rattle.meaning.specs.Unfounded.{short}
use Rattle.program.specs.Readings.{Valuation, body_variable, kept}

-- "Report entries have 4 bytes: variable, mark (1), number (2)."
pub record Entry : Type 0 where
  pub variable : ℕ
  pub mark : ℕ
  pub number : ℤ

abbrev pub entry : ℕ → ℕ → ℤ → Entry
entry v k z = record { variable = v; mark = k; number = z }

abbrev pub entry_bytes : Entry → List ℕ
entry_bytes e = e.variable ∷ e.mark ∷ bytes_of e.number

unfoldable pub bytes_in : List Entry → List ℕ
bytes_in [] = []
bytes_in (e ∷ es) = entry_bytes e ++ bytes_in es

-- the marks: a bound, "mark 1 (at most)" and "mark 2 (at least)". Document 02, wish 3, of a variable founded from above: "Its bound entry has mark 3"
abbrev pub bound : ℕ
bound = 0

abbrev pub bound_above : ℕ
bound_above = 3

abbrev pub at_most : ℕ
at_most = 1

abbrev pub at_least : ℕ
at_least = 2

-- "by ascending variable": what each of the first n variables has
unfoldable pub ascending : (ℕ → List Entry) → ℕ → List Entry
ascending f zero = []
ascending f (suc n) = ascending f n ++ f n

-- an entry where the test holds
abbrev pub only : Bool → Entry → List Entry
only b e = cond b (e ∷ []) []

-- a bound's mark, by its variable
abbrev pub bound_mark : Variable → ℕ
bound_mark x = swaps x bound bound_above

-- an entry for each variable of a set, with its value in m; vs are the program's variables
abbrev pub bounds_of : List Variable → (ℕ → Bool) → Valuation → ℕ → List Entry
bounds_of vs set m v = only (set v) (entry v (bound_mark (variable_in vs v)) (m v))

-- "mark 1 (at most) before mark 2 (at least), each with the assigned value and once only"
abbrev pub conditions_of : (ℕ → Bool) → (ℕ → Bool) → Valuation → ℕ → List Entry
conditions_of most least θ v = only (most v) (entry v at_most (θ v)) ++ only (least v) (entry v at_least (θ v))

-- "at most for a rising variable, except a kept one in the set; at least for a falling one; both for a mixed one"; document 02, wish 3: "at most still
-- goes with rising, at least with falling, a kept occurrence in the set gives neither". The second argument says whether the position is kept and its
-- variable in the set
abbrev pub asks_most : Direction → Bool → Bool
asks_most Rising except = not except
asks_most Falling except = false
asks_most Mixed except = true

abbrev pub asks_least : Direction → Bool → Bool
asks_least Rising except = false
asks_least Falling except = not except
asks_least Mixed except = true

-- "They come from the bodies of all rules with a head in the set": some position of such a body has the variable v and asks; vs are the
-- program's variables
module _ (vs : List Variable) (set : ℕ → Bool) (asks : Direction → Bool → Bool) where
  unfoldable pub asked_at : Rule → ℕ → ℕ → Bool
  asked_at r j v = asks (direction vs r j) (kept vs r j && set (body_variable r j)) && eqb (body_variable r j) v

  unfoldable pub asked_by : Rule → ℕ → Bool
  asked_by r v = any_below (length r.terms) (λ j. asked_at r j v)

unfoldable pub asked : Program → (ℕ → Bool) → (Direction → Bool → Bool) → ℕ → Bool
asked P set asks v = any_below (length P.rules) (λ i. set (rule_in P.rules i).head && asked_by P.variables set asks (rule_in P.rules i) v)

-- the report of an assignment θ whose reduct has the least model m
module _ (P : Program) (θ m : Valuation) where
  -- "each founded variable whose least value is below its assigned one"
  abbrev pub shown : ℕ → Bool
  shown = short (system P) θ m

  -- "First, by ascending variable, mark 0: .. with that least value.", or mark 3
  abbrev pub bounds : List Entry
  bounds = ascending (bounds_of P.variables shown m) (length P.variables)

  abbrev pub conditions : List Entry
  conditions = ascending (conditions_of (asked P shown asks_most) (asked P shown asks_least) θ) (length P.variables)

  -- "The conditions begin directly after the last bound entry"; "Bytes after the last entry do not change."
  abbrev pub reported : List ℕ → List ℕ
  reported b = bytes_in (bounds ++ conditions) ++ drop (4 * (length bounds + length conditions)) b
