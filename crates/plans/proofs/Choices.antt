-- A small check to make wrong ones of: where the kind of a variable decides, it goes the way that a number names, and is wrong there or right. It judges what is
-- left to judge where a file's fields are in order and the assignment lies in its ranges and meets every rule and constraint. It stands in no contract.
use Rattle.std.specs.Prelude.{Option, Some, None}
use Prim.Native.Nat.{ℕ, zero, suc, ◌+◌}
use mathlib.Core.Bool.{Bool, not, cond, ◌&&◌, ◌||◌}
use mathlib.Core.List.{List, [], ◌∷◌, ◌++◌}
use lib.Dec.{eqb}
use lib.IntN.{ℤ}
use lib.ListN.{length}
use Rattle.walks.specs.Walk.{closed}
use Rattle.program.specs.Tables.{◌⇒◌, select, any_below}
use Rattle.program.specs.Fields.{place}
use Rattle.program.specs.Program.{Program, Rule, program, no_variable, variable_in, rule_in, term_in, term_form}
use Rattle.program.specs.Variables.{is_founded, from_above, swaps, start, not_past, short}
use Rattle.program.specs.Directions.{away, term_direction, is_rising, is_mixed}
use Rattle.program.specs.Evaluate.{larger, smaller, evaluate}
use Rattle.program.specs.Readings.{Valuation, valued, body_variable}
use Rattle.program.specs.Idle.{is_idle}
use Rattle.program.specs.declared.Direction.{Direction}
use Rattle.program.specs.declared.Term.{Term}
use Rattle.program.specs.declared.Variable.{Variable}
use Rattle.meaning.specs.Stable.{assigned}
use Rattle.report.specs.Report.{Entry, entry, bytes_in, bound, bound_mark, ascending, only, conditions_of, asks_most, asks_least}
use Rattle.verdict.specs.Checks.{Answer, refusal, unfounded, stable}

-- ---- the ways

abbrev pub right : ℕ
right = 0

-- in a rule for a head founded from above the literals swap too; no plain term swaps; those of standard variables do not
abbrev pub literals_swapped : ℕ
literals_swapped = 1

abbrev pub plain_not_swapped : ℕ
plain_not_swapped = 2

abbrev pub standard_not_swapped : ℕ
standard_not_swapped = 3

-- a variable founded from above starts at its low
abbrev pub started_low : ℕ
started_low = 4

-- where it falls it is read as assigned
abbrev pub falling_assigned : ℕ
falling_assigned = 5

-- where it falls its condition is `at most`, as if in its own order
abbrev pub most_for_falling : ℕ
most_for_falling = 6

-- where it rises it gives no condition, being in the set
abbrev pub rising_dropped : ℕ
rising_dropped = 7

-- where it falls no edge runs to it; where a variable founded from below falls an edge runs to it
abbrev pub falling_not_joined : ℕ
falling_not_joined = 8

abbrev pub falling_joined : ℕ
falling_joined = 9

-- its bound has mark 0
abbrev pub one_mark : ℕ
one_mark = 10

-- of what two rules give it takes the larger
abbrev pub larger_taken : ℕ
larger_taken = 11

-- a rule for it is idle by its low, as if it were founded from below
abbrev pub idle_by_low : ℕ
idle_by_low = 12

unfoldable pub from_below : List Variable → List Variable
from_below [] = []
from_below (x ∷ xs) = record { kind = cond (from_above x) 1 x.kind; low = x.low; high = x.high } ∷ from_below xs

-- ---- the choices: the last line of each is the specification's

module _ (way : ℕ) where
  -- which way a term pushes, in a rule for the head h; in one for `no_variable` nothing swaps
  abbrev pushes : Variable → ℕ → Variable → Term → Direction
  pushes h form x t =
      select way
      ((literals_swapped ⇒ away h (term_direction no_variable form x t))
      ∷ (plain_not_swapped ⇒ term_direction no_variable form x t)
      ∷ (standard_not_swapped ⇒ cond (is_founded x) (term_direction h form x t) (term_direction no_variable form x t))
      ∷ [])
      (term_direction h form x t)

  -- whether a position of the variable x that pushes so is kept
  abbrev keeps : Variable → Direction → Bool
  keeps x d =
      select way
      ((falling_assigned ⇒ (is_rising d && eqb x.kind 1)) ∷ [])
      (is_rising (away x d) && is_founded x)

  -- whether it gives no condition when x is in the set
  abbrev drops : Variable → Direction → Bool
  drops x d =
      select way
      ((rising_dropped ⇒ (keeps x d || (is_rising d && is_founded x))) ∷ [])
      (keeps x d)

  -- the direction by which it gives one
  abbrev asks : Variable → Direction → Direction
  asks x d =
      select way
      ((most_for_falling ⇒ away x d) ∷ [])
      d

  -- whether an edge runs to it
  abbrev joins : Variable → Direction → Bool
  joins x d =
      select way
      ((falling_not_joined ⇒ ((keeps x d && is_rising d) || is_mixed d))
      ∷ (falling_joined ⇒ (keeps x d || is_mixed d || eqb x.kind 1))
      ∷ [])
      (keeps x d || is_mixed d)

  -- where a founded variable starts, what it takes of two values given, and the mark of its bound
  abbrev begins : Variable → ℤ
  begins x =
      select way
      ((started_low ⇒ x.low) ∷ [])
      (start x)

  abbrev takes : Variable → ℤ → ℤ → ℤ
  takes x a b =
      select way
      ((larger_taken ⇒ larger a b) ∷ [])
      (swaps x (larger a b) (smaller a b))

  abbrev marks : Variable → ℕ
  marks x =
      select way
      ((one_mark ⇒ bound) ∷ [])
      (bound_mark x)

  abbrev idles : List Variable → Rule → Bool
  idles vs r =
      select way
      ((idle_by_low ⇒ is_idle (from_below vs) r) ∷ [])
      (is_idle vs r)

  -- ---- the check

  module _ (P : Program) where
    abbrev at : ℕ → Variable
    at v = variable_in P.variables v

    abbrev direct : Rule → ℕ → Direction
    direct r j = let t = term_in r.terms j in pushes (at r.head) (term_form r.form) (at t.variable) t

    -- validity
    unfoldable pub joined : ℕ → ℕ → Bool
    joined x y = any_below (length P.rules) (λ i. let r = rule_in P.rules i in
        not (idles P.variables r) && (eqb r.head x && any_below (length r.terms) (λ j. eqb (body_variable r j) y && joins (at y) (direct r j))))

    abbrev shares : ℕ → ℕ → Bool
    shares x y = let n = length P.variables in eqb x y || (closed joined n x y && closed joined n y x)

    unfoldable pub offends : Rule → Bool
    offends r = not (idles P.variables r) && any_below (length r.terms) (λ j. is_mixed (direct r j) && shares r.head (body_variable r j))

    -- the least model: each variable takes what its rules give, round by round
    module _ (θ : Valuation) where
      abbrev given : Valuation → Rule → Option ℤ
      given m r = evaluate r (λ j. let x = body_variable r j in cond (keeps (at x) (direct r j)) (m x) (θ x))

      abbrev joint : Variable → Option ℤ → Option ℤ → Option ℤ
      joint x None g = g
      joint x (Some a) None = Some a
      joint x (Some a) (Some b) = Some (takes x a b)

      unfoldable pub demanded : Valuation → ℕ → List Rule → Option ℤ
      demanded m v [] = None
      demanded m v (r ∷ rs) = let rest = demanded m v rs in cond (eqb r.head v) (joint (at v) (given m r) rest) rest

      abbrev lifted : Variable → Option ℤ → ℤ → ℤ
      lifted x None b = b
      lifted x (Some a) b = cond (not_past x a b) b a

      unfoldable pub begun : ℕ → List Variable → List ℤ
      begun v [] = []
      begun v (x ∷ xs) = cond (is_founded x) (begins x) (θ v) ∷ begun (suc v) xs

      unfoldable pub round : List ℤ → ℕ → List Variable → List ℤ
      round ms v [] = []
      round ms v (x ∷ xs) = lifted x (demanded (valued ms) v P.rules) (valued ms v) ∷ round ms (suc v) xs

      unfoldable pub rounds : ℕ → List ℤ → List ℤ
      rounds zero ms = ms
      rounds (suc k) ms = rounds k (round ms 0 P.variables)

      -- the report
      module _ (m : Valuation) where
        abbrev shown : ℕ → Bool
        shown v = short (at v) (θ v) (m v)

        unfoldable pub asked : (Direction → Bool → Bool) → ℕ → Bool
        asked asking v = any_below (length P.rules) (λ i. let r = rule_in P.rules i in
            shown r.head && any_below (length r.terms) (λ j. let d = direct r j in
            eqb (body_variable r j) v && asking (asks (at v) d) (drops (at v) d && shown v)))

        abbrev bounds : List Entry
        bounds = ascending (λ v. only (shown v) (entry v (marks (at v)) (m v))) (length P.variables)

        abbrev conditions : List Entry
        conditions = ascending (conditions_of (asked asks_most) (asked asks_least) θ) (length P.variables)

        abbrev reported : Answer × List ℕ
        reported = cond (any_below (length P.variables) shown) (unfounded (length bounds) (length conditions), bytes_in (bounds ++ conditions)) (stable, [])

  -- refusal 13 for the first of these rules that offends, of which the first has number i
  unfoldable pub refused : List ℕ → Program → ℕ → List Rule → Answer × List ℕ → Answer × List ℕ
  refused s P i [] other = other
  refused s P i (r ∷ rs) other = cond (offends P r) (refusal 13 (place s (length P.variables + i)), []) (refused s P (suc i) rs other)

  -- what it answers for a file s of k fields and an assignment a, and what it writes
  unfoldable pub says : List ℕ → ℕ → List ℕ → Answer × List ℕ
  says s k a =
      let P = program s k in
      let θ = assigned a in
      refused s P 0 P.rules (reported P θ (valued (rounds P θ 8 (begun P θ 0 P.variables))))

unfoldable pub computes : Unit {0}
unfolding from_below joined offends demanded begun round rounds asked refused says
computes = tt
