-- Document 02, wish 2: "A rule is now idle when the most it can give, over all values in the ranges, is at most its head's low, or it can never
-- give anything." Wish 3: "directions, idleness, conditions and bounds follow": where the head is founded from above, the least it can give is at least its high.
use Rattle.std.specs.Prelude.{ℕ, ◌<◌, Bool, cond, List, ℤ, pos, nat_abs, length, T, ltb, Option}
use Rattle.std.specs.Int.Signed.{lt_z}
use Rattle.program.specs.Program.{Program, Rule, variable_in}
use Rattle.program.specs.Variables.{swaps, start, in_range, no_more}
use Rattle.program.specs.Directions.{direction}
use Rattle.program.specs.Evaluate.{evaluate}
use Rattle.program.specs.Readings.{Valuation, body_variable}
use Rattle.program.specs.declared.Direction.{Direction}
use Rattle.program.specs.declared.Direction.TheVariants.{Rising, Falling, Mixed}
use Rattle.program.specs.declared.Variable.{Variable}

-- every variable of the body has a value in its declared range
abbrev pub BodyInRange : Program → Rule → Valuation → Type 0
BodyInRange P r a = (i : ℕ) → i < length r.terms → T (in_range (variable_in P.variables (body_variable r i)) (a (body_variable r i)))

-- whatever these values are, the rule, each position read there, gives nothing or no more than its head's starting end
abbrev pub Idle : Program → Rule → Type 0
Idle P r =
    let x = variable_in P.variables r.head in
    (a : Valuation) → BodyInRange P r a → T (no_more x (evaluate r (λ i. a (body_variable r i))) (start x))

-- ---- a test, by the directions: for every rule of a file whose fields passed it is `Idle` (laws `passed_told` and `passed_test`, proofs/IdleRules.antt)

-- of the values from low to high one that is furthest from 0, and the one that is nearest to 0
unfoldable pub furthest : ℤ → ℤ → ℤ
furthest low high = cond (ltb (nat_abs low) (nat_abs high)) high low

unfoldable pub nearest : ℤ → ℤ → ℤ
nearest low high = cond (lt_z (pos 0) low) low (cond (lt_z high (pos 0)) high (pos 0))

-- the value from low to high at which a position that pushes this way makes a rule with the head h demand most; of a mixed one the size is taken
unfoldable pub demanding : Variable → Direction → ℤ → ℤ → ℤ
demanding h Rising low high = high
demanding h Falling low high = low
demanding h Mixed low high = swaps h (furthest low high) (nearest low high)

-- that value of the variable at position i, every variable x lying between low x and high x; vs are the program's variables
unfoldable pub most_at : List Variable → Rule → Valuation → Valuation → ℕ → ℤ
most_at vs r low high i = let x = body_variable r i in demanding (variable_in vs r.head) (direction vs r i) (low x) (high x)

-- the most that a rule can give in these ranges, in its head's order (laws `most_bounds`, `most_given`)
unfoldable pub most : List Variable → Rule → Valuation → Valuation → Option ℤ
most vs r low high = evaluate r (most_at vs r low high)

-- the ends of the declared ranges
abbrev pub lows : List Variable → Valuation
lows vs x = (variable_in vs x).low

abbrev pub highs : List Variable → Valuation
highs vs x = (variable_in vs x).high

-- the most over the declared ranges is nothing, or no more than the head's starting end
unfoldable pub is_idle : List Variable → Rule → Bool
is_idle vs r = let x = variable_in vs r.head in no_more x (most vs r (lows vs) (highs vs)) (start x)
