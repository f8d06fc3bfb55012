-- Document 01, "Reduct and least model": a rule read in two valuations, of which one gives the kept positions of its body their values and
-- the other all else. vs are the program's variables.
use Rattle.std.specs.Prelude.{ℕ, Bool, cond, ◌&&◌, List, ℤ, pos, get_or, Option}
use Rattle.program.specs.Program.{Rule, variable_in, term_in}
use Rattle.program.specs.Variables.{is_founded}
use Rattle.program.specs.Directions.{away, direction, is_rising}
use Rattle.program.specs.Evaluate.{evaluate}
use Rattle.program.specs.declared.Variable.{Variable}

-- a value for each variable, by its number
abbrev pub Valuation : Type 0
Valuation = ℕ → ℤ

-- values held in a list, that of variable v at v; past the last one stands 0
abbrev pub valued : List ℤ → Valuation
valued ms v = get_or ms v (pos 0)

-- the variable at position i of a rule's body
abbrev pub body_variable : Rule → ℕ → ℕ
body_variable r i = (term_in r.terms i).variable

-- "A body variable is kept when it is founded and rising; every other is replaced by its assigned value." Document 02, wish 3: "A body variable is kept
-- when moving it away from its starting end makes the rule demand more"
unfoldable pub kept : List Variable → Rule → ℕ → Bool
kept vs r i = let x = variable_in vs (body_variable r i) in is_rising (away x (direction vs r i)) && is_founded x

-- kept positions are read in m, all others in θ
abbrev pub reading : List Variable → Rule → Valuation → Valuation → ℕ → ℤ
reading vs r m θ i = cond (kept vs r i) (m (body_variable r i)) (θ (body_variable r i))

unfoldable pub gives : List Variable → Rule → Valuation → Valuation → Option ℤ
gives vs r m θ = evaluate r (reading vs r m θ)
