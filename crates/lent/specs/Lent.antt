-- Document 02, wish 7: "Work out how far each founded variable can still be lifted from its declared starting end, until no rule lifts further: kept variables
-- are read at the bounds so far, others at the end of their range that demands most; a mixed one not yet single lets the head reach its far end. A lift stops
-- at the far end of the head's range." A file with lent ranges is a system of its own, and the bounds are its least model. Every variable v has the range from
-- low v to high v; which way a position pushes, and whether it is kept, go by the declared ranges, as in the reduct.
use Rattle.std.specs.Prelude.{ℕ, Bool, cond, ◌&&◌, List, ℤ, length, Option, Some}
use Rattle.std.specs.Int.Signed.{lt_z}
use Rattle.program.specs.Tables.{any_below}
use Rattle.program.specs.Program.{Program, Rule, variable_in, rule_in}
use Rattle.program.specs.Variables.{swaps, far, cut_off}
use Rattle.program.specs.Directions.{direction, is_mixed}
use Rattle.program.specs.Evaluate.{evaluate}
use Rattle.program.specs.Readings.{Valuation, body_variable, kept}
use Rattle.program.specs.Idle.{most_at}
use Rattle.program.specs.declared.Variable.{Variable}
use Rattle.meaning.specs.Founded.{Least}
use Rattle.meaning.specs.Reduct.{Reckoning, reckoned}

-- "from its declared starting end", to "the far end of the head's range": the variable with these two ends
unfoldable pub lent_variable : Variable → ℤ → ℤ → Variable
lent_variable x low high = record { kind = x.kind; low = swaps x x.low low; high = swaps x high x.high }

-- vs are the program's variables
module _ (vs : List Variable) (low high : Valuation) where
  abbrev pub lent_in : ℕ → Variable
  lent_in v = lent_variable (variable_in vs v) (low v) (high v)

  -- "kept variables are read at the bounds so far", in m, "others at the end of their range that demands most"
  abbrev pub lent_reading : Rule → Valuation → ℕ → ℤ
  lent_reading r m i = cond (kept vs r i) (m (body_variable r i)) (most_at vs r low high i)

  -- "a mixed one not yet single" stands in the rule's body
  unfoldable pub undecided : Rule → Bool
  undecided r = any_below (length r.terms) (λ i. is_mixed (direction vs r i) && lt_z (low (body_variable r i)) (high (body_variable r i)))

  -- it "lets the head reach its far end"; else what the rule gives "stops at the far end of the head's range"
  unfoldable pub lent_gives : Rule → Valuation → Option ℤ
  lent_gives r m =
      let h = lent_in r.head in
      cond (undecided r) (Some (far h)) (cut_off h (far h) (evaluate r (lent_reading r m)))

-- the program with lent ranges
abbrev pub lent : Program → Valuation → Valuation → Reckoning
lent P low high = record {
  variable = lent_in P.variables low high;
  gives = λ i m θ. lent_gives P.variables low high (rule_in P.rules i) m;
}

-- m are the bounds: "until no rule lifts further"; standard variables are "as their range's low"
abbrev pub Bounds : Program → Valuation → Valuation → Valuation → Type 0
Bounds P low high m = Least (reckoned P (lent P low high)) low m
