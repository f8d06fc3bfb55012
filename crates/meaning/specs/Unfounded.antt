-- Demand 3, over any rules: "An unfounded set is a non-empty set of founded variables, each with a bound from its lowest value to one below
-- its assigned value, where no rule heading into the set gives more than its head's bound. Such a rule is read with founded variables of
-- the set at their bounds where they push it up, and all else as assigned." Document 02, wish 3, has low and high, above and below, more and less
-- swap for variables founded from above, and "its set's variables are read at their bounds where kept": `AtOrBefore` goes by each variable's order.
use Rattle.std.specs.Prelude.{Bool, not, cond, ℕ, T}
use Rattle.program.specs.declared.Direction.{Direction}
use Rattle.program.specs.declared.Direction.TheVariants.{Rising, Falling, Mixed}
use Rattle.meaning.specs.Founded.{System, AtOrBefore, Before, GivenNoMore}
use Rattle.program.specs.Readings.{Valuation}
use Rattle.program.specs.Variables.{is_founded, start}
use Rattle.program.specs.Variables as variables

-- the bounds in the set, θ elsewhere
abbrev pub over : (ℕ → Bool) → Valuation → Valuation → Valuation
over dom bound θ v = cond (dom v) (bound v) (θ v)

module _ (𝒮 : System) where
  open 𝒮 use {variable, Rule, In, head, occurs, gives}

  pub record Unfounded (θ : Valuation) (dom : ℕ → Bool) (bound : Valuation) : Type 0 where
    pub some : (v : ℕ) × T (dom v)
    pub are : (v : ℕ) → T (dom v) → T (is_founded (variable v))
    pub from_start : (v : ℕ) → T (dom v) → AtOrBefore 𝒮 v (start (variable v)) (bound v)
    pub before : (v : ℕ) → T (dom v) → Before 𝒮 v (bound v) (θ v)
    pub rules : (r : Rule) → In r → T (dom (head r)) → GivenNoMore 𝒮 (head r) (gives r (over dom bound θ) θ) (bound (head r))

  -- the variables that m leaves short of θ
  abbrev pub short : Valuation → Valuation → ℕ → Bool
  short θ m v = variables.short (variable v) (θ v) (m v)

  -- what a position of a body asks of θ': "at most for a rising variable, except a kept one in the set; at least for a falling one; both for
  -- a mixed one", in the variable's order, the direction being seen from its starting end. Document 02, wish 3, has it in plain numbers: "at most still
  -- goes with rising, at least with falling, a kept occurrence in the set gives neither", which is the same
  abbrev pub AskedOf : Valuation → (ℕ → Bool) → Valuation → ℕ → Direction → Type 0
  AskedOf θ dom θ' x Rising = T (not (dom x)) → AtOrBefore 𝒮 x (θ' x) (θ x)
  AskedOf θ dom θ' x Falling = AtOrBefore 𝒮 x (θ x) (θ' x)
  AskedOf θ dom θ' x Mixed = AtOrBefore 𝒮 x (θ' x) (θ x) × AtOrBefore 𝒮 x (θ x) (θ' x)

  -- θ' meets the conditions of every rule heading into the set
  abbrev pub Conditions : Valuation → (ℕ → Bool) → Valuation → Type 0
  Conditions θ dom θ' = (r : Rule) → In r → T (dom (head r)) → (x : ℕ) (d : Direction) → occurs r x d → AskedOf θ dom θ' x d
