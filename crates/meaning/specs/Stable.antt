-- Demand 2: "an assignment is called stable exactly when it lies in its ranges, meets every rule and constraint, and is the least solution
-- of its own reduct".
use Rattle.std.specs.Prelude.{ℕ, ◌*◌, ◌<◌, ◌≡◌, true, List, length}
use Rattle.format.specs.Numbers.{signed_at}
use Rattle.program.specs.Program.{Program, rule_in, constraint_in, term_in}
use Rattle.program.specs.Evaluate.{satisfied}
use Rattle.meaning.specs.Founded.{System, GivenNoMore, Within, Least}
use Rattle.meaning.specs.Reduct.{system}
use Rattle.program.specs.Readings.{Valuation, gives}

-- "An assignment gives each variable a two-byte value in number order."
abbrev pub assigned : List ℕ → Valuation
assigned a v = signed_at a (2 * v)

abbrev pub RuleMet : Program → Valuation → ℕ → Type 0
RuleMet P θ i = GivenNoMore (system P) (rule_in P.rules i).head (gives P.variables (rule_in P.rules i) θ θ) (θ (rule_in P.rules i).head)

abbrev pub ConstraintMet : Program → Valuation → ℕ → Type 0
ConstraintMet P θ i = satisfied (constraint_in P.constraints i) (λ j. θ (term_in (constraint_in P.constraints i).terms j).variable) ≡ true

-- every constraint of the program is met
abbrev pub ConstraintsMet : Program → Valuation → Type 0
ConstraintsMet P θ = (i : ℕ) → i < length P.constraints → ConstraintMet P θ i

-- over any rules and constraints
module _ (𝒮 : System) (Constrained : Valuation → Type 0) where
  open 𝒮 use {Rule, In, head, gives}

  -- "it lies in its ranges, meets every rule and constraint"
  pub record MeetsAll (θ : Valuation) : Type 0 where
    pub ranges : Within 𝒮 θ
    pub rules : (r : Rule) → In r → GivenNoMore 𝒮 (head r) (gives r θ θ) (θ (head r))
    pub constraints : Constrained θ

  -- "and is the least solution of its own reduct"
  pub record StableUnder (θ : Valuation) : Type 0 where
    pub meets : MeetsAll θ
    pub least : Least 𝒮 θ θ

-- of a program
abbrev pub Meets : Program → Valuation → Type 0
Meets P = MeetsAll (system P) (ConstraintsMet P)

abbrev pub Stable : Program → Valuation → Type 0
Stable P = StableUnder (system P) (ConstraintsMet P)
