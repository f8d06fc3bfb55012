-- Documents 000 (section 3) and 003 (Preliminaries): the reduct's models and the least one, over any rules. A variable is a number and a
-- valuation gives each a value of ℤ. Each variable has an order of its own and a starting end.
use Rattle.std.specs.Prelude.{◌≡◌, not, ℕ, ℤ, T, Option}
use Rattle.program.specs.Variables.{is_founded, not_past, in_range, no_more}
use Rattle.program.specs.Readings.{Valuation}
use Rattle.program.specs.declared.Direction.{Direction}
use Rattle.program.specs.declared.Variable.{Variable}

-- the rules of a program and its variables, as far as the theory reads them
pub record System : Type 1 where
  -- the record of a variable, which has its order, its starting end and its far end
  pub variable : ℕ → Variable
  pub Rule : Type 0
  pub In : Rule → Type 0
  pub head : Rule → ℕ
  -- the variable stands at a position of the rule's body that pushes this way, as seen from the variable's starting end
  pub occurs : Rule → ℕ → Direction → Type 0
  -- what the rule gives, kept positions read in the first valuation and all others in the second
  pub gives : Rule → Valuation → Valuation → Option ℤ

module _ (𝒮 : System) where
  open 𝒮 use {variable, Rule, In, head, gives}

  -- a is at or before b, and a is before b, in the order of the variable v
  pub record AtOrBefore (v : ℕ) (a b : ℤ) : Type 0 where
    pub le : T (not_past (variable v) a b)

  pub record Before (v : ℕ) (a b : ℤ) : Type 0 where
    pub lt : T (not (not_past (variable v) b a))

  -- a head v that has b is given no more
  abbrev pub GivenNoMore : ℕ → Option ℤ → ℤ → Type 0
  GivenNoMore v g b = T (no_more (variable v) g b)

  -- every value lies in its range
  pub record Within (m : Valuation) : Type 0 where
    pub inside : (v : ℕ) → T (in_range (variable v) (m v))

  -- m is a model of the reduct of θ: "The reduct says that each head is at least what its rule gives, kept variables read from the model;
  -- founded values lie in low..high." Standard variables are as assigned. Document 02, wish 3: a rule heading into a variable founded from above "says 'at
  -- most what I give'"
  pub record Model (θ m : Valuation) : Type 0 where
    pub standard : (v : ℕ) → T (not (is_founded (variable v))) → m v ≡ θ v
    pub within : Within m
    pub rules : (r : Rule) → In r → GivenNoMore (head r) (gives r m θ) (m (head r))

  -- m is at or before every model
  pub record Floor (θ m : Valuation) : Type 0 where
    pub under : (m' : Valuation) → Model θ m' → (v : ℕ) → AtOrBefore v (m v) (m' v)

  -- the least model of the reduct of θ
  pub record Least (θ m : Valuation) : Type 0 where
    pub model : Model θ m
    pub floor : Floor θ m

  -- 003: a solution such that there is no other solution, and a variable at which that other comes before it
  pub record Minimal (θ m : Valuation) : Type 0 where
    pub model : Model θ m
    pub none_before : (m' : Valuation) → Model θ m' → (v : ℕ) → Before v (m' v) (m v) → ⊥

  -- 000, section 2: "The minimal solution to a HORN-CP is a solution θ such that there does not exist another solution θ' with ∀v ∈ V,
  -- θ'(v) ≤ θ(v)." A solution at or before it everywhere is no other one
  pub record MinimalEverywhere (θ m : Valuation) : Type 0 where
    pub model : Model θ m
    pub no_other : (m' : Valuation) → Model θ m' → ((v : ℕ) → AtOrBefore v (m' v) (m v)) → (v : ℕ) → m' v ≡ m v
