-- Values on the way to the least model of a reckoning, kept for each variable on two sides: where the positions that are kept read it the value that it has
-- reached, beside it the one at which all others read it. The reduct is one reckoning, in which these read the assignment; a file with lent ranges is another.
use Rattle.std.specs.Prelude.{ℕ, ◌<◌, ◌≤◌, ◌≡◌, ◌⊎◌, Bool, true, false, not, cond, List, T, ℤ, nat_abs, length, set, Option, Some, None, Result, Ok, Err}
use Rattle.format.specs.Limits.{max_number}
use Rattle.program.specs.Program.{Program, rule_in, variable_in}
use Rattle.program.specs.Reading.{Accepts}
use Rattle.program.specs.Readings.{Valuation, valued}
use Rattle.program.specs.Variables.{is_founded, from_above, far, not_past, cut_off, started}
use Rattle.program.specs.declared.Variable.{Variable}
use Rattle.reader.specs.Parts.{rule_place}
use Rattle.meaning.specs.Founded.{AtOrBefore, Within}
use Rattle.meaning.specs.Narrowing.{Narrows}
use Rattle.meaning.specs.Reduct.{Reckoning, reckoned}
use Rattle.meaning.proofs.Laws.{Laws}
use Rattle.meaning.proofs.Theory.{Progress}
use Rattle.sided.specs.Sides.{side_place, on_side}
use Rattle.sided.specs.Reached.{own_side, risen, Sided, sided_gives}
use Rattle.run.specs.Running.{head_of, RuleMetIn, Exceeds, RuleStands, EndsWith}
use Rattle.ascent.specs.declared.sweeping.Next.{Next}
use Rattle.ascent.specs.declared.sweeping.Next.TheVariants as next
use Rattle.run.specs.declared.NoModel.{NoModel}

-- ---- one rule

-- what is given to the head x: with `full` no further than its stop
unfoldable pub capped : Bool → Variable → ℤ → Option ℤ → Option ℤ
capped full x stop g = cond full (cut_off x stop g) g

-- what rule i gives in the reckoning is what is found on the two sides; or, with `full`, its head has its stop and it is met
abbrev pub FoundOn : Program → Reckoning → Valuation → List ℤ → Bool → List ℤ → ℕ → Type 0
FoundOn P R θ stops full sides i =
    let m = risen P.variables sides in
    let h = head_of P i in
    (R.gives i m θ ≡ capped full (variable_in P.variables h) (valued stops h) (sided_gives P.variables sides (rule_in P.rules i)))
    ⊎ ((full ≡ true) × (m h ≡ valued stops h) × RuleMetIn P R θ m i)

-- rule i can be read so
pub record ReadOn (P : Program) (R : Reckoning) (θ : Valuation) (stops : List ℤ) (full : Bool) (sides : List ℤ) (i : ℕ) : Type 0 where
  pub order : (a b : ℤ) → not_past (R.variable (head_of P i)) a b ≡ not_past (variable_in P.variables (head_of P i)) a b
  pub found : FoundOn P R θ stops full sides i
  -- with `full` its head has not passed its stop
  pub short : full ≡ true → T (not_past (variable_in P.variables (head_of P i)) (risen P.variables sides (head_of P i)) (valued stops (head_of P i)))

-- every rule can
abbrev pub AllReadOn : Program → Reckoning → Valuation → List ℤ → Bool → List ℤ → Type 0
AllReadOn P R θ stops full sides = (i : ℕ) → i < length P.rules → ReadOn P R θ stops full sides i

-- the head h, whose variable is x, gets the value a, or a is past its far end
abbrev pub RaisedSide : Variable → ℕ → ℤ → List ℤ → List ℤ → Bool → Type 0
RaisedSide x h a sides sides⁺ true = T (not_past x a (far x)) × (sides⁺ ≡ set sides (side_place (from_above x) h) a)
RaisedSide x h a sides sides⁺ false = T (not (not_past x a (far x))) × (sides⁺ ≡ sides)

-- ---- the rules from rule i on

-- rule j, which stands at `at`, is the first that exceeds its head
pub record FirstMore (s : List ℕ) (P : Program) (R : Reckoning) (θ m : Valuation) (i j at : ℕ) (a : ℤ) : Type 0 where
  pub from : i ≤ j
  pub stands : RuleStands s P j at
  pub exceeds : Exceeds P R θ m j a
  pub before : (k : ℕ) → i ≤ k → k < j → RuleMetIn P R θ m k

-- none does, and the field after the last rule stands at `at`
pub record NoneMore (s : List ℕ) (P : Program) (R : Reckoning) (θ m : Valuation) (i at : ℕ) : Type 0 where
  pub placed : at ≡ rule_place s P (length P.rules)
  pub met : (k : ℕ) → i ≤ k → k < length P.rules → RuleMetIn P R θ m k

abbrev pub NextIs : List ℕ → Program → Reckoning → Valuation → Valuation → ℕ → Next → Type 0
NextIs s P R θ m i (next.More j at a) = FirstMore s P R θ m i j at a
NextIs s P R θ m i (next.Nothing at) = NoneMore s P R θ m i at

-- ---- on the way

-- what climbing relies on
pub record Scales (P : Program) (R : Reckoning) (θ others : Valuation) (stops : List ℤ) (full : Bool) : Type 0 where
  pub laws : Laws (reckoned P R)
  pub narrows : Narrows P R
  pub assigned : Within (reckoned P R) θ
  pub small : (v : ℕ) → nat_abs (others v) ≤ max_number
  -- what is given inside the head's declared range is inside that of the reckoning
  pub inside : (i : ℕ) → i < length P.rules → (m : Valuation) (a : ℤ) → R.gives i m θ ≡ Some a
      → T (not_past (variable_in P.variables (head_of P i)) a (far (variable_in P.variables (head_of P i))))
      → AtOrBefore (reckoned P R) (head_of P i) a (far (R.variable (head_of P i)))
  -- with `full` no value on the way passes its stop
  pub short : full ≡ true → (m : Valuation) → Progress (reckoned P R) θ m → (v : ℕ) → T (not_past (variable_in P.variables v) (m v) (valued stops v))
  -- the rules that give what lifts stop at, whatever they read; of all others what is found is what they give
  pub free : ℕ → Bool
  pub freely : (i : ℕ) → i < length P.rules → free i ≡ true → (full ≡ true) × ((m : Valuation) → m (head_of P i) ≡ valued stops (head_of P i) → RuleMetIn P R θ m i)
  pub finds : (i : ℕ) → i < length P.rules → free i ≡ false → (sides : List ℤ) → Sided P.variables θ others sides
      → Progress (reckoned P R) θ (risen P.variables sides)
      → R.gives i (risen P.variables sides) θ
      ≡ capped full (variable_in P.variables (head_of P i)) (valued stops (head_of P i)) (sided_gives P.variables sides (rule_in P.rules i))

-- the values are on the way, and heads of such rules have their stops
pub record Climbing (P : Program) (R : Reckoning) (θ others : Valuation) (stops : List ℤ) (full : Bool) (sides : List ℤ) : Type 0 where
  pub scales : Scales P R θ others stops full
  pub sided : Sided P.variables θ others sides
  pub progress : Progress (reckoned P R) θ (risen P.variables sides)
  pub arrived : (i : ℕ) → i < length P.rules → scales.free i ≡ true → risen P.variables sides (head_of P i) ≡ valued stops (head_of P i)

-- for some program of the file
pub record SomeClimbing (s : List ℕ) (stops : List ℤ) (full : Bool) (sides : List ℤ) : Type 0 where
  pub program : Program
  pub reckoning : Reckoning
  pub assigned : Valuation
  pub others : Valuation
  pub accepts : Accepts s program
  pub climbing : Climbing program reckoning assigned others stops full sides

-- ---- sweeps

-- the sweeps of a run at most
abbrev pub most_sweeps : ℕ
most_sweeps = 8

-- so many raises, no more than n; where there is none, every rule is met
pub record SweptUp (P : Program) (R : Reckoning) (θ others : Valuation) (stops : List ℤ) (full : Bool) (n raises : ℕ) (sides : List ℤ) : Type 0 where
  pub climbing : Climbing P R θ others stops full sides
  pub few : raises ≤ n
  pub met : raises ≡ 0 → (i : ℕ) → i < length P.rules → RuleMetIn P R θ (risen P.variables sides) i

abbrev pub SweepUpIs : Program → Reckoning → Valuation → Valuation → List ℤ → Bool → ℕ → List ℤ → Result ℕ NoModel → Type 0
SweepUpIs P R θ others stops full n sides (Ok k) = SweptUp P R θ others stops full n k sides
SweepUpIs P R θ others stops full n sides (Err _) = EndsWith P R θ (risen P.variables sides) (Err (record {}))

-- the first n variables, those that are founded, have their stops
abbrev pub ArrivedBelow : List Variable → ℕ → List ℤ → List ℤ → Type 0
ArrivedBelow vs n stops sides = (v : ℕ) → v < n → T (is_founded (variable_in vs v)) → on_side sides (from_above (variable_in vs v)) v ≡ valued stops v

-- what climbing ends with
abbrev pub ClimbIs : Program → Reckoning → Valuation → List ℤ → Option (Result (Unit {0}) NoModel) → Type 0
ClimbIs P R θ sides (Some e) = EndsWith P R θ (risen P.variables sides) e
ClimbIs P R θ sides None = Progress (reckoned P R) θ (risen P.variables sides)

-- ---- where the values begin

-- the first n variables at their starting ends, standard ones as assigned, with the others beside them; those past the last one stay
pub record SidesStart (vs : List Variable) (n : ℕ) (θ others : Valuation) (sides sides⁺ : List ℤ) : Type 0 where
  pub own : (v : ℕ) → v < n → on_side sides⁺ (own_side (variable_in vs v)) v ≡ started (variable_in vs v) (θ v)
  pub other : (v : ℕ) → v < n → on_side sides⁺ (not (own_side (variable_in vs v))) v ≡ others v
  pub past : (v : ℕ) → n ≤ v → (falling : Bool) → on_side sides⁺ falling v ≡ on_side sides falling v
