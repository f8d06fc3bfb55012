-- What holds on the way to the least model of a program P of a file s, read by a reckoning R, θ being the assignment and m the values reached. The reduct is one
-- reckoning; a file with lent ranges is another.
use Rattle.std.specs.Prelude.{ℕ, ◌+◌, ◌*◌, ◌<◌, ◌≡◌, ◌⊎◌, Bool, true, false, not, cond, ◌||◌, ◌&&◌, List, T, eqb, ℤ, length, get_or, set, Option, Some, None, Result, Ok, Err}
use Rattle.format.specs.Limits.{max_rules}
use Rattle.words.specs.Bit.{bit, has, LeastFrom, NoneIn}
use Rattle.program.specs.Program.{Program, rule_in, variable_in}
use Rattle.program.specs.Reading.{Accepts}
use Rattle.program.specs.Evaluate.{evaluate}
use Rattle.program.specs.Evaluable.{Small}
use Rattle.program.specs.declared.Variable.{Variable}
use Rattle.bodies.specs.Readings.{reading_of}
use Rattle.reader.specs.Parts.{rule_place}
use Rattle.meaning.specs.Founded.{AtOrBefore, GivenNoMore, Before, Within, Model, Least}
use Rattle.meaning.specs.Reduct.{Reckoning, reckoned, system}
use Rattle.meaning.specs.Narrowing.{Narrows}
use Rattle.meaning.proofs.Laws.{Laws}
use Rattle.meaning.proofs.Theory.{Progress}
use Rattle.tables.specs.Tabled.{ReadersAre}
use Rattle.program.specs.Variables.{is_founded, far, not_past, cut_off}
use Rattle.program.specs.Readings.{Valuation, valued, body_variable, kept}
use Rattle.run.specs.declared.NoModel.{NoModel}

-- the head of rule i
abbrev pub head_of : Program → ℕ → ℕ
head_of P i = (rule_in P.rules i).head

-- rule i gives no more than its head has
abbrev pub RuleMetIn : Program → Reckoning → Valuation → Valuation → ℕ → Type 0
RuleMetIn P R θ m i = GivenNoMore (reckoned P R) (head_of P i) (R.gives i m θ) (m (head_of P i))

-- rule i gives a, which is more than its head has
pub record Exceeds (P : Program) (R : Reckoning) (θ m : Valuation) (i : ℕ) (a : ℤ) : Type 0 where
  pub gives_it : R.gives i m θ ≡ Some a
  pub more : Before (reckoned P R) (head_of P i) (m (head_of P i)) a

-- ---- one rule

-- rule i of the program that the file means stands at this place
pub record RuleStands (s : List ℕ) (P : Program) (i at : ℕ) : Type 0 where
  pub accepts : Accepts s P
  pub among : i < length P.rules
  pub placed : at ≡ rule_place s P i

-- some rule of the file stands there
pub record SomeRule (s : List ℕ) (at : ℕ) : Type 0 where
  pub program : Program
  pub rule : ℕ
  pub here : RuleStands s program rule at

-- the bit of a rule's mask that says that the rule gives what lifts of its head stop at, whatever it reads
abbrev pub free_bit : ℕ
free_bit = 31

-- what is given to the head x where lifts stop at b, if `cut` says that they do
unfoldable pub stopped : Bool → Variable → ℤ → ℕ → Option ℤ → Option ℤ
stopped cut x b mask g = cond cut (cond (bit mask free_bit) (Some b) (cut_off x b g)) g

-- what rule i is found to give: positions whose bit is set are read in m, all others in `others`; lifts stop at `stops`
abbrev pub found_by : Program → ℕ → Bool → List ℤ → List ℤ → List ℤ → ℕ → Option ℤ
found_by P mask cut stops others m i =
    let r = rule_in P.rules i in
    stopped cut (variable_in P.variables r.head) (valued stops r.head) mask (evaluate r (reading_of mask m others r.terms))

-- what is given, against what the head has; x is the head's variable
unfoldable pub demand_of : Variable → Option ℤ → ℤ → Option ℤ
demand_of x None z = None
demand_of x (Some a) z = cond (not_past x a z) None (Some a)

-- the answer for rule i is what is found
abbrev pub LookedAt : Program → ℕ → Bool → List ℤ → List ℤ → List ℤ → ℕ → Option ℤ → Type 0
LookedAt P mask cut stops others m i d = d ≡ demand_of (variable_in P.variables (head_of P i)) (found_by P mask cut stops others m i) (valued m (head_of P i))

-- the answer for rule i is right
abbrev pub Demanded : Program → Reckoning → Valuation → Valuation → ℕ → Option ℤ → Type 0
Demanded P R θ m i (Some a) = Exceeds P R θ m i a
Demanded P R θ m i None = RuleMetIn P R θ m i

-- ---- what the tables say

-- standard variables are as assigned
abbrev pub AsAssigned : Program → Valuation → List ℤ → Type 0
AsAssigned P θ m = (v : ℕ) → T (not (is_founded (variable_in P.variables v))) → valued m v ≡ θ v

-- a is no further than the declared far end of variable v, nor than its stop where lifts stop
pub record NoFurther (P : Program) (stops : List ℤ) (cut : Bool) (v : ℕ) (a : ℤ) : Type 0 where
  pub to_far_is : T (not_past (variable_in P.variables v) a (far (variable_in P.variables v)))
  pub to_stop : cut ≡ true → T (not_past (variable_in P.variables v) a (valued stops v))

-- position j of rule i is kept, or its variable is standard
abbrev pub KeptOrStandard : Program → ℕ → ℕ → Type 0
KeptOrStandard P i j = let r = rule_in P.rules i in (kept P.variables r j ≡ true) ⊎ T (not (is_founded (variable_in P.variables (body_variable r j))))

-- what each rule is found to give, by the tables, is what it gives in the reckoning
pub record Reckons (s : List ℕ) (P : Program) (R : Reckoning) (θ : Valuation) (offsets masks : List ℕ) (others stops : List ℤ) (cut : Bool) : Type 0 where
  pub accepts : Accepts s P
  pub stands : (i : ℕ) → i < length P.rules → RuleStands s P i (get_or offsets i 0)
  pub narrows : Narrows P R
  pub finds : (i : ℕ) → i < length P.rules → (m : List ℤ) → AsAssigned P θ m → R.gives i (valued m) θ ≡ found_by P (get_or masks i 0) cut stops others m i
  -- what is read in the model, and where the rest is read
  pub keeps : (i : ℕ) → i < length P.rules → (j : ℕ) → j < length (rule_in P.rules i).terms → bit (get_or masks i 0) j ≡ true → KeptOrStandard P i j
  pub ranged : Within (system P) (valued others)
  -- a value that is no further lies in the range of the reckoning
  pub ends : (v : ℕ) (a : ℤ) → NoFurther P stops cut v a → AtOrBefore (reckoned P R) v a (far (R.variable v))

-- what a run relies on
pub record Basis (s : List ℕ) (P : Program) (R : Reckoning) (θ : Valuation) (offsets masks : List ℕ) (others stops : List ℤ) (cut : Bool) : Type 0 where
  pub reckons : Reckons s P R θ offsets masks others stops cut
  pub laws : Laws (reckoned P R)
  pub assigned : Within (reckoned P R) θ
  pub small : Small others
  -- what is given inside the head's declared range is inside that of the reckoning
  pub inside : (i : ℕ) → i < length P.rules → (m : Valuation) (a : ℤ) → R.gives i m θ ≡ Some a
      → T (not_past (variable_in P.variables (head_of P i)) a (far (variable_in P.variables (head_of P i))))
      → AtOrBefore (reckoned P R) (head_of P i) a (far (R.variable (head_of P i)))

-- and, with a waiting set, the readers of each variable
pub record Task (s : List ℕ) (P : Program) (R : Reckoning) (θ : Valuation) (offsets masks readers : List ℕ) (others stops : List ℤ) (cut : Bool) : Type 0 where
  pub basis : Basis s P R θ offsets masks others stops cut
  pub readers_are : ReadersAre P (length P.rules) masks readers

-- the values are on the way
pub record Underway (s : List ℕ) (P : Program) (R : Reckoning) (θ : Valuation) (offsets masks : List ℕ) (others stops : List ℤ) (cut : Bool) (m : List ℤ) : Type 0 where
  pub basis : Basis s P R θ offsets masks others stops cut
  pub progress : Progress (reckoned P R) θ (valued m)

-- ---- one step

-- every rule outside the set is met
abbrev pub MetOutside : Program → Reckoning → Valuation → Valuation → (ℕ → Bool) → Type 0
MetOutside P R θ m waiting = (i : ℕ) → i < length P.rules → waiting i ≡ false → RuleMetIn P R θ m i

-- the set has rules alone
abbrev pub Among : Program → (ℕ → Bool) → Type 0
Among P waiting = (i : ℕ) → i < max_rules → waiting i ≡ true → i < length P.rules

-- a set within another
abbrev pub Inside : (ℕ → Bool) → (ℕ → Bool) → Type 0
Inside new old = (j : ℕ) → new j ≡ true → old j ≡ true

-- rule i leaves the set
pub record Dropped (old new : ℕ → Bool) (i : ℕ) : Type 0 where
  pub is : (j : ℕ) → new j ≡ (not (eqb j i) && old j)

-- rule i is the lowest of the set, and leaves it
pub record Taken (old new : ℕ → Bool) (i : ℕ) : Type 0 where
  pub lowest : LeastFrom old 0 max_rules i
  pub dropped : Dropped old new i

-- no rule is in the set, and none joins it
pub record Empty (old new : ℕ → Bool) : Type 0 where
  pub none : NoneIn old 0 max_rules
  pub inside : Inside new old

-- the lowest rule that left the set, or that there is none
abbrev pub Takes : (ℕ → Bool) → (ℕ → Bool) → Option ℕ → Type 0
Takes old new (Some i) = Taken old new i
Takes old new None = Empty old new

-- what a step needs of the tables and of the set
pub record Ready (s offsets waiting : List ℕ) : Type 0 where
  pub program : Program
  pub stands : (i : ℕ) → i < length program.rules → RuleStands s program i (get_or offsets i 0)
  pub rules : Among program (has waiting)

-- rule i exceeds its head, and every other rule outside the set is met
pub record Lifting (P : Program) (R : Reckoning) (θ m : Valuation) (waiting : ℕ → Bool) (i : ℕ) (a : ℤ) : Type 0 where
  pub among : i < length P.rules
  pub exceeds : Exceeds P R θ m i a
  pub outside : (j : ℕ) → j < length P.rules → waiting j ≡ false → (j ≡ i → ⊥) → RuleMetIn P R θ m j

-- rule i is the lowest that does
pub record Raising (P : Program) (R : Reckoning) (θ m : Valuation) (waiting : ℕ → Bool) (i : ℕ) (a : ℤ) : Type 0 where
  pub lifting : Lifting P R θ m waiting i a
  pub below : (j : ℕ) → j < i → RuleMetIn P R θ m j

-- what a step answers: the raise to make, or that every rule is met
abbrev pub Stepped : Program → Reckoning → Valuation → Valuation → (ℕ → Bool) → Option (ℕ × ℤ) → Type 0
Stepped P R θ m waiting (Some (i, a)) = Raising P R θ m waiting i a
Stepped P R θ m waiting None = (i : ℕ) → i < length P.rules → RuleMetIn P R θ m i

-- ---- one raise

-- the value a is stored at the head h, whose variable is x, or is past its far end
abbrev pub Stored : Variable → ℕ → ℤ → List ℤ → List ℤ → Bool → Type 0
Stored x h a model model⁺ true = T (not_past x a (far x)) × (model⁺ ≡ set model h a)
Stored x h a model model⁺ false = T (not (not_past x a (far x))) × (model⁺ ≡ model)

-- the value a is stored at x, and the readers of x join the set
pub record RaisedTo (readers : List ℕ) (x : ℕ) (a : ℤ) (model model⁺ : List ℤ) (waiting waiting⁺ : List ℕ) : Type 0 where
  pub model_is : model⁺ ≡ set model x a
  pub waiting_is : (i : ℕ) → i < max_rules → has waiting⁺ i ≡ (has waiting i || has readers (max_rules * x + i))

-- nothing has changed
pub record Unchanged (model model⁺ : List ℤ) (waiting waiting⁺ : List ℕ) : Type 0 where
  pub model_is : model⁺ ≡ model
  pub waiting_is : waiting⁺ ≡ waiting

-- what a raise answers: done, or past the far end
abbrev pub Lifted : Variable → List ℕ → ℕ → ℤ → List ℤ → List ℤ → List ℕ → List ℕ → Bool → Type 0
Lifted x readers h a model model⁺ waiting waiting⁺ true = T (not_past x a (far x)) × RaisedTo readers h a model model⁺ waiting waiting⁺
Lifted x readers h a model model⁺ waiting waiting⁺ false = T (not (not_past x a (far x))) × Unchanged model model⁺ waiting waiting⁺

-- ---- the run

-- the values are on the way, and every rule outside the set is met
pub record Running (s : List ℕ) (P : Program) (R : Reckoning) (θ : Valuation) (offsets masks readers : List ℕ) (others stops : List ℤ) (cut : Bool) (m : List ℤ) (waiting : List ℕ) : Type 0 where
  pub task : Task s P R θ offsets masks readers others stops cut
  pub progress : Progress (reckoned P R) θ (valued m)
  pub outside : MetOutside P R θ (valued m) (has waiting)
  pub rules : Among P (has waiting)

-- some reckoning's
pub record SomeRun (s offsets masks readers : List ℕ) (others stops : List ℤ) (cut : Bool) (m : List ℤ) (waiting : List ℕ) : Type 0 where
  pub program : Program
  pub reckoning : Reckoning
  pub assigned : Valuation
  pub run : Running s program reckoning assigned offsets masks readers others stops cut m waiting

pub record SomeWay (s offsets masks : List ℕ) (others stops : List ℤ) (cut : Bool) (m : List ℤ) : Type 0 where
  pub program : Program
  pub reckoning : Reckoning
  pub assigned : Valuation
  pub way : Underway s program reckoning assigned offsets masks others stops cut m

-- the least model, or no model
abbrev pub EndsWith : Program → Reckoning → Valuation → Valuation → Result (Unit {0}) NoModel → Type 0
EndsWith P R θ m (Ok _) = Least (reckoned P R) θ m
EndsWith P R θ m (Err _) = (m' : Valuation) → Model (reckoned P R) θ m' → ⊥
