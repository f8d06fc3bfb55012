-- What the code finds of targets, in lists of values: which are open, the aims at first, and how values become their targets.
use Rattle.std.specs.Prelude.{ℕ, ◌<◌, ◌≡◌, ◌⊎◌, Bool, true, not, cond, ◌&&◌, ◌||◌, List, ℤ, pos, ◌+ℤ◌, ◌-ℤ◌, Option, Some, None}
use Rattle.program.specs.Program.{Program, variable_in, rule_in}
use Rattle.program.specs.Variables.{is_founded, swaps, far, not_past}
use Rattle.program.specs.Readings.{Valuation, valued}
use Rattle.program.specs.declared.Variable.{Variable}
use Rattle.bodies.specs.Readings.{reading_of}
use Rattle.meaning.specs.Founded.{AtOrBefore}
use Rattle.meaning.specs.Reduct.{Reckoning, reckoned}
use Rattle.meaning.proofs.Theory.{Progress}
use Rattle.steady.specs.Estimate.{estimate}
use Rattle.steady.specs.Strides.{stride_of, stride_at}
use Rattle.targets.specs.Targets.{Justified}
use Rattle.run.specs.Running.{head_of, stopped, Reckons, RaisedTo, Unchanged, Running}
use Rattle.run.specs.declared.Source.{Source}

-- the target t of a founded variable x that has z is open: it comes after z, and is no further than the far end, nor than the stop where lifts stop
unfoldable pub is_open : Bool → Variable → ℤ → ℤ → ℤ → Bool
is_open cut x stop z t = is_founded x && (not (not_past x t z) && (not_past x t (far x) && (not cut || not_past x t stop)))

-- so many steps back towards the starting end
unfoldable pub drawn_back : Variable → ℕ → ℤ → ℤ
drawn_back x s t = swaps x (t -ℤ pos s) (t +ℤ pos s)

-- the later of two values; the first where they are the same
unfoldable pub later_of : Variable → ℤ → ℤ → ℤ
later_of x a b = cond (not_past x b a) a b

-- the first aim of x: an open target drawn back by its stride s, but no further than what x has; else what x has
unfoldable pub first_aim : Bool → Variable → ℕ → ℤ → ℤ → ℤ → ℤ
first_aim cut x s stop z t = cond (is_open cut x stop z t) (later_of x z (drawn_back x s t)) z

-- of each variable
abbrev pub first_aims : List Variable → Bool → List ℤ → List ℤ → List ℤ → List ℤ → Valuation
first_aims vs cut strides stops m target v = first_aim cut (variable_in vs v) (stride_of strides v) (valued stops v) (valued m v) (valued target v)

-- what rule i is estimated to give on the way from m to the aims, where lifts stop at `stops`
abbrev pub estimated_by : Program → ℕ → Bool → List ℤ → List ℤ → List ℤ → List ℤ → List ℤ → ℕ → Option ℤ
estimated_by P mask cut strides stops others m aims i =
    let r = rule_in P.rules i in
    let x = variable_in P.variables r.head in
    stopped cut x (valued stops r.head) mask
    (estimate x (stride_of strides r.head) (stride_at strides r.terms) r (reading_of mask m others r.terms) (reading_of mask aims others r.terms))

-- the aim z of x lifted to what is given, but no further than the target t; or z, where what is given does not come after it
unfoldable pub lift_to : Variable → ℤ → ℤ → Option ℤ → ℤ
lift_to x z t None = z
lift_to x z t (Some b) = cond (not_past x t b) t (later_of x z b)

-- the aim of the head of rule i after the rule has lifted it, where its target is open
unfoldable pub next_aim : Program → ℕ → Bool → List ℤ → List ℤ → List ℤ → List ℤ → List ℤ → List ℤ → ℕ → ℤ
next_aim P mask cut strides stops others m target aims i =
    let h = head_of P i in
    let x = variable_in P.variables h in
    let z = valued aims h in
    cond (is_open cut x (valued stops h) z (valued target h)) (lift_to x z (valued target h) (estimated_by P mask cut strides stops others m aims i)) z

-- where the answer is yes, two lists have the same first n values
abbrev pub SameIf : ℕ → List ℤ → List ℤ → Bool → Type 0
SameIf n xs ys r = r ≡ true → (v : ℕ) → v < n → valued xs v ≡ valued ys v

-- the aims of a run that has reached m, A₀ being the first
pub record Aiming (s : List ℕ) (P : Program) (R : Reckoning) (θ : Valuation) (offsets masks : List ℕ) (others stops : List ℤ) (cut : Bool) (strides m : List ℤ)
    (A₀ : Valuation) (aims : List ℤ) : Type 0 where
  pub reckons : Reckons s P R θ offsets masks others stops cut
  pub progress : Progress (reckoned P R) θ (valued m)
  pub justified : Justified (reckoned P R) (stride_of strides) θ (valued m) A₀ (valued aims)

-- some reckoning's
pub record SomeAims (s offsets masks : List ℕ) (others stops : List ℤ) (cut : Bool) (strides m aims : List ℤ) : Type 0 where
  pub program : Program
  pub reckoning : Reckoning
  pub assigned : Valuation
  pub first : Valuation
  pub aiming : Aiming s program reckoning assigned offsets masks others stops cut strides m first aims

-- the aims stay those of every such run
abbrev pub AimsKept : List ℕ → List ℕ → List ℕ → List ℤ → List ℤ → Bool → List ℤ → List ℤ → List ℤ → List ℤ → Type 0
AimsKept s offsets masks others stops cut strides m aims aims⁺ =
    (P : Program) (R : Reckoning) (θ A₀ : Valuation) → Aiming s P R θ offsets masks others stops cut strides m A₀ aims → Aiming s P R θ offsets masks others stops cut strides m A₀ aims⁺

-- the same, said of what the run reads
abbrev pub SomeAimsBy : Source → List ℤ → List ℤ → List ℤ → Type 0
SomeAimsBy q strides m aims = SomeAims q.file.now q.offsets.now q.masks.now q.others.now q.stops.now q.cut strides m aims

abbrev pub AimsKeptBy : Source → List ℤ → List ℤ → List ℤ → List ℤ → Type 0
AimsKeptBy q strides m aims aims⁺ = AimsKept q.file.now q.offsets.now q.masks.now q.others.now q.stops.now q.cut strides m aims aims⁺

-- variable v gets the value t, and its readers join the set where that is another value
abbrev pub PlacedAt : List ℕ → ℕ → ℤ → List ℤ → List ℤ → List ℕ → List ℕ → Type 0
PlacedAt readers v t m m⁺ w w⁺ = ((valued m v ≡ t) × Unchanged m m⁺ w w⁺) ⊎ ((valued m v ≡ t → ⊥) × RaisedTo readers v t m m⁺ w w⁺)

-- a run whose values are on the way to targets that are at or before every model
pub record Landing (s : List ℕ) (P : Program) (R : Reckoning) (θ : Valuation) (offsets masks readers : List ℕ) (others stops : List ℤ) (cut : Bool) (target m : List ℤ) (waiting : List ℕ) : Type 0 where
  pub run : Running s P R θ offsets masks readers others stops cut m waiting
  pub goal : Progress (reckoned P R) θ (valued target)
  pub under : (v : ℕ) → AtOrBefore (reckoned P R) v (valued m v) (valued target v)
