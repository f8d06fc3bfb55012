-- A rule lifts the aim of its head, and the aims that arrive.
use Rattle.std.specs.Prelude.{Option, Some, None}
use Prim.Native.Nat.{ℕ, ◌<◌}
use mathlib.Core.Path.{◌≡◌, refl, sym, ap, ap₂, subst, ◌∙◌}
use mathlib.Core.Bool.{Bool, true, false, not, cond}
use mathlib.Core.List.{List}
use native.Mathlib.Omega.{arith}
use lib.Dec.{T}
use lib.IntN.{ℤ, pos}
use lib.ListN.{length, get_or, set}
use Rattle.format.specs.Limits.{max_variables}
use Rattle.program.specs.Fields.{value_at}
use Rattle.program.specs.Program.{Program, Rule, rule_of, rule_in, variable_in, variables_at}
use Rattle.program.specs.Reading.{AcceptedAs, Accepts}
use Rattle.program.specs.Variables.{not_past}
use Rattle.program.specs.Readings.{Valuation, valued}
use Rattle.program.specs.Evaluable.{Small}
use Rattle.program.specs.declared.Counts.{Counts}
use Rattle.program.specs.declared.Variable.{Variable}
use Rattle.program.proofs.Promises.{accepts_promises}
use Rattle.program.proofs.Tests.{cases}
use Rattle.program.proofs.Variables.{past_refl, past_total}
use Rattle.bodies.specs.Readings.{reading_of}
use Rattle.steady.specs.Estimate.{estimate}
use Rattle.steady.specs.Strides.{stride_of, stride_at}
use Rattle.reader.proofs.Published.{program_limited, counts_of_is}
use Rattle.reduct.specs.Filling.{Filled}
use Rattle.meaning.specs.Reduct.{Reckoning, reckoned}
use Rattle.meaning.proofs.InRanges.{within_small}
use Rattle.meaning.proofs.Laws.{at_refl, at_trans}
use Rattle.meaning.proofs.Monotone.{head_founded}
use Rattle.meaning.proofs.Narrowing.{narrows_founded, narrows_past, narrows_within}
use Rattle.run.specs.Running.{head_of, stopped, RuleStands, SomeRule, Running}
use Rattle.run.proofs.RunLaws.{lies}
use Rattle.run.proofs.RaiseLaws.{raised_is}
use Rattle.targets.specs.Targets.{From, Drawn, Justified}
use Rattle.targets.specs.Aims.{is_open, later_of, estimated_by, lift_to, next_aim, first_aims, SameIf, Aiming, SomeAims, AimsKept, Landing}
use Rattle.targets.proofs.AimLaws.{not_not}
use Rattle.targets.proofs.TargetLaws.{justified_start, justified_lift, target_progress}
use Rattle.targets.proofs.RuleLaws.{rule_steady}
use Rattle.targets.proofs.OpenLaws.{open_on, open_ends, first_from, all_short, aims_are, arrived_drawn}

-- what is given where the aim z is lifted to a on the way to t
record LiftedTo (x : Variable) (z t : ℤ) (g : Option ℤ) (a : ℤ) : Type 0 where
  given : ℤ
  gives_it : g ≡ Some given
  enough : T (not_past x a given)
  on : T (not_past x z a)
  within : T (not_past x a t)

lift_to_lem : (x : Variable) (z t : ℤ) (g : Option ℤ) → T (not_past x z t) → (lift_to x z t g ≡ z → ⊥) → LiftedTo x z t g (lift_to x z t g)
unfolding lift_to later_of
lift_to_lem x z t None o f = absurd (f refl)
lift_to_lem x z t (Some b) o f =
    cases (not_past x t b) (λ u. (cond u t (cond (not_past x b z) z b) ≡ z → ⊥) → LiftedTo x z t (Some b) (cond u t (cond (not_past x b z) z b)))
    (λ u f. record { given = b; gives_it = refl; enough = u; on = o; within = past_refl x t })
    (λ u. cases (not_past x b z) (λ w. (cond w z b ≡ z → ⊥) → LiftedTo x z t (Some b) (cond w z b)) (λ w f. absurd (f refl))
    (λ w f. record { given = b; gives_it = refl; enough = past_refl x b; on = past_total x z b w; within = past_total x b t u }))
    f

module _ {s : List ℕ} {P : Program} {R : Reckoning} {θ : Valuation} {offsets masks : List ℕ} {others stops : List ℤ} {cut : Bool} {strides m : List ℤ} {A₀ : Valuation}
    {aims : List ℤ} (k : Aiming s P R θ offsets masks others stops cut strides m A₀ aims) where
  self_from : From (reckoned P R) θ (valued m) (valued m)
  self_from = record { standard = k.progress.standard; within = k.progress.within; after = λ v. at_refl v (valued m v) }

  -- the requirements of the estimate
  pub aiming_small : Small m × Small aims × Small others
  aiming_small =
      let p = accepts_promises k.reckons.accepts in
      let n = k.reckons.narrows in
      (within_small p m (narrows_within n k.progress.within), within_small p aims (narrows_within n k.justified.from.within), within_small p others k.reckons.ranged)

  -- ---- one rule

  module _ (target : List ℤ) (i : ℕ) (l : i < length P.rules) (full : length aims ≡ max_variables) where
    abbrev x : Variable
    x = variable_in P.variables (head_of P i)

    few : head_of P i < max_variables
    few = omega (arith, ((accepts_promises k.reckons.accepts).rules i l).head_declared, (program_limited k.reckons.accepts).few_variables)

    abbrev found : Option ℤ
    found = estimated_by P (get_or masks i 0) cut strides stops others m aims i

    -- the aim, its target, and what it is lifted to
    abbrev z : ℤ
    z = valued aims (head_of P i)

    abbrev t : ℤ
    t = valued target (head_of P i)

    abbrev next : ℤ
    next = next_aim P (get_or masks i 0) cut strides stops others m target aims i

    -- an aim that changes has an open target, towards which it is lifted
    next_open : (next ≡ z → ⊥) → (is_open cut x (valued stops (head_of P i)) z t ≡ true) × LiftedTo x z t found next
    unfolding next_aim
    next_open = go (is_open cut x (valued stops (head_of P i)) z t) refl
      where
        go : (o : Bool) → is_open cut x (valued stops (head_of P i)) z t ≡ o → (cond o (lift_to x z t found) z ≡ z → ⊥)
            → (o ≡ true) × LiftedTo x z t found (cond o (lift_to x z t found) z)
        go true e f = (refl, lift_to_lem x z t found (open_on cut x (valued stops (head_of P i)) z t e) f)
        go false e f = absurd (f refl)

    lifted : (next ≡ z → ⊥) → Justified (reckoned P R) (stride_of strides) θ (valued m) A₀ (valued (set aims (head_of P i) next))
    lifted f =
        let h = head_of P i in
        let n = k.reckons.narrows in
        let q = next_open f in
        let b = q.1 in
        justified_lift k.progress k.justified i l (subst T (sym (narrows_founded n h)) (head_founded (accepts_promises k.reckons.accepts) i l)) next b.given
        (rule_steady k.reckons strides m aims self_from k.justified.from i l b.given b.gives_it)
        (record { le = subst T (sym (narrows_past n h next b.given)) b.enough })
        (record { le = subst T (sym (narrows_past n h z next)) b.on })
        (at_trans (record { le = subst T (sym (narrows_past n h next t)) b.within }) (open_ends k.reckons h z t q.0))
        (raised_is aims h next (omega (arith, few, full)))

    -- the same, of the code's head v and next aim a
    pub aiming_on : {v : ℕ} {a : ℤ} → v ≡ head_of P i → a ≡ next → (a ≡ valued aims v → ⊥) → Aiming s P R θ offsets masks others stops cut strides m A₀ (set aims v a)
    aiming_on {v} {a} ev ea f = rw (ev, ea) (record {
      reckons = k.reckons;
      progress = k.progress;
      justified = lifted (λ e. f (ea ∙ e ∙ ap (valued aims) (sym ev)));
    })

-- a rule of some aims
module _ {s : List ℕ} {c : Counts} (r : AcceptedAs s c) where
  pub rule_among : {P : Program} → Accepts s P → (i : ℕ) → i < c.rules → i < length P.rules
  rule_among a i l = omega (arith, (counts_of_is r a).rules_are)

  pub some_rule : {offsets masks : List ℕ} {others stops : List ℤ} {cut : Bool} {strides m aims : List ℤ} → SomeAims s offsets masks others stops cut strides m aims → {i : ℕ} → i < c.rules
      → SomeRule s (get_or offsets i 0)
  some_rule k {i} l = let q = k.aiming.reckons in record { program = k.program; rule = i; here = q.stands i (rule_among q.accepts i l) }

-- ---- a run

pub running_small : {s : List ℕ} {P : Program} {R : Reckoning} {θ : Valuation} {offsets masks readers : List ℕ} {others stops : List ℤ} {cut : Bool} {m : List ℤ} {w : List ℕ}
    → Running s P R θ offsets masks readers others stops cut m w → Small m
running_small {m = m} k =
    let r = k.task.basis.reckons in
    within_small (accepts_promises r.accepts) m (narrows_within r.narrows k.progress.within)

module _ {s : List ℕ} {P : Program} {R : Reckoning} {θ : Valuation} {offsets masks readers : List ℕ} {others stops : List ℤ} {cut : Bool} {m : List ℤ} {w : List ℕ}
    (k : Running s P R θ offsets masks readers others stops cut m w) (strides target : List ℤ) {c : Counts} (r : AcceptedAs s c) (before first : List ℤ)
    (zero : (v : ℕ) → valued before v ≡ pos 0) (f : Filled (first_aims (variables_at s c.variables) cut strides stops m target) c.variables before first) where
  from : From (reckoned P R) θ (valued m) (valued first)
  from = rw (aims_are k.task.basis.reckons strides m target k.progress r before first zero f) (first_from k.task.basis.reckons strides m target k.progress)

  -- the first aims
  pub aiming_start : Aiming s P R θ offsets masks others stops cut strides m (valued first) first
  aiming_start = record { reckons = k.task.basis.reckons; progress = k.progress; justified = justified_start k.progress from }

  -- the aims that were lifted from them are the targets of the variables
  pub aiming_arrived : (aims : List ℤ) {a : Bool} → AimsKept s offsets masks others stops cut strides m first aims → SameIf c.variables aims target a → a ≡ true
      → Landing s P R θ offsets masks readers others stops cut aims m w
  aiming_arrived aims lift same e =
      record { run = k; goal = target_progress k.progress drawn there _ (all_short k.task.basis.reckons strides m target k.progress from); under = there.from.after }
    where
      there : Justified (reckoned P R) (stride_of strides) θ (valued m) (valued first) (valued aims)
      there = (lift _ _ _ _ aiming_start).justified

      drawn : Drawn (reckoned P R) (stride_of strides) (valued m) (valued aims) (valued first)
      drawn = arrived_drawn k.task.basis.reckons strides m target k.progress r before first zero f (same e)

-- what rule r, whose head is h, is estimated to give
abbrev estimate_of : List ℤ → ℕ → List ℤ → List ℤ → List ℤ → Variable → ℕ → Rule → Option ℤ
estimate_of strides mask m others aims x h r =
    estimate x (stride_of strides h) (stride_at strides r.terms) r (reading_of mask m others r.terms) (reading_of mask aims others r.terms)

-- ---- the ways of the tests

module _ (x : Variable) (z t : ℤ) {g : Option ℤ} where
  pub nothing_lifts : g ≡ None → z ≡ lift_to x z t g
  unfolding lift_to
  nothing_lifts e = rw e

  module _ (b : ℤ) (e : g ≡ Some b) {q : Bool} (h : q ≡ not (not_past x t b)) where
    pub reached_lifts : not q ≡ true → t ≡ lift_to x z t g
    unfolding lift_to
    reached_lifts k = rw (e, sym (not_not (not_past x t b)) ∙ ap not (sym h) ∙ k)

    pub later_lifts : not q ≡ false → {a : ℤ} → a ≡ later_of x z b → a ≡ lift_to x z t g
    unfolding lift_to
    later_lifts k l = l ∙ rw (e, sym (not_not (not_past x t b)) ∙ ap not (sym h) ∙ k)

-- of rule i, by the code's variable, stop, aim and target of its head
module _ (P : Program) (mask : ℕ) (cut : Bool) (strides stops others m target aims : List ℤ) (i : ℕ) {x : Variable} {b z t : ℤ} (ex : x ≡ variable_in P.variables (head_of P i))
    (eb : b ≡ valued stops (head_of P i)) (ez : z ≡ valued aims (head_of P i)) (et : t ≡ valued target (head_of P i)) where
  pub closed_next : is_open cut x b z t ≡ false → z ≡ next_aim P mask cut strides stops others m target aims i
  unfolding next_aim
  closed_next e = rw (← ex, ← eb, ← ez, ← et, e)

  pub open_next : {a : ℤ} {f g : Option ℤ} → is_open cut x b z t ≡ true → a ≡ lift_to x z t g → g ≡ stopped cut x b mask f
      → f ≡ estimate_of strides mask m others aims x (head_of P i) (rule_in P.rules i)
      → a ≡ next_aim P mask cut strides stops others m target aims i
  unfolding next_aim
  open_next e h k l = rw (← ex, ← eb, ← ez, ← et, e) (h ∙ ap (lift_to x z t) (k ∙ ap (stopped cut x b mask) l))

-- what the field's value is estimated to give, by the code's head
pub estimate_here : {s : List ℕ} {P : Program} {i at : ℕ} → RuleStands s P i at → {v : List ℕ} → v ≡ value_at s at → (x : Variable) (mask : ℕ) (strides m aims others : List ℤ) {h : ℕ}
    → h ≡ head_of P i → {g : Option ℤ} → g ≡ estimate_of strides mask m others aims x h (rule_of v) → g ≡ estimate_of strides mask m others aims x (head_of P i) (rule_in P.rules i)
estimate_here k q x mask strides m aims others p e =
    e ∙ ap₂ (estimate_of strides mask m others aims x) p (ap rule_of q ∙ sym (lies k).is)

-- aims that were lifted are some aims too
pub some_aims : {s offsets masks : List ℕ} {others stops : List ℤ} {cut : Bool} {strides m aims : List ℤ} → SomeAims s offsets masks others stops cut strides m aims
    → (aims⁺ : List ℤ) → AimsKept s offsets masks others stops cut strides m aims aims⁺ → SomeAims s offsets masks others stops cut strides m aims⁺
some_aims k aims⁺ f = record { program = k.program; reckoning = k.reckoning; assigned = k.assigned; first = k.first; aiming = f _ _ _ _ k.aiming }
