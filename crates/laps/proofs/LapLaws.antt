-- One rule of the set is looked at: the run goes on.
use Rattle.std.specs.Prelude.{Option, Some, None, Result, Ok}
use Prim.Native.Nat.{ℕ, ◌<◌, ◌≤◌}
use mathlib.Core.Path.{◌≡◌, ap}
use mathlib.Core.Bool.{Bool, true, false, not}
use mathlib.Core.List.{List}
use native.Mathlib.Omega.{arith}
use lib.Dec.{T}
use lib.IntN.{ℤ}
use lib.ListN.{length, get_or}
use Rattle.format.specs.Limits.{max_variables, max_rules}
use Rattle.words.specs.Bit.{has}
use Rattle.program.specs.Program.{Program, variable_in, variables_at}
use Rattle.program.specs.Readings.{Valuation, valued}
use Rattle.program.specs.Variables.{far, not_past}
use Rattle.program.specs.declared.Variable.{Variable}
use Rattle.meaning.specs.Reduct.{Reckoning}
use Rattle.meaning.proofs.Steps.{gap}
use Rattle.laps.specs.Laps.{AfterTry}
use Rattle.run.specs.Running.{RuleStands, SomeRule, LookedAt, Dropped, Lifting, Lifted, Unchanged, Running}
use Rattle.run.proofs.RunLaws.{reckons_demanded}
use Rattle.run.proofs.StepLaws.{demands_more, demands_enough, dropped_inside, dropped_met, dropped_lifting}
use Rattle.run.proofs.SolveLaws.{run_assigned}
use Rattle.run.specs.declared.NoModel.{NoModel}

module _ {s : List ℕ} {P : Program} {R : Reckoning} {θ : Valuation} {offsets masks readers : List ℕ} {others stops : List ℤ} {cut : Bool} {m : List ℤ} {waiting : List ℕ}
    (k : Running s P R θ offsets masks readers others stops cut m waiting) (i : ℕ) (few : i < max_rules) (waits : has waiting i ≡ true) where
  pub try_among : i < length P.rules
  try_among = k.rules i few waits

  pub try_stands : RuleStands s P i (get_or offsets i 0)
  try_stands = k.task.basis.reckons.stands i try_among

  pub try_some : SomeRule s (get_or offsets i 0)
  try_some = record { program = P; rule = i; here = try_stands }

  module _ (w : List ℕ) (d : Dropped (has waiting) (has w) i) {t : Option ℤ}
      (f : (Q : Program) → RuleStands s Q i (get_or offsets i 0) → LookedAt Q (get_or masks i 0) cut stops others m i t) where
    -- met
    pub try_met : t ≡ None → Running s P R θ offsets masks readers others stops cut m w
    try_met e = record {
      task = k.task;
      progress = k.progress;
      outside = dropped_met d P R θ (valued m) k.outside
          (demands_enough P R θ (valued m) i (reckons_demanded k.task.basis.reckons m (run_assigned k) i try_among (f P try_stands)) e);
      rules = λ j l h. k.rules j l (dropped_inside d j h);
    }

    -- or more than its head has
    pub try_more : {a : ℤ} → t ≡ Some a → Lifting P R θ (valued m) (has w) i a
    try_more e = dropped_lifting d P R θ (valued m) k.outside try_among
        (demands_more P R θ (valued m) i (reckons_demanded k.task.basis.reckons m (run_assigned k) i try_among (f P try_stands)) e)

-- what is not lifted has not moved; the arguments are those of `no_lift`
pub not_moved : {s : List ℕ} {P : Program} {R : Reckoning} {θ : Valuation} {offsets masks readers : List ℕ} {others stops : List ℤ} {cut : Bool} {m : List ℤ} {waiting : List ℕ}
    → Running s P R θ offsets masks readers others stops cut m waiting → (w : List ℕ) {h g : ℕ} → h ≡ g
    → {y : Variable} → ((n : ℕ) → h < n → y ≡ variable_in (variables_at s n) h) → {a b : ℤ} → b ≡ a → (m⁺ : List ℤ) (w⁺ : List ℕ) (t : Bool) → Lifted y readers h b m m⁺ w w⁺ t
    → t ≡ false → gap (variables_at s max_variables) m⁺ ≤ gap (variables_at s max_variables) m
not_moved {s} {m = m} k w {h} e {y} v {b = b} q m⁺ w⁺ t l f =
    let r : T (not (not_past y b (far y))) × Unchanged m m⁺ w w⁺ = rw f at l in
    omega (arith, ap (gap (variables_at s max_variables)) r.1.model_is)

-- what is tried and leaves a model open
module _ {s : List ℕ} {P : Program} {R : Reckoning} {θ : Valuation} {offsets masks readers : List ℕ} {others stops : List ℤ} {cut : Bool} (m : List ℤ) (waiting : List ℕ) where
  pub went_on : {t : Result (Option ℕ) NoModel} {raised : Option ℕ} → t ≡ Ok raised → AfterTry s P R θ offsets masks readers others stops cut m waiting t
      → Running s P R θ offsets masks readers others stops cut m waiting
  went_on e k = rw e at k
