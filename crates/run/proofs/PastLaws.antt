-- What counts of what is given: that it is past what the head has.
use Rattle.std.specs.Prelude.{Option, Some, None}
use Prim.Native.Nat.{ℕ}
use mathlib.Core.Path.{◌≡◌, refl, ◌∙◌}
use mathlib.Core.Bool.{Bool, true, false, cond}
use mathlib.Core.List.{List}
use lib.IntN.{ℤ}
use Rattle.program.specs.Program.{Program, rule_in, variable_in}
use Rattle.program.specs.Variables.{not_past}
use Rattle.program.specs.Readings.{valued}
use Rattle.program.specs.Evaluate.{evaluate}
use Rattle.program.specs.declared.Variable.{Variable}
use Rattle.bodies.specs.Readings.{reading_of}
use Rattle.evaluation.specs.Past.{past_only}
use Rattle.run.specs.Running.{head_of, stopped, demand_of, LookedAt}
use Rattle.run.proofs.RunLaws.{looked, unstopped}

past_demand : (x : Variable) (z : ℤ) (g : Option ℤ) → demand_of x (past_only x z g) z ≡ demand_of x g z
unfolding demand_of past_only
past_demand x z None = refl
past_demand x z (Some a) = go (not_past x a z) refl
  where
    go : (t : Bool) → not_past x a z ≡ t → demand_of x (cond t None (Some a)) z ≡ cond (not_past x a z) None (Some a)
    go true e = rw e
    go false e = refl

-- what the code found, of the code's variable x and value z, where lifts do not stop
pub looked_past : (P : Program) (mask : ℕ) {cut : Bool} (stops others m : List ℤ) (i : ℕ) {x : Variable} {p : Option ℤ} {z : ℤ} {d : Option ℤ} → d ≡ demand_of x p z
    → p ≡ past_only x z (evaluate (rule_in P.rules i) (reading_of mask m others (rule_in P.rules i).terms)) → x ≡ variable_in P.variables (head_of P i)
    → z ≡ valued m (head_of P i) → cut ≡ false → LookedAt P mask cut stops others m i d
looked_past P mask {cut} stops others m i {x} {p} {z} {d} a b o e c =
    let g : (Option ℤ) = evaluate (rule_in P.rules i) (reading_of mask m others (rule_in P.rules i).terms) in
    let q : d ≡ demand_of x g z = (rw b at a) ∙ past_demand x z g in
    let s : g ≡ stopped cut x (valued stops (head_of P i)) mask g = rw c (rw (unstopped x (valued stops (head_of P i)) mask g) refl) in
    looked P mask cut stops others m i q s o refl e refl
