-- What the variables of a file say of their values, one after the other.
use Rattle.std.specs.Prelude.{Some, None}
use Prim.Native.Nat.{ℕ}
use mathlib.Core.Path.{◌≡◌}
use mathlib.Core.List.{List}
use lib.IntN.{ℤ}
use Rattle.program.specs.Program.{Program, variable_in, variables_at}
use Rattle.reader.proofs.Published.{variables_length}
use Rattle.meaning.specs.LeastCall.{FirstOutside, AllInside}
use Rattle.reduct.specs.Filling.{OutsideIs}
use Rattle.program.specs.Readings.{Valuation}
use Rattle.program.specs.Variables.{in_range}
use Rattle.program.specs.declared.Variable.{Variable}

module _ (s : List ℕ) (n : ℕ) (θ : Valuation) where
  -- the record that was read is that of the variable
  pub inside_variable : (v : ℕ) {a : ℤ} {x : Variable} → x ≡ variable_in (variables_at s n) v → a ≡ θ v → in_range x a ≡ in_range (variable_in (variables_at s n) v) (θ v)
  inside_variable v p e = rw (p, e)

-- ---- for a program of these variables

module _ (P : Program) (s : List ℕ) (n : ℕ) (θ : Valuation) (e : P.variables ≡ variables_at s n) where
  pub first_outside : {v : ℕ} → OutsideIs (variables_at s n) θ n (Some v) → FirstOutside P θ v
  first_outside {v} o = rw e (record { declared = rw (variables_length s n) o.0; outside = o.1; first = o.2 })

  pub all_inside : OutsideIs (variables_at s n) θ n None → AllInside P θ
  all_inside o v h = rw e (o v (rw (e, variables_length s n) at h))
