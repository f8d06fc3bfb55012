-- Assignments in their ranges. Past the last variable stands one of range 0..0, and an assignment reads 0 there.
use Prim.Native.Nat.{ℕ, zero, suc, ◌+◌, ◌*◌, ◌<◌, ◌≤◌}
use mathlib.Core.Path.{◌≡◌}
use mathlib.Core.List.{List, [], ◌∷◌}
use native.Mathlib.Omega.{arith}
use lib.IntN.{ℤ, pos, nat_abs}
use lib.ListN.{length, get_or-eq_default}
use lib.Dec.{T, ltb, ltb→lt, nltb→le}
use Rattle.format.specs.Limits.{max_number}
use Rattle.format.specs.Numbers.{signed_at}
use Rattle.format.proofs.Int.{int}
use Rattle.program.specs.Program.{Program, no_variable, variable_in}
use Rattle.program.proofs.Promises.{VariablePromise, Promises}
use Rattle.meaning.specs.Founded.{Within}
use Rattle.meaning.specs.Reduct.{system}
use Rattle.meaning.specs.Stable.{assigned}
use Rattle.meaning.specs.LeastCall.{AllInside}
use Rattle.program.specs.Variables.{is_founded, in_range}
use Rattle.program.specs.Readings.{Valuation, valued}
use Rattle.program.specs.declared.Variable.{Variable}
use Rattle.program.specs.Evaluable.{Small}
use Rattle.program.proofs.Tests.{cases, is_true, is_test}
use Rattle.program.proofs.Variables.{low_in_is, high_in_is, between_small}

-- a founded variable is declared
pub founded_declared : (vs : List Variable) (v : ℕ) → T (is_founded (variable_in vs v)) → v < length vs
founded_declared vs v t = cases (ltb v (length vs)) (λ b. v < length vs) (ltb→lt v (length vs))
    (λ n. let e : T (is_founded no_variable) = rw (get_or-eq_default vs no_variable (nltb→le v (length vs) n)) at t in absurd e)

-- two bytes past the end of a list are 0
pub signed_past : (g : List ℕ) (i : ℕ) → length g ≤ i → signed_at g i ≡ pos 0
signed_past g i h =
    let k : length g ≤ i + 1 = omega arith in
    rw (get_or-eq_default g 0 h, get_or-eq_default g 0 k)

pub assigned_past : (a : List ℕ) (v : ℕ) → length a ≤ 2 * v → assigned a v ≡ pos 0
assigned_past a v h = signed_past a (2 * v) h

module _ (P : Program) {θ : Valuation} where
  pub inside_within : ((v : ℕ) → length P.variables ≤ v → θ v ≡ pos 0) → AllInside P θ → Within (system P) θ
  inside_within past i = record { inside = at }
    where
      vs : List Variable
      vs = P.variables

      at : (v : ℕ) → T (in_range (variable_in vs v) (θ v))
      at v = cases (ltb v (length vs)) (λ b. T (in_range (variable_in vs v) (θ v))) (λ t. is_test (i v (ltb→lt v (length vs) t)))
          (λ n. let h = nltb→le v (length vs) n in rw (get_or-eq_default vs no_variable h, past v h) tt)

  pub within_inside : Within (system P) θ → AllInside P θ
  within_inside w v h = is_true (in_range (variable_in P.variables v) (θ v)) (w.inside v)

  pub past_zero : Within (system P) θ → (v : ℕ) → length P.variables ≤ v → θ v ≡ pos 0
  past_zero w v h =
      let e : T (in_range no_variable (θ v)) = rw (get_or-eq_default P.variables no_variable h) at (w.inside v) in
      let a = low_in_is no_variable (θ v) e in
      let b = high_in_is no_variable (θ v) e in
      omega int

pub assigned_within : (P : Program) (a : List ℕ) → length a ≤ 2 * length P.variables → AllInside P (assigned a) → Within (system P) (assigned a)
assigned_within P a h = inside_within P (λ v k. assigned_past a v (omega arith))

-- ---- values in their ranges are small

ranged : (vs : List Variable) (x : ℕ) → ((y : ℕ) → y < length vs → VariablePromise (variable_in vs y))
    → (nat_abs (variable_in vs x).low ≤ max_number) × (nat_abs (variable_in vs x).high ≤ max_number)
ranged [] x h = (omega arith, omega arith)
ranged (v ∷ vs) zero h = let p = h 0 (omega arith) in (p.low_small, p.high_small)
ranged (v ∷ vs) (suc x) h = ranged vs x (λ y l. h (suc y) (omega arith))

pub value_small : {P : Program} → Promises P → {m : Valuation} → Within (system P) m → (v : ℕ) → nat_abs (m v) ≤ max_number
value_small {P} p {m} w v =
    let r = ranged P.variables v p.variables in
    let x = variable_in P.variables v in
    between_small max_number x.low (m v) x.high (low_in_is x (m v) (w.inside v)) (high_in_is x (m v) (w.inside v)) r.0 r.1

pub within_small : {P : Program} → Promises P → (m : List ℤ) → Within (system P) (valued m) → Small m
within_small p m = value_small p
