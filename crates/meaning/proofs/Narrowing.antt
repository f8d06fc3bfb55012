-- A reckoning that narrows a program has its order and its starting ends, and its ranges lie inside the declared ones.
use Prim.Native.Nat.{ℕ}
use mathlib.Core.Path.{◌≡◌, refl, ap₂}
use mathlib.Core.Bool.{cond}
use lib.Dec.{T}
use lib.IntN.{ℤ}
use Rattle.program.specs.Program.{Program, variable_in}
use Rattle.program.specs.Variables.{is_founded, swaps, start, far, not_past, in_range, started}
use Rattle.program.specs.Readings.{Valuation}
use Rattle.program.proofs.Variables.{past_trans, start_first, far_last, between}
use Rattle.meaning.specs.Founded.{Within}
use Rattle.meaning.specs.Reduct.{Reckoning, reckoned, reduct, system}
use Rattle.meaning.specs.Narrowing.{Narrows}

pub reduct_narrows : (P : Program) → Narrows P (reduct P)
reduct_narrows P = record { kind_is = λ v. refl; start_is = λ v. refl; inside = λ v a t. t }

module _ {P : Program} {R : Reckoning} (n : Narrows P R) where
  pub narrows_founded : (v : ℕ) → is_founded (R.variable v) ≡ is_founded (variable_in P.variables v)
  narrows_founded v = rw (n.kind_is v)

  pub narrows_past : (v : ℕ) (a b : ℤ) → not_past (R.variable v) a b ≡ not_past (variable_in P.variables v) a b
  unfolding not_past swaps
  narrows_past v a b = rw (n.kind_is v)

  pub narrows_started : (v : ℕ) (a : ℤ) → started (R.variable v) a ≡ started (variable_in P.variables v) a
  narrows_started v a = ap₂ (λ b s. cond b s a) (narrows_founded v) (n.start_is v)

  pub narrows_within : {m : Valuation} → Within (reckoned P R) m → Within (system P) m
  narrows_within {m} w = record { inside = λ v. n.inside v (m v) (w.inside v) }

  -- a value that is no further than the far end is no further than the declared one
  pub narrows_far : (v : ℕ) (a b : ℤ) → T (in_range (R.variable v) a) → T (not_past (R.variable v) a b) → T (not_past (R.variable v) b (far (R.variable v)))
      → T (not_past (variable_in P.variables v) b (far (variable_in P.variables v)))
  narrows_far v a b i h k =
      let x = R.variable v in
      far_last (variable_in P.variables v) b (n.inside v b (between x b (past_trans x (start x) a b (start_first x a i) h) k))
