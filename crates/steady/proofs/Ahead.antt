-- A variable's order is that of the whole numbers, by how far a value is ahead.
use mathlib.Core.Bool.{cond}
use lib.Dec.{T}
use lib.IntN.{ℤ, neg_ℤ}
use lib.Signed.{le_z, le_z_yes, ◌≤ℤ◌}
use Rattle.format.proofs.Int.{int, neg_is}
use Rattle.program.specs.Variables.{from_above, swaps, ahead, not_past}
use Rattle.program.specs.declared.Variable.{Variable}
use Rattle.program.proofs.Tests.{cases}

module _ (x : Variable) (a b : ℤ) where
  pub past_ahead : T (not_past x a b) → ahead x a ≤ℤ ahead x b
  unfolding not_past ahead swaps
  past_ahead = cases (from_above x) (λ t. T (cond t (le_z b a) (le_z a b)) → cond t (neg_ℤ a) a ≤ℤ cond t (neg_ℤ b) b) (λ t h. omega (int, neg_is a, neg_is b)) (λ t h. le_z_yes h)

  pub ahead_past : ahead x a ≤ℤ ahead x b → T (not_past x a b)
  unfolding not_past ahead swaps
  ahead_past = cases (from_above x) (λ t. cond t (neg_ℤ a) a ≤ℤ cond t (neg_ℤ b) b → T (cond t (le_z b a) (le_z a b))) (λ t h. omega (int, neg_is a, neg_is b)) (λ t h. h.le)
