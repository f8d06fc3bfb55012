-- Steps from one value to another, what a weighted term gains by them, and what falls short by n steps.
use Prim.Native.Nat.{ℕ, suc, ◌+◌, ◌*◌, ◌≤◌}
use mathlib.Core.Path.{◌≡◌, refl, sym, ap}
use mathlib.Core.Bool.{not, cond}
use lib.Dec.{T}
use lib.IntN.{ℤ, pos, negsuc, neg_ℤ, nat_abs, ◌+ℤ◌, ◌-ℤ◌, ◌*ℤ◌}
use lib.Signed.{◌≤ℤ◌, le_z, lt_z}
use Rattle.format.proofs.Int.{int, up, dn, sum_is, neg_is, product_is, abs_is, not_negative, not_positive}
use Rattle.program.specs.Variables.{from_above, swaps, not_past, ahead}
use Rattle.program.specs.Directions.{by_sign, opposite, away, is_rising}
use Rattle.program.specs.declared.Direction.{Direction}
use Rattle.program.specs.declared.Direction.TheVariants.{Rising, Falling, Mixed}
use Rattle.program.specs.declared.Variable.{Variable}
use Rattle.program.proofs.Tests.{cases}
use Rattle.program.proofs.Monotone.{Moves}
use Rattle.steady.specs.Estimate.{distance}
use Rattle.steady.specs.Short.{ShortBy}

-- ---- steps

module _ (a b : ℤ) where
  pub distance_up : a ≤ℤ b → distance a b + up a + dn b ≡ up b + dn a
  unfolding distance
  distance_up h = omega (int, abs_is (b -ℤ a), sum_is b (neg_ℤ a), neg_is a, not_negative {z = b -ℤ a} (omega (int, sum_is b (neg_ℤ a), neg_is a)))

  pub distance_down : b ≤ℤ a → distance a b + up b + dn a ≡ up a + dn b
  unfolding distance
  distance_down h = omega (int, abs_is (b -ℤ a), sum_is b (neg_ℤ a), neg_is a, not_positive {z = b -ℤ a} (omega (int, sum_is b (neg_ℤ a), neg_is a)))

  pub distance_most : distance a b ≤ nat_abs a + nat_abs b
  distance_most = cases (le_z a b) (λ t. distance a b ≤ nat_abs a + nat_abs b)
      (λ t. omega (int, distance_up (omega int), abs_is a, abs_is b))
      (λ t. omega (int, distance_down (omega int), abs_is a, abs_is b))

-- either way round
pub distance_back : (a b : ℤ) → distance a b ≡ distance b a
distance_back a b = cases (le_z a b) (λ t. distance a b ≡ distance b a)
    (λ t. omega (int, distance_up a b (omega int), distance_down b a (omega int)))
    (λ t. omega (int, distance_down a b (omega int), distance_up b a (omega int)))

-- no steps
pub distance_none : (a b : ℤ) → distance a b ≡ 0 → b ≡ a
distance_none a b e = cases (le_z a b) (λ t. b ≡ a) (λ t. omega (int, distance_up a b (omega int))) (λ t. omega (int, distance_down a b (omega int)))

-- of two values at or after a, the one that is at most n steps short of the other is at most n steps nearer
pub short_distance : (x : Variable) (n : ℕ) (a b c : ℤ) → T (not_past x a b) → T (not_past x a c) → ShortBy n x b c → distance a b ≤ distance a c + n
unfolding not_past ahead swaps
short_distance x n a b c =
    cases (from_above x)
    (λ t. T (cond t (le_z b a) (le_z a b)) → T (cond t (le_z c a) (le_z a c)) → cond t (neg_ℤ b) b ≤ℤ (cond t (neg_ℤ c) c +ℤ pos n) → distance a b ≤ distance a c + n)
    (λ t h k s. omega (int, distance_down a b (omega int), distance_down a c (omega int), neg_is b, neg_is c, sum_is (neg_ℤ c) (pos n)))
    (λ t h k s. omega (int, distance_up a b (omega int), distance_up a c (omega int), sum_is c (pos n)))

-- ---- what a weighted term gains

gain-natural : (k a b : ℤ) → T (not (lt_z k (pos 0))) → a ≤ℤ b → (k *ℤ a +ℤ pos (nat_abs k * distance a b)) ≤ℤ (k *ℤ b)
gain-natural (pos m) a b t h =
    omega (int, product_is (pos m) a, product_is (pos m) b, sum_is (pos m *ℤ a) (pos (m * distance a b)), ap (λ (z : ℕ). m * z) (distance_up a b h))
gain-natural (negsuc m) a b t h = absurd t

gain_negative : (k a b : ℤ) → T (lt_z k (pos 0)) → b ≤ℤ a → (k *ℤ a +ℤ pos (nat_abs k * distance a b)) ≤ℤ (k *ℤ b)
gain_negative (pos m) a b t h = let f : ⊥ = omega int in absurd f
gain_negative (negsuc m) a b t h =
    omega (int, product_is (negsuc m) a, product_is (negsuc m) b, sum_is (negsuc m *ℤ a) (pos (suc m * distance a b)), ap (λ (z : ℕ). suc m * z) (distance_down a b h))

-- a value that has moved the way its coefficient asks
pub gain : (k a b : ℤ) → Moves (by_sign k) a b → (k *ℤ a +ℤ pos (nat_abs k * distance a b)) ≤ℤ (k *ℤ b)
gain k a b = cases (lt_z k (pos 0)) (λ t. Moves (cond t Falling Rising) a b → (k *ℤ a +ℤ pos (nat_abs k * distance a b)) ≤ℤ (k *ℤ b)) (gain_negative k a b) (gain-natural k a b)

-- ---- short in a direction

-- b is at most n steps short of a in this direction
abbrev pub Slack : ℕ → Direction → ℤ → ℤ → Type 0
Slack n Rising a b = a ≤ℤ (b +ℤ pos n)
Slack n Falling a b = b ≤ℤ (a +ℤ pos n)
Slack n Mixed a b = a ≡ b

pub slack_same : (n : ℕ) (d : Direction) (a : ℤ) → Slack n d a a
slack_same n Rising a = omega (int, sum_is a (pos n))
slack_same n Falling a = omega (int, sum_is a (pos n))
slack_same n Mixed a = refl

pub slack_more : {n m : ℕ} → n ≤ m → (d : Direction) (a b : ℤ) → Slack n d a b → Slack m d a b
slack_more {n} {m} h Rising a b s = omega (int, sum_is b (pos n), sum_is b (pos m))
slack_more {n} {m} h Falling a b s = omega (int, sum_is a (pos n), sum_is a (pos m))
slack_more h Mixed a b s = s

pub slack_back : (n : ℕ) (d : Direction) (a b : ℤ) → Slack n (opposite d) a b → Slack n d b a
slack_back n Rising a b s = s
slack_back n Falling a b s = s
slack_back n Mixed a b s = sym s

pub slack_away : (n : ℕ) (x : Variable) (d : Direction) (a b : ℤ) → T (is_rising (away x d)) → ShortBy n x a b → Slack n d a b
unfolding away ahead swaps
slack_away n x d a b =
    cases (from_above x) (λ t. T (is_rising (cond t (opposite d) d)) → cond t (neg_ℤ a) a ≤ℤ (cond t (neg_ℤ b) b +ℤ pos n) → Slack n d a b) (λ t. above d) (λ t. below d)
  where
    above : (d : Direction) → T (is_rising (opposite d)) → neg_ℤ a ≤ℤ (neg_ℤ b +ℤ pos n) → Slack n d a b
    above Rising t h = absurd t
    above Falling t h = omega (int, neg_is a, neg_is b, sum_is (neg_ℤ b) (pos n), sum_is a (pos n))
    above Mixed t h = absurd t

    below : (d : Direction) → T (is_rising d) → a ≤ℤ (b +ℤ pos n) → Slack n d a b
    below Rising t h = h
    below Falling t h = absurd t
    below Mixed t h = absurd t
