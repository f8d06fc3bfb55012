-- One walk after another, whatever their stops: what is reached from what is reached is reached.
use Prim.Native.Nat.{ℕ, ◌+◌, ◌≤◌, ◌<◌}
use mathlib.Core.Path.{◌≡◌}
use mathlib.Core.Bool.{Bool, true}
use native.Mathlib.Omega.{arith}
use Rattle.walks.specs.Walk.{Walk, edge, step, BeforeRound}
use Rattle.walks.proofs.Walks.{StopsBelow, before_walk, walk_before}

module _ {e : ℕ → ℕ → Bool} where
  -- more stops may be allowed
  raised : {a b i j : ℕ} → a ≤ b → Walk e a i j → Walk e b i j
  raised h (edge p) = edge p
  raised h (step p l w) = step p (omega arith) (raised h w)

  stopped : {k i m j : ℕ} → m ≤ k → Walk e k i m → Walk e k m j → Walk e k i j
  stopped h (edge p) v = step p h v
  stopped h (step p l w) v = step p l (stopped h w v)

  pub joined : {a b i m j : ℕ} → Walk e a i m → Walk e b m j → (n : ℕ) × Walk e n i j
  joined {a} {b} {m = m} w v = (a + b + m, stopped (omega arith) (raised (omega arith) w) (raised (omega arith) v))

-- sets of which every stop had its round
pub reached_over : {e r : ℕ → ℕ → Bool} {variables k : ℕ} → BeforeRound e r variables k → StopsBelow e k
    → (i m j : ℕ) → i < variables → m < variables → j < variables → r i m ≡ true → r m j ≡ true → r i j ≡ true
reached_over h stops i m j hi hm hj p q =
    walk_before h stops i j hi hj (joined (before_walk h i m hi hm p).1 (before_walk h m j hm hj q).1).1
