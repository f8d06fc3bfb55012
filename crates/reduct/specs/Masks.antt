-- A test of positions, as the bits of a word.
use Rattle.std.specs.Prelude.{ℕ, ◌^◌, ◌<◌, ◌≤◌, ◌≡◌, Bool, false}
use Rattle.words.specs.Bit.{bit}

-- the first n bits of w are those of p, and it has no other
pub record Mask (p : ℕ → Bool) (n w : ℕ) : Type 0 where
  pub below : (i : ℕ) → i < n → bit w i ≡ p i
  pub past : (i : ℕ) → n ≤ i → bit w i ≡ false
  pub small : w < 2 ^ n
