-- Wrong numbers of two bytes, refuted on a sample.
use Prim.Native.Nat.{ℕ, ◌<◌}
use mathlib.Core.Path.{◌≡◌, sym, ◌∙◌}
use lib.Dec.{lit<}
use lib.IntN.{ℤ, pos}
use Rattle.format.specs.Numbers.{signed}
use Rattle.format.proofs.Int.{int}

-- a reader of two bytes whose every answer is the specification's reads ff ff as -1: one's complement would have 0
module _ (number : ℕ → ℕ → ℤ) (right : (high low : ℕ) → high < 256 → low < 256 → number high low ≡ signed high low) where
  pub not_one_complement : number 0xFF 0xFF ≡ pos 0 → ⊥
  not_one_complement e = let q : signed 0xFF 0xFF ≡ pos 0 = sym (right 0xFF 0xFF (lit< tt) (lit< tt)) ∙ e in omega int
