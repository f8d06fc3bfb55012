-- What is written, two bytes a variable, reads back as it was.
use Prim.Native.Nat.{ℕ, zero, suc, ◌+◌, ◌*◌, ◌<◌}
use mathlib.Core.Path.{◌≡◌, refl, ap, ap₂, ◌∙◌}
use mathlib.Core.List.{List, ◌++◌, append_assoc}
use native.Mathlib.Omega.{arith}
use lib.IntN.{nat_abs}
use lib.ListN.{length, get_or, length-append}
use lib.Seq.{get_or-append-add}
use Rattle.format.specs.Numbers.{signed, bytes_of}
use Rattle.format.proofs.Ints.{read_written}
use Rattle.program.specs.Readings.{Valuation}
use Rattle.program.proofs.Conditions.{last_or}
use Rattle.meaning.specs.LeastCall.{written}
use Rattle.meaning.specs.Stable.{assigned}

module _ (m : Valuation) where
  pub written_length : (n : ℕ) → length (written m n) ≡ 2 * n
  unfolding written bytes_of
  written_length zero = refl
  written_length (suc n) = let r = written_length n in omega (arith, length-append (written m n) (bytes_of (m n)))

  -- the two bytes after the first n variables
  written_last : (n : ℕ) (rest : List ℕ) → nat_abs (m n) < 32768 → assigned (written m n ++ (bytes_of (m n) ++ rest)) n ≡ m n
  unfolding bytes_of
  written_last n rest s =
      let xs = written m n in
      let ys = bytes_of (m n) ++ rest in
      let a : 2 * n ≡ length xs + 0 = omega (arith, written_length n) in
      let b : 2 * n + 1 ≡ length xs + 1 = omega (arith, written_length n) in
      ap₂ signed (ap (λ k. get_or (xs ++ ys) k 0) a ∙ get_or-append-add xs ys 0 0) (ap (λ k. get_or (xs ++ ys) k 0) b ∙ get_or-append-add xs ys 1 0) ∙ read_written (m n) s

  pub written_reads : (n : ℕ) (rest : List ℕ) (v : ℕ) → v < n → nat_abs (m v) < 32768 → assigned (written m n ++ rest) v ≡ m v
  unfolding written
  written_reads zero rest v h = let f : ⊥ = omega arith in absurd f
  written_reads (suc n) rest v h =
      rw (append_assoc (written m n) (bytes_of (m n)) rest)
      (last_or (λ v. nat_abs (m v) < 32768 → assigned (written m n ++ (bytes_of (m n) ++ rest)) v ≡ m v) n v h (written_reads n (bytes_of (m n) ++ rest) v)
      (written_last n rest))
