-- A list whose first values are replaced, one after the other.
use Prim.Native.Nat.{ℕ, zero, suc, ◌+◌, ◌*◌, ◌/◌, ◌<◌, ◌≤◌}
use mathlib.Core.Path.{◌≡◌, refl, sym, ◌∙◌}
use mathlib.Core.List.{List}
use mathlib.Core.Bool.{Bool, true, false}
use native.Mathlib.Omega.{arith}
use lib.Dec.{ltb}
use borrow.Author.Tests.{ltb-true, ltb-false}
use borrow.Author.Count.{below_more}
use lib.IntN.{ℤ, pos}
use lib.ListN.{length, set, replicate}
use lib.Seq.{get_or-set_same, get_or-set_other}
use Rattle.format.specs.Numbers.{signed_at}
use Rattle.meaning.specs.Stable.{assigned}
use Rattle.meaning.proofs.InRanges.{signed_past}
use Rattle.reduct.specs.Filling.{Filled}
use Rattle.program.specs.Readings.{Valuation, valued}

pub filled_none : (m : Valuation) (ms : List ℤ) → Filled m 0 ms ms
filled_none m ms = record { below = λ v l. absurd (omega arith); past = λ v l. refl }

pub filled_more : {m : Valuation} {n : ℕ} {ms ms' : List ℤ} (a : ℤ) → n < length ms' → Filled m n ms ms' → a ≡ m n → Filled m (n + 1) ms (set ms' n a)
filled_more {m} {n} {ms} {ms'} a h f e = record {
  below = below_more (λ (v : ℕ). valued (set ms' n a) v ≡ m v) n (λ v l. get_or-set_other ms' n v a (pos 0) (λ q. omega arith) ∙ f.below v l)
      (get_or-set_same ms' n a (pos 0) h ∙ e);
  past = λ v l. get_or-set_other ms' n v a (pos 0) (λ q. omega arith) ∙ f.past v (omega arith);
}

pub filled_done : {m : Valuation} {n k : ℕ} {ms ms' : List ℤ} → k ≡ n → Filled m k ms ms' → Filled m n ms ms'
filled_done e f = rw e at f

-- the first n numbers of a list of bytes, that of v standing at `at v`, loaded over zeros are read from the list at every variable
pub loaded_as : (g : List ℕ) (at : ℕ → ℕ) (n : ℕ) {ms ms' : List ℤ} → ((v : ℕ) → n ≤ v → length g ≤ at v) → Filled (λ v. signed_at g (at v)) n ms ms'
    → ((v : ℕ) → valued ms v ≡ pos 0) → (v : ℕ) → valued ms' v ≡ signed_at g (at v)
loaded_as g at n {ms} {ms'} past f z v = go (ltb v n) refl
  where
    go : (t : Bool) → ltb v n ≡ t → valued ms' v ≡ signed_at g (at v)
    go true q = f.below v (ltb-true v n q)
    go false q = let l = ltb-false v n q in f.past v l ∙ z v ∙ sym (signed_past g (at v) (past v l))

-- an assignment of n variables
pub loaded_whole : (a : List ℕ) (n : ℕ) {ms ms' : List ℤ} → length a ≡ 2 * n → Filled (assigned a) (length a / 2) ms ms'
    → ((v : ℕ) → valued ms v ≡ pos 0) → (v : ℕ) → valued ms' v ≡ assigned a v
loaded_whole a n e f z = let q : length a / 2 ≡ n = omega arith in loaded_as a (λ v. 2 * v) n (λ v l. omega arith) (filled_done q f) z

-- a list of zeros
pub zeros : (n v : ℕ) → valued (replicate n (pos 0)) v ≡ pos 0
zeros zero v = refl
zeros (suc n) zero = refl
zeros (suc n) (suc v) = zeros n v
