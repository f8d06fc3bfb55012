-- The entries of the report: how many there are, and their bytes.
use Prim.Native.Nat.{ℕ, zero, suc, ◌+◌, ◌*◌, ◌≤◌, ◌<◌}
use mathlib.Core.Path.{◌≡◌, refl, sym, ap, ap₂, ◌∙◌}
use mathlib.Core.Bool.{Bool, true, false}
use mathlib.Core.List.{List, [], ◌∷◌, ◌++◌, append_assoc, append-nil}
use native.Mathlib.Nat.{add-zero, zero-add}
use native.Mathlib.Decide.{ℕ_discrete}
use native.Mathlib.Numerals.{add-one}
use native.Mathlib.Omega.{arith}
use lib.ListN.{length, length-append}
use Rattle.format.specs.Numbers.{bytes_of}
use Rattle.words.specs.Bit.{one_if, count_from}
use Rattle.sets.proofs.Counts.{count_split}
use Rattle.report.specs.Report.{Entry, entry, entry_bytes, bytes_in, at_most, at_least, ascending, only, bound_mark, bounds_of, conditions_of}
use Rattle.report.specs.Written.{marked_of}
use Rattle.program.specs.Program.{variable_in}
use Rattle.program.specs.Readings.{Valuation}
use Rattle.program.specs.declared.Variable.{Variable}

-- variables with no entry
pub ascending_skip : (f : ℕ → List Entry) (n k : ℕ) → ((v : ℕ) → n ≤ v → v < k → f v ≡ []) → n ≤ k → ascending f k ≡ ascending f n
unfolding ascending
ascending_skip f n zero h l = let e : zero ≡ n = omega arith in ap (ascending f) e
ascending_skip f n (suc k) h l = go (ℕ_discrete n (suc k)) (λ m. ascending_skip f n k (λ v a b. h v a (omega arith)) m)
  where
    go : Dec (n ≡ suc k) → (n ≤ k → ascending f k ≡ ascending f n) → ascending f k ++ f k ≡ ascending f n
    go (yes e) rest = sym (ap (ascending f) e)
    go (no g) rest =
        ap (λ (r : List Entry). ascending f k ++ r) (h k (omega arith) (omega arith)) ∙ append-nil (ascending f k) ∙ rest (omega arith)

-- none from n on
pub ascending_past : (f : ℕ → List Entry) (n k : ℕ) → ((v : ℕ) → n ≤ v → f v ≡ []) → n ≤ k → ascending f k ≡ ascending f n
ascending_past f n k h l = ascending_skip f n k (λ v a b. h v a) l

count_more : (p : ℕ → Bool) (n : ℕ) → count_from p 0 (suc n) ≡ count_from p 0 n + one_if (p n)
unfolding count_from
count_more p n =
    ap (count_from p 0) (sym (add-one n))
    ∙ count_split p n 1 0
    ∙ ap (λ (k : ℕ). count_from p 0 n + k) (add-zero (one_if (p (0 + n))) ∙ ap (λ (k : ℕ). one_if (p k)) (zero-add n))

only_length : (b : Bool) (e : Entry) → length (only b e) ≡ one_if b
only_length true e = refl
only_length false e = refl

-- an entry for each variable of a set
pub bounds_count : (vs : List Variable) (p : ℕ → Bool) (m : Valuation) (n : ℕ) → length (ascending (bounds_of vs p m) n) ≡ count_from p 0 n
unfolding ascending count_from
bounds_count vs p m zero = refl
bounds_count vs p m (suc n) =
    length-append (ascending (bounds_of vs p m) n) (bounds_of vs p m n)
    ∙ ap₂ ◌+◌ (bounds_count vs p m n) (only_length (p n) (entry n (bound_mark (variable_in vs n)) (m n)))
    ∙ sym (count_more p n)

-- and for each of two, whatever the marks
pub marked_count : (p q : ℕ → Bool) (a b : ℕ) (m : Valuation) (n : ℕ) → length (ascending (marked_of p a q b m) n) ≡ count_from p 0 n + count_from q 0 n
unfolding ascending count_from
marked_count p q a b m zero = refl
marked_count p q a b m (suc n) =
    let one = only (p n) (entry n a (m n)) in
    let other = only (q n) (entry n b (m n)) in
    let r = marked_count p q a b m n in
    omega (
      arith,
      length-append (ascending (marked_of p a q b m) n) (one ++ other),
      length-append one other,
      only_length (p n) (entry n a (m n)),
      only_length (q n) (entry n b (m n)),
      count_more p n,
      count_more q n,
    )

pub conditions_count : (p q : ℕ → Bool) (θ : Valuation) (n : ℕ) → length (ascending (conditions_of p q θ) n) ≡ count_from p 0 n + count_from q 0 n
conditions_count p q θ n = marked_count p q at_most at_least θ n

pub bytes_append : (es fs : List Entry) → bytes_in (es ++ fs) ≡ bytes_in es ++ bytes_in fs
unfolding bytes_in
bytes_append [] fs = refl
bytes_append (e ∷ es) fs =
    ap (λ (r : List ℕ). entry_bytes e ++ r) (bytes_append es fs) ∙ sym (append_assoc (entry_bytes e) (bytes_in es) (bytes_in fs))

-- four bytes for each entry
pub bytes_length : (es : List Entry) → length (bytes_in es) ≡ 4 * length es
unfolding bytes_in bytes_of
bytes_length [] = refl
bytes_length (e ∷ es) = let r = bytes_length es in omega (arith, length-append (entry_bytes e) (bytes_in es))
