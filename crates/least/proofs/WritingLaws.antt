-- A buffer whose first bytes are written, two at a time.
use Prim.Native.Nat.{ℕ, suc, ◌+◌, ◌*◌, ◌/◌, ◌%◌, ◌<◌}
use mathlib.Core.Path.{◌≡◌, refl, sym, ap, ap₂, ◌∙◌}
use mathlib.Core.List.{List, [], ◌∷◌, ◌++◌, append_assoc}
use native.Mathlib.Numerals.{add-one}
use native.Mathlib.Omega.{arith}
use lib.ListN.{length, get_or, set, drop, length-append}
use lib.Seq.{drop-cons, set-append_seam}
use mir.Syntax.{w16}
use mir.Val.{of_z}
use Rattle.format.specs.Numbers.{bytes_of}
use Rattle.meaning.specs.LeastCall.{written}
use Rattle.meaning.proofs.Written.{written_length}
use Rattle.program.specs.Readings.{Valuation}

-- the two bytes after what is written
two_more : (xs b : List ℕ) (k high low : ℕ) → length xs ≡ k → k + 1 < length b
    → set (set (xs ++ drop k b) k high) (k + 1) low ≡ (xs ++ high ∷ low ∷ []) ++ drop (k + 2) b
two_more xs b k high low e h =
    let rest = drop (suc (suc k)) b in
    let d : drop k b ≡ get_or b k 0 ∷ get_or b (suc k) 0 ∷ rest =
    drop-cons b k 0 (omega arith) ∙ ap (λ (r : List ℕ). get_or b k 0 ∷ r) (drop-cons b (suc k) 0 (omega arith)) in
    let one : set (xs ++ drop k b) k high ≡ xs ++ high ∷ get_or b (suc k) 0 ∷ rest =
    ap₂ (λ (r : List ℕ) (i : ℕ). set (xs ++ r) i high) d (sym e) ∙ set-append_seam xs (get_or b k 0) (get_or b (suc k) 0 ∷ rest) high in
    let n : k + 1 ≡ length (xs ++ high ∷ []) = omega (arith, length-append xs (high ∷ [])) in
    ap₂ (λ (r : List ℕ) (i : ℕ). set r i low) (one ∙ sym (append_assoc xs (high ∷ []) (get_or b (suc k) 0 ∷ rest))) n
    ∙ set-append_seam (xs ++ high ∷ []) (get_or b (suc k) 0) rest low
    ∙ append_assoc xs (high ∷ []) (low ∷ rest)
    ∙ sym (append_assoc xs (high ∷ low ∷ []) rest)
    ∙ ap (λ (i : ℕ). (xs ++ high ∷ low ∷ []) ++ drop i b) (let q : suc (suc k) ≡ k + 2 = omega arith in q)

module _ (m : Valuation) (b : List ℕ) where
  pub written_none : b ≡ written m 0 ++ drop 0 b
  unfolding written
  written_none = refl

  pub written_more : (v : ℕ) {b' : List ℕ} {high low : ℕ} → 2 * v + 1 < length b → b' ≡ written m v ++ drop (2 * v) b
      → high ≡ of_z w16 (m v) / 256 → low ≡ of_z w16 (m v) % 256
      → set (set b' (2 * v) high) (2 * v + 1) low ≡ written m (v + 1) ++ drop (2 * (v + 1)) b
  unfolding written bytes_of
  written_more v {b'} {high} {low} h e p q =
      ap (λ (r : List ℕ). set (set r (2 * v) high) (2 * v + 1) low) e
      ∙ two_more (written m v) b (2 * v) high low (written_length m v) h
      ∙ ap₂ (λ (x y : ℕ). (written m v ++ x ∷ y ∷ []) ++ drop (2 * v + 2) b) p q
      ∙ ap₂ (λ (r : List ℕ) (i : ℕ). r ++ drop i b) (ap (written m) (sym (add-one v))) (let z : 2 * v + 2 ≡ 2 * (v + 1) = omega arith in z)

  pub written_done : {v n : ℕ} {b' : List ℕ} → v ≡ n → b' ≡ written m v ++ drop (2 * v) b → b' ≡ written m n ++ drop (2 * n) b
  written_done e h = rw e at h
