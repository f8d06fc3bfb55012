-- Bytes from a place on, two at a time.
use Prim.Native.Nat.{ℕ, suc, ◌+◌, ◌<◌, ◌≤◌}
use mathlib.Core.Path.{◌≡◌, ap, ◌∙◌}
use mathlib.Core.List.{List, [], ◌∷◌}
use native.Mathlib.Omega.{arith}
use lib.ListN.{length, drop, get_or, length-drop}
use lib.Seq.{drop-cons}

-- two bytes and those after them
pub drop_two : (s : List ℕ) (at : ℕ) → at + 1 < length s → drop at s ≡ get_or s at 0 ∷ get_or s (at + 1) 0 ∷ drop (at + 2) s
drop_two s at h =
    let p : suc at ≡ at + 1 = omega arith in
    let q : suc (at + 1) ≡ at + 2 = omega arith in
    drop-cons s at 0 (omega arith)
    ∙ ap (λ (n : ℕ). get_or s at 0 ∷ drop n s) p
    ∙ ap (λ (xs : List ℕ). get_or s at 0 ∷ xs) (drop-cons s (at + 1) 0 h)
    ∙ ap (λ (n : ℕ). get_or s at 0 ∷ get_or s (at + 1) 0 ∷ drop n s) q

-- what is said of no byte and of one holds where no two are left
pub drop_less : {A : Type 0} (f : List ℕ → A) (e : A) → f [] ≡ e → ((a : ℕ) → f (a ∷ []) ≡ e) → (s : List ℕ) (at : ℕ) → length s ≤ at + 1 → f (drop at s) ≡ e
drop_less {A} f e none one s at h = go (drop at s) (simp length-drop (omega arith))
  where
    go : (xs : List ℕ) → length xs ≤ 1 → f xs ≡ e
    go [] k = none
    go (a ∷ []) k = one a
    go (a ∷ b ∷ rest) k = absurd (let f : ⊥ = omega arith in f)
