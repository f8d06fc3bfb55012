-- Valuations that agree on the leaves and on the inner nodes of trees agree on the variables that stand for them.
use Prim.Native.Nat.{ℕ, zero, suc, ◌+◌, ◌*◌, ◌<◌, ◌≤◌}
use mathlib.Core.Path.{◌≡◌, refl, ap, ap₂, subst}
use mathlib.Core.Bool.{Bool, true, false, cond}
use mathlib.Core.List.{List, [], ◌∷◌, map}
use native.Mathlib.Omega.{arith}
use lib.Dec.{eqb}
use lib.IntN.{ℤ}
use lib.ListN.{length, drop}
use Rattle.program.specs.Encode.{All}
use Rattle.program.proofs.Tests.{cases}
use Rattle.trees.proofs.TwoBytes.{drop_two}
use Rattle.flat.specs.Flat.{children_of, Stand, past, inners_passed, leaves_in, operand_in, operands_in}
use Rattle.flat.proofs.Standing.{stand_rest, passed_add}

-- ---- what all leaves have

module _ (p : ℕ → Type 0) where
  leaves_two : (a b : ℕ) (rest : List ℕ) → All p (leaves_in (a ∷ b ∷ rest)) → All p (leaves_in rest)
  unfolding leaves_in
  leaves_two a b rest = cases (eqb a 0) (λ t. All p (cond t (b ∷ leaves_in rest) (leaves_in rest)) → All p (leaves_in rest)) (λ t h. h.1) (λ t h. h)

  leaves_past : (s : List ℕ) (n : ℕ) → All p (leaves_in s) → All p (leaves_in (past s n))
  unfolding past
  leaves_past [] n h = h
  leaves_past (a ∷ []) n h = h
  leaves_past (a ∷ b ∷ rest) zero h = h
  leaves_past (a ∷ b ∷ rest) (suc n) h = leaves_past rest (children_of a b + n) (leaves_two a b rest h)

  pub leaves_at : (s : List ℕ) → All p (leaves_in s) → (j : ℕ) → 2 * j ≤ length s → All p (leaves_in (drop (2 * j) s))
  leaves_at s h zero k = h
  leaves_at s h (suc j) k =
      let e : 2 * j + 2 ≡ 2 * suc j = omega arith in
      let x = subst (λ (r : List ℕ). All p (leaves_in r)) (drop_two s (2 * j) (omega arith)) (leaves_at s h j (omega arith)) in
      subst (λ (n : ℕ). All p (leaves_in (drop n s))) e (leaves_two _ _ _ x)

-- ---- the variables that stand for trees

module _ (f g : ℕ → ℤ) where
  operand_agrees : (s : List ℕ) (n c : ℕ) → Stand s (suc c) → All (λ x. f x ≡ g x) (leaves_in s)
      → ((i : ℕ) → i < inners_passed s (suc c) → f (n + i) ≡ g (n + i)) → f (operand_in n s) ≡ g (operand_in n s)
  unfolding Stand inners_passed leaves_in
  operand_agrees [] n c x h k = absurd x
  operand_agrees (a ∷ []) n c x h k = absurd x
  operand_agrees (a ∷ b ∷ rest) n c x h k = go (eqb a 0) h k
    where
      go : (t : Bool) → All (λ x. f x ≡ g x) (cond t (b ∷ leaves_in rest) (leaves_in rest))
          → ((i : ℕ) → i < cond t 0 1 + inners_passed rest (cond t 0 b + c) → f (n + i) ≡ g (n + i)) → f (cond t b n) ≡ g (cond t b n)
      go true h k = h.0
      go false h k = let e : n + 0 ≡ n = omega arith in subst (λ (m : ℕ). f m ≡ g m) e (k 0 (omega arith))

  pub operands_agree : (c n : ℕ) (s : List ℕ) → Stand s c → All (λ x. f x ≡ g x) (leaves_in s)
      → ((i : ℕ) → i < inners_passed s c → f (n + i) ≡ g (n + i)) → map f (operands_in n c s) ≡ map g (operands_in n c s)
  unfolding operands_in
  operands_agree zero n s x h k = refl
  operands_agree (suc c) n s x h k =
      let e : suc c ≡ 1 + c = omega arith in
      let q = inners_passed s 1 in
      let m = passed_add s 1 c in
      let later : (i : ℕ) → i < inners_passed (past s 1) c → f ((n + q) + i) ≡ g ((n + q) + i) =
      λ i l.
      let d : n + (q + i) ≡ (n + q) + i = omega arith in
      subst (λ (v : ℕ). f v ≡ g v) d (k (q + i) (omega (arith, ap (inners_passed s) e))) in
      ap₂ (λ (z : ℤ) (zs : List ℤ). z ∷ zs) (operand_agrees s n c x h k)
      (operands_agree c (n + q) (past s 1) (stand_rest s 1 c (subst (Stand s) e x)) (leaves_past (λ x. f x ≡ g x) s 1 h) later)
