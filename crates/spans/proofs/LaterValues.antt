-- The values of a tree's inner nodes, from a place of its bytes on.
use Prim.Native.Nat.{ℕ, zero, suc, ◌+◌, ◌*◌, ◌<◌, ◌≤◌}
use mathlib.Core.Path.{◌≡◌, refl, ap, subst, ◌∙◌}
use mathlib.Core.Bool.{Bool, true, false, cond, or-true}
use mathlib.Core.List.{List, [], ◌∷◌, map}
use native.Mathlib.Numerals.{add-one}
use native.Mathlib.Omega.{arith}
use lib.Dec.{eqb}
use lib.IntN.{ℤ}
use lib.ListN.{length, drop, get_or}
use borrow.Author.Tests.{eqb-true, eqb-false, eq-eqb, ne_eqb}
use Rattle.program.specs.Readings.{Valuation}
use Rattle.trees.proofs.TwoBytes.{drop_two}
use Rattle.nested.specs.Flatten.{node_gives}
use Rattle.flat.specs.Flat.{inners_in, operands_in, extended, values_in}
use Rattle.flat.proofs.Steps.{leaf_inner, inner_inner, inners_next}
use Rattle.spans.specs.Spans.{any_beyond}

-- ---- as many as there are inner nodes

pub values_length : (a : Valuation) (n : ℕ) (s : List ℕ) → length (values_in a n s) ≡ inners_in s
unfolding values_in inners_in
values_length a n [] = refl
values_length a n (x ∷ []) = refl
values_length a n (x ∷ y ∷ rest) = go (eqb x 0) (values_length a n rest) (values_length a (suc n) rest)
  where
    go : (t : Bool) → length (values_in a n rest) ≡ inners_in rest → length (values_in a (suc n) rest) ≡ inners_in rest
        → length (cond t (values_in a n rest) (node_gives x (map (extended a (suc n) (values_in a (suc n) rest)) (operands_in (suc n) y rest)) ∷ values_in a (suc n) rest))
        ≡ cond t 0 1 + inners_in rest
    go true h k = omega arith
    go false h k = omega arith

-- ---- one node further

module _ (a : Valuation) (n : ℕ) (s : List ℕ) (at : ℕ) (h : at + 1 < length s) where
  pub values_leaf : get_or s at 0 ≡ 0 → values_in a n (drop at s) ≡ values_in a n (drop (at + 2) s)
  unfolding values_in
  values_leaf e = ap (values_in a n) (drop_two s at h) ∙ simp (eq-eqb (get_or s at 0) 0 e)

  abbrev pub next_value : ℤ
  next_value =
      node_gives (get_or s at 0)
      (map (extended a (n + 1) (values_in a (n + 1) (drop (at + 2) s))) (operands_in (n + 1) (get_or s (at + 1) 0) (drop (at + 2) s)))

  pub values_inner : (get_or s at 0 ≡ 0 → ⊥) → values_in a n (drop at s) ≡ next_value ∷ values_in a (n + 1) (drop (at + 2) s)
  unfolding values_in
  values_inner ne = rw (add-one n) (ap (values_in a n) (drop_two s at h) ∙ simp (ne_eqb (get_or s at 0) 0 ne))

-- ---- some nodes further

beyond_rest : (z : ℤ) (zs : List ℤ) → any_beyond zs ≡ true → any_beyond (z ∷ zs) ≡ true
unfolding any_beyond
beyond_rest z zs e = rw (e, or-true)

module _ (s : List ℕ) where
  pub inners_later : (j at : ℕ) → at + 2 * j ≤ length s → inners_in (drop (at + 2 * j) s) ≤ inners_in (drop at s)
  inners_later zero at h = let e : at + 2 * 0 ≡ at = omega arith in omega (arith, ap (λ (k : ℕ). inners_in (drop k s)) e)
  inners_later (suc j) at h =
      let e : at + 2 * suc j ≡ at + 2 + 2 * j = omega arith in
      omega (arith, ap (λ (k : ℕ). inners_in (drop k s)) e, inners_later j (at + 2) (omega arith), inners_next s at (omega arith))

  -- one outside is one of all
  pub beyond_later : (a : Valuation) (j at n m : ℕ) → at + 2 * j ≤ length s → n + inners_in (drop at s) ≡ m + inners_in (drop (at + 2 * j) s)
      → any_beyond (values_in a m (drop (at + 2 * j) s)) ≡ true → any_beyond (values_in a n (drop at s)) ≡ true
  beyond_later a zero at n m h c t =
      let e : at + 2 * 0 ≡ at = omega arith in
      let d : n ≡ m = omega (arith, ap (λ (k : ℕ). inners_in (drop k s)) e) in
      rw d (subst (λ (k : ℕ). any_beyond (values_in a m (drop k s)) ≡ true) e t)
  beyond_later a (suc j) at n m h c t =
      let e : at + 2 * suc j ≡ at + 2 + 2 * j = omega arith in
      let c' = ap (λ (k : ℕ). inners_in (drop k s)) e in
      let t' = subst (λ (k : ℕ). any_beyond (values_in a m (drop k s)) ≡ true) e t in
      let next = inners_next s at (omega arith) in
      step (eqb (get_or s at 0) 0) refl
      (λ l. beyond_later a j (at + 2) n m (omega arith) (omega (arith, leaf_inner (get_or s at 0) 0 l)) t')
      (λ l. beyond_later a j (at + 2) (n + 1) m (omega arith) (omega (arith, inner_inner (get_or s at 0) 0 l)) t')
    where
      step : (b : Bool) → eqb (get_or s at 0) 0 ≡ b → (get_or s at 0 ≡ 0 → any_beyond (values_in a n (drop (at + 2) s)) ≡ true)
          → ((get_or s at 0 ≡ 0 → ⊥) → any_beyond (values_in a (n + 1) (drop (at + 2) s)) ≡ true) → any_beyond (values_in a n (drop at s)) ≡ true
      step true e leaf inner = let l = eqb-true (get_or s at 0) 0 e in rw (values_leaf a n s at (omega arith) l) (leaf l)
      step false e leaf inner =
          let l = eqb-false (get_or s at 0) 0 e in
          ap any_beyond (values_inner a n s at (omega arith) l) ∙ beyond_rest _ _ (inner l)
