-- A node from its two bytes on: what it is, and where it ends.
use Rattle.std.specs.Prelude.{Option, Some, None}
use Prim.Native.Nat.{ℕ, zero, suc, ◌+◌, ◌-◌, ◌<◌}
use mathlib.Core.Path.{◌≡◌, refl, ap, ◌∙◌, subst}
use mathlib.Core.Bool.{Bool, true, false, cond}
use mathlib.Core.List.{List}
use lib.Dec.{eqb}
use lib.ListN.{length, drop, get_or}
use native.Mathlib.Omega.{arith}
use borrow.Author.Tests.{eq-eqb, ne_eqb}
use Rattle.trees.specs.Tree.{Front, nothing, ◌then◌, map_front, several, tree_in, Tree, leaf, inner, inner_bytes}
use Rattle.trees.proofs.TwoBytes.{drop_two, drop_less}
use Rattle.descent.specs.Ends.{Ended, Ends}

-- a tree of a level and l more, the two bytes being a and b
abbrev node_in : (l : ℕ) → Bool → Bool → ℕ → ℕ → List ℕ → Front (Tree (suc l))
node_in l is_IsLeaf is-inner a b rest =
    cond is_IsLeaf (leaf b then rest) (cond is-inner (map_front (λ ts. inner a ts) (several (tree_in l) b rest)) nothing)

module _ (s : List ℕ) (at : ℕ) where
  pub no_levels : (l : ℕ) → l ≡ 0 → tree_in l (drop at s) ≡ nothing
  unfolding tree_in
  no_levels zero e = refl
  no_levels (suc l) e = absurd (let f : ⊥ = omega arith in f)

  pub too_short_is : (l : ℕ) → length s - at < 2 → tree_in l (drop at s) ≡ nothing
  unfolding tree_in
  too_short_is zero h = refl
  too_short_is (suc l) h = drop_less (tree_in (suc l)) nothing refl (λ a. refl) s at (omega arith)

  module _ (h : at + 1 < length s) where
    abbrev a : ℕ
    a = get_or s at 0

    abbrev b : ℕ
    b = get_or s (at + 1) 0

    node_is : (l : ℕ) → tree_in (suc l) (drop at s) ≡ node_in l (eqb a 0) (inner_bytes a b) a b (drop (at + 2) s)
    unfolding tree_in
    node_is l = ap (tree_in (suc l)) (drop_two s at h)

    pub leaf_ends : (l : ℕ) → (l ≡ 0 → ⊥) → a ≡ 0 → Ended (tree_in l (drop at s)) s at (at + 2)
    leaf_ends zero z e = absurd (z refl)
    leaf_ends (suc l) z e = record { what = leaf b; is = node_is l ∙ simp (eq-eqb a 0 e); from = omega arith; inside = omega arith }

    pub not_node : (l : ℕ) → (a ≡ 0 → ⊥) → inner_bytes a b ≡ false → tree_in l (drop at s) ≡ nothing
    unfolding tree_in
    not_node zero e f = refl
    not_node (suc l) e f = node_is l ∙ simp (ne_eqb a 0 e, f)

    pub inner_ends : (l : ℕ) (r : Option ℕ) → (l ≡ 0 → ⊥) → (a ≡ 0 → ⊥) → inner_bytes a b ≡ true → Ends (several (tree_in (l - 1)) b (drop (at + 2) s)) s (at + 2) r
        → Ends (tree_in l (drop at s)) s at r
    inner_ends zero r z e f w = absurd (z refl)
    inner_ends (suc l) r z e f w =
        let q : suc l - 1 ≡ l = omega arith in
        go r (subst (λ (k : ℕ). Ends (several (tree_in k) b (drop (at + 2) s)) s (at + 2) r) q w) (node_is l ∙ simp (ne_eqb a 0 e, f))
      where
        go : (r : Option ℕ) → Ends (several (tree_in l) b (drop (at + 2) s)) s (at + 2) r
            → tree_in (suc l) (drop at s) ≡ map_front (λ ts. inner a ts) (several (tree_in l) b (drop (at + 2) s)) → Ends (tree_in (suc l) (drop at s)) s at r
        go None w p = p ∙ ap (map_front (λ ts. inner a ts)) w
        go (Some n) w p = record {
          what = inner a w.what;
          is = p ∙ ap (map_front (λ ts. inner a ts)) w.is;
          from = let k = w.from in omega arith;
          inside = w.inside;
        }
