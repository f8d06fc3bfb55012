-- Trees from a place of their bytes on: one node further.
use Prim.Native.Nat.{ℕ, suc, ◌+◌, ◌<◌, ◌≤◌}
use mathlib.Core.Path.{◌≡◌, ap, subst}
use mathlib.Core.Bool.{◌&&◌}
use mathlib.Core.List.{List}
use lib.Dec.{T, leb, leb→le}
use lib.ListN.{length, drop, get_or}
use borrow.Author.Tests.{eq-eqb, ne_eqb}
use Rattle.program.proofs.Tests.{and_left, and_right}
use Rattle.trees.specs.Tree.{max_children, inner_bytes}
use Rattle.trees.proofs.TwoBytes.{drop_two}
use Rattle.flat.specs.Flat.{node_bytes, children_of, inner_of, Stand, past, inners_passed, inners_in}

-- ---- the bytes of one node

module _ (a b : ℕ) (e : a ≡ 0) where
  pub leaf_children : children_of a b ≡ 0
  leaf_children = simp (eq-eqb a 0 e)

  pub leaf_inner : inner_of a ≡ 0
  leaf_inner = simp (eq-eqb a 0 e)

pub record InnerBytes (a b : ℕ) : Type 0 where
  pub form_least : 1 ≤ a
  pub form_most : a ≤ 3
  pub children_least : 1 ≤ b
  pub children_most : b ≤ max_children

module _ (a b : ℕ) (ne : a ≡ 0 → ⊥) where
  pub inner_children : children_of a b ≡ b
  inner_children = simp (ne_eqb a 0 ne)

  pub inner_inner : inner_of a ≡ 1
  inner_inner = simp (ne_eqb a 0 ne)

  pub inner_bytes_is : T (node_bytes a b) → InnerBytes a b
  inner_bytes_is t =
      let i : T (inner_bytes a b) = simp (ne_eqb a 0 ne) at t in
      let f = and_left (leb 1 a && leb a 3) (leb 1 b && leb b max_children) i in
      let n = and_right (leb 1 a && leb a 3) (leb 1 b && leb b max_children) i in
      record {
        form_least = leb→le 1 a (and_left (leb 1 a) (leb a 3) f);
        form_most = leb→le a 3 (and_right (leb 1 a) (leb a 3) f);
        children_least = leb→le 1 b (and_left (leb 1 b) (leb b max_children) n);
        children_most = leb→le b max_children (and_right (leb 1 b) (leb b max_children) n);
      }

-- ---- from a place on

module _ (s : List ℕ) (at : ℕ) (h : at + 1 < length s) where
  pub stand_next : (n : ℕ) → Stand (drop at s) (suc n)
      → T (node_bytes (get_or s at 0) (get_or s (at + 1) 0)) × Stand (drop (at + 2) s) (children_of (get_or s at 0) (get_or s (at + 1) 0) + n)
  unfolding Stand
  stand_next n x = subst (λ (r : List ℕ). Stand r (suc n)) (drop_two s at h) x

  pub past_next : (n : ℕ) → past (drop at s) (suc n) ≡ past (drop (at + 2) s) (children_of (get_or s at 0) (get_or s (at + 1) 0) + n)
  unfolding past
  past_next n = ap (λ (r : List ℕ). past r (suc n)) (drop_two s at h)

  pub passed_next : (n : ℕ)
      → inners_passed (drop at s) (suc n) ≡ inner_of (get_or s at 0) + inners_passed (drop (at + 2) s) (children_of (get_or s at 0) (get_or s (at + 1) 0) + n)
  unfolding inners_passed
  passed_next n = ap (λ (r : List ℕ). inners_passed r (suc n)) (drop_two s at h)

  pub inners_next : inners_in (drop at s) ≡ inner_of (get_or s at 0) + inners_in (drop (at + 2) s)
  unfolding inners_in
  inners_next = ap inners_in (drop_two s at h)
