-- Whole trees from a place of the bytes on, to their end: what a walk over a tree's inner nodes keeps.
use Prim.Native.Nat.{ℕ, zero, suc, ◌+◌, ◌-◌, ◌*◌, ◌/◌, ◌%◌, ◌<◌, ◌≤◌}
use mathlib.Core.Path.{◌≡◌, refl, sym, ap, subst, ◌∙◌}
use mathlib.Core.List.{List, [], ◌∷◌}
use native.Mathlib.Omega.{arith}
use lib.ListN.{length, drop, get_or, length-drop}
use Rattle.format.specs.Limits.{max_variables}
use Rattle.flat.specs.Flat.{children_of, Stand, past, inners_in, OneTree}
use Rattle.flat.proofs.Standing.{stand_some, stand_first, past_none, inners_passed_lem}
use Rattle.flat.proofs.Steps.{InnerBytes, leaf_inner, inner_children, inner_inner, inner_bytes_is, stand_next, past_next, inners_next}
use Rattle.noderules.specs.NodeRules.{Writable, Left}

-- ---- whole trees

record Whole (s : List ℕ) (at : ℕ) : Type 0 where
  many : ℕ
  stands : Stand (drop at s) many
  ends : past (drop at s) many ≡ []

-- some tree is left before the end
more : (s : List ℕ) (at n : ℕ) → at + 1 < length s → past (drop at s) n ≡ [] → n ≡ suc (n - 1)
more s at zero h e = let f : ⊥ = omega (arith, ap length (sym (past_none (drop at s)) ∙ e), length-drop at s) in absurd f
more s at (suc n) h e = omega arith

whole_next : {s : List ℕ} {at : ℕ} → at + 1 < length s → Whole s at → Whole s (at + 2)
whole_next {s} {at} h w =
    let m = more s at w.many h w.ends in
    record {
      many = children_of (get_or s at 0) (get_or s (at + 1) 0) + (w.many - 1);
      stands = (stand_next s at h (w.many - 1) (subst (Stand (drop at s)) m w.stands)).1;
      ends = sym (past_next s at h (w.many - 1)) ∙ sym (ap (past (drop at s)) m) ∙ w.ends;
    }

whole_at : {s : List ℕ} → OneTree s → (j : ℕ) → 2 * j ≤ length s → Whole s (2 * j)
whole_at o zero h = record { many = 1; stands = o.stands; ends = o.ends }
whole_at {s} o (suc j) h =
    let e : 2 * j + 2 ≡ 2 * suc j = omega arith in
    subst (Whole s) e (whole_next (omega arith) (whole_at o j (omega arith)))

-- ---- a tree

pub tree_least : {s : List ℕ} → OneTree s → 2 ≤ length s
tree_least {s} o = stand_some s 0 o.stands

even_past : (s : List ℕ) (n : ℕ) → past s n ≡ [] → length s % 2 ≡ 0
unfolding past
even_past [] n e = refl
even_past (a ∷ []) n e = let f : ⊥ = omega (arith, ap length e) in absurd f
even_past (a ∷ b ∷ rest) zero e = let f : ⊥ = omega (arith, ap length e) in absurd f
even_past (a ∷ b ∷ rest) (suc n) e = let k = even_past rest (children_of a b + n) e in omega arith

pub tree_even : {s : List ℕ} → OneTree s → length s ≡ 2 * (length s / 2)
tree_even {s} o = omega (arith, even_past s 1 o.ends)

-- ---- from every even place of a tree, n being the number of the next inner node

module _ {s : List ℕ} (o : OneTree s) (next : ℕ) (few : next + inners_in (drop 2 s) ≤ max_variables) where
  pub left_at : (j n : ℕ) → 2 * j ≤ length s → n + inners_in (drop (2 * j) s) ≡ next + inners_in (drop 2 s) → Left s (2 * j) n
  left_at j n h e =
      let w = whole_at o j h in
      record { many = w.many; inside = h; stands = w.stands; ends = w.ends; numbered = omega arith }

  pub left_begun : Left s 2 next
  left_begun = left_at 1 next (tree_least o) refl

-- where a byte is left, two are
pub left_some : {s : List ℕ} {at n : ℕ} → Left s at n → at < length s → at + 1 < length s
left_some {s} {at} l h = go l.many l.stands l.ends
  where
    go : (m : ℕ) → Stand (drop at s) m → past (drop at s) m ≡ [] → at + 1 < length s
    go zero x e = let f : ⊥ = omega (arith, ap length (sym (past_none (drop at s)) ∙ e), length-drop at s) in absurd f
    go (suc m) x e = omega (arith, stand_some (drop at s) m x, length-drop at s)

-- ---- one node further

module _ {s : List ℕ} {at n : ℕ} (l : Left s at n) (h : at + 1 < length s) where
  whole : Whole s at
  whole = record { many = l.many; stands = l.stands; ends = l.ends }

  left_next : (n' : ℕ) → n' + inners_in (drop (at + 2) s) ≤ max_variables → Left s (at + 2) n'
  left_next n' few =
      let w = whole_next h whole in
      record { many = w.many; inside = omega arith; stands = w.stands; ends = w.ends; numbered = few }

  pub left_leaf : get_or s at 0 ≡ 0 → Left s (at + 2) n
  left_leaf e = left_next n (omega (arith, l.numbered, inners_next s at h, leaf_inner (get_or s at 0) (get_or s (at + 1) 0) e))

  module _ (ne : get_or s at 0 ≡ 0 → ⊥) where
    fewer : n + (1 + inners_in (drop (at + 2) s)) ≤ max_variables
    fewer = omega (arith, l.numbered, inners_next s at h, inner_inner (get_or s at 0) (get_or s (at + 1) 0) ne)

    pub left_inner : Left s (at + 2) (n + 1)
    left_inner = left_next (n + 1) (omega (arith, fewer))

    pub left_free : n < max_variables
    left_free = omega (arith, fewer)

    -- its bytes, and its children
    node : InnerBytes (get_or s at 0) (get_or s (at + 1) 0) × Stand (drop (at + 2) s) (get_or s (at + 1) 0)
    node =
        let m = l.many - 1 in
        let x = stand_next s at h m (subst (Stand (drop at s)) (more s at l.many h l.ends) l.stands) in
        let c = ap (λ (k : ℕ). k + m) (inner_children (get_or s at 0) (get_or s (at + 1) 0) ne) in
        (inner_bytes_is (get_or s at 0) (get_or s (at + 1) 0) ne x.0, stand_first (drop (at + 2) s) (get_or s (at + 1) 0) m (subst (Stand (drop (at + 2) s)) c x.1))

    pub left_bytes : InnerBytes (get_or s at 0) (get_or s (at + 1) 0)
    left_bytes = node.0

    pub left_writable : Writable s (record { form = get_or s at 0; head = n; at = at + 2; n = get_or s (at + 1) 0; next = n + 1 })
    left_writable =
        record {
          inside = omega arith;
          stands = node.1;
          few = node.0.children_most;
          numbered = omega (arith, fewer, inners_passed_lem (drop (at + 2) s) (get_or s (at + 1) 0));
        }
