-- Inner nodes counted along the bytes.
use Prim.Native.Nat.{ℕ, ◌+◌, ◌*◌, ◌<◌, ◌≤◌}
use mathlib.Core.Path.{◌≡◌, refl, ap, ◌∙◌}
use mathlib.Core.List.{List, ◌++◌}
use native.Mathlib.Omega.{arith}
use lib.ListN.{length, get_or, length-append}
use borrow.Author.Tests.{eq-eqb, ne_eqb}
use Rattle.flat.specs.Flat.{inner_of, inners_in}
use Rattle.nodes.proofs.Pairs.{pair_and, none_left}

leaf_none : (a : ℕ) → a ≡ 0 → inner_of a ≡ 0
leaf_none a e = simp (eq-eqb a 0 e)

inner_one : (a : ℕ) → (a ≡ 0 → ⊥) → inner_of a ≡ 1
inner_one a e = simp (ne_eqb a 0 e)

-- n stand before the rest of the bytes
pub record Counted (s rest : List ℕ) (n : ℕ) : Type 0 where
  pub few : 2 * n + length rest ≤ length s
  pub counted : n + inners_in rest ≡ inners_in s

pub counted_none : {s rest : List ℕ} → rest ≡ s → Counted s rest 0
counted_none e = record { few = omega (arith, ap length e); counted = omega (arith, ap inners_in e) }

module _ {s rest : List ℕ} {n : ℕ} (c : Counted s rest n) where
  module _ (node after : List ℕ) (p : rest ≡ node ++ after) (two : length node ≡ 2) where
    next_node : inners_in rest ≡ inner_of (get_or node 0 0) + inners_in after
    unfolding inners_in
    next_node = ap inners_in (p ∙ pair_and node after two)

    shorter : length rest ≡ 2 + length after
    shorter = omega (arith, ap length p, length-append node after)

    pub counted_inner : (get_or node 0 0 ≡ 0 → ⊥) → Counted s after (n + 1)
    counted_inner e = record {
      few = omega (arith, c.few, shorter);
      counted = omega (arith, c.counted, next_node, inner_one (get_or node 0 0) e);
    }

    pub counted_leaf : get_or node 0 0 ≡ 0 → Counted s after n
    counted_leaf e = record {
      few = omega (arith, c.few, shorter);
      counted = omega (arith, c.counted, next_node, leaf_none (get_or node 0 0) e);
    }

  pub counted_all : length rest < 2 → (n ≡ inners_in s) × (2 * n ≤ length s)
  unfolding inners_in
  counted_all h = let k = none_left inners_in 0 refl (λ a. refl) rest h in (omega (arith, c.counted), omega (arith, c.few))
