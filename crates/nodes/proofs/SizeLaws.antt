-- The bytes of rules counted along the bytes of nodes.
use Prim.Native.Nat.{ℕ, ◌+◌, ◌*◌, ◌<◌, ◌≤◌}
use mathlib.Core.Path.{◌≡◌, refl, ap, ◌∙◌}
use mathlib.Core.List.{List, [], ◌∷◌, ◌++◌}
use native.Mathlib.Omega.{arith}
use lib.ListN.{length, drop, get_or, length-append}
use borrow.Author.Tests.{eq-eqb, ne_eqb}
use Rattle.flat.specs.Flat.{OneTree, size_in, flat_size}
use Rattle.flat.proofs.Standing.{stand_some}
use Rattle.nodes.proofs.Pairs.{pair_and, none_left}

-- n bytes are those of the nodes before the rest of the bytes
pub record Sized (s rest : List ℕ) (n : ℕ) : Type 0 where
  pub few : n + 514 * length rest ≤ 514 * length s
  pub counted : n + size_in rest ≡ size_in s

pub sized_none : {s rest : List ℕ} → rest ≡ s → Sized s rest 0
sized_none e = record { few = omega (arith, ap length e); counted = omega (arith, ap size_in e) }

module _ {s rest : List ℕ} {n : ℕ} (c : Sized s rest n) where
  module _ (node after : List ℕ) (p : rest ≡ node ++ after) (two : length node ≡ 2) where
    shorter : length rest ≡ 2 + length after
    shorter = omega (arith, ap length p, length-append node after)

    pub sized_inner : (get_or node 0 0 ≡ 0 → ⊥) → get_or node 1 0 < 256 → Sized s after (n + (7 + 4 * get_or node 1 0))
    unfolding size_in
    sized_inner e k =
        let f : size_in rest ≡ 7 + 4 * get_or node 1 0 + size_in after = ap size_in (p ∙ pair_and node after two) ∙ simp (ne_eqb (get_or node 0 0) 0 e) in
        record { few = omega (arith, c.few, shorter); counted = omega (arith, c.counted) }

    pub sized_leaf : get_or node 0 0 ≡ 0 → Sized s after n
    unfolding size_in
    sized_leaf e =
        let f : size_in rest ≡ size_in after = ap size_in (p ∙ pair_and node after two) ∙ simp (eq-eqb (get_or node 0 0) 0 e) in
        record { few = omega (arith, c.few, shorter); counted = omega (arith, c.counted) }

  pub sized_all : length rest < 2 → n ≡ size_in s
  unfolding size_in
  sized_all h = let k = none_left size_in 0 refl (λ a. refl) rest h in omega (arith, c.counted)

-- ---- with the root

-- a tree has a root
pub tree_long : {s : List ℕ} → OneTree s → 2 ≤ length s
tree_long {s} t = stand_some s 0 t.stands

module _ (n : ℕ) where
  pub leaf_size : (s : List ℕ) → 2 ≤ length s → n ≡ size_in (drop 2 s) → get_or s 0 0 ≡ 0 → 11 + n ≡ flat_size s
  unfolding flat_size
  leaf_size [] h q e = absurd (let f : ⊥ = omega arith in f)
  leaf_size (a ∷ []) h q e = absurd (let f : ⊥ = omega arith in f)
  leaf_size (a ∷ b ∷ rest) h q e = simp (eq-eqb a 0 e) (omega arith)

  pub inner_size : (s : List ℕ) → 2 ≤ length s → n ≡ size_in (drop 2 s) → (get_or s 0 0 ≡ 0 → ⊥) → 7 + 4 * get_or s 1 0 + n ≡ flat_size s
  unfolding flat_size
  inner_size [] h q e = absurd (let f : ⊥ = omega arith in f)
  inner_size (a ∷ []) h q e = absurd (let f : ⊥ = omega arith in f)
  inner_size (a ∷ b ∷ rest) h q e = simp (ne_eqb a 0 e) (omega arith)
