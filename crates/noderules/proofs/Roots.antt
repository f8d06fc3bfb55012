-- The root of a tree.
use Prim.Native.Nat.{ℕ, ◌+◌, ◌*◌, ◌≤◌}
use mathlib.Core.Path.{◌≡◌, ap, subst}
use mathlib.Core.List.{List, [], ◌∷◌}
use native.Mathlib.Omega.{arith}
use lib.ListN.{drop, get_or}
use borrow.Author.Tests.{eq-eqb, ne_eqb}
use Rattle.format.specs.Limits.{max_variables}
use Rattle.flat.specs.Flat.{children_of, Stand, inners_passed, inners_in, operands_in, OneTree, root_rule, root_size}
use Rattle.flat.proofs.Standing.{stand_first, passed_none, inners_passed_lem}
use Rattle.flat.proofs.Steps.{inner_children, inner_bytes_is}
use Rattle.noderules.specs.NodeRules.{rule_at, Writable}
use Rattle.noderules.specs.declared.Inner.{Inner}

-- a root in hand: its children stand in the bytes, it is the rule of the tree's root, and has as many bytes
abbrev Rooting : List ℕ → ℕ → ℕ → Inner → Type 0
Rooting s head next r = (Writable s r × (rule_at s r ≡ root_rule head next s)) × (7 + 4 * r.n ≡ root_size s)

module _ (head next : ℕ) where
  pub root_leaf : (s : List ℕ) → OneTree s → next + inners_in (drop 2 s) ≤ max_variables → get_or s 0 0 ≡ 0
      → Rooting s head next (record { form = 1; head = head; at = 0; n = 1; next = next })
  unfolding Stand inners_passed operands_in
  root_leaf [] o few e = absurd o.stands
  root_leaf (a ∷ []) o few e = absurd o.stands
  root_leaf (a ∷ b ∷ rest) o few e =
      let t = eq-eqb a 0 e in
      let k : inners_passed (a ∷ b ∷ rest) 1 ≡ 0 = simp (t, passed_none rest) in
      ((record { inside = omega arith; stands = o.stands; few = omega arith; numbered = omega arith }, simp t), simp t)

  pub root_inner : (s : List ℕ) → OneTree s → next + inners_in (drop 2 s) ≤ max_variables → (get_or s 0 0 ≡ 0 → ⊥)
      → Rooting s head next (record { form = get_or s 0 0; head = head; at = 2; n = get_or s 1 0; next = next })
  unfolding Stand
  root_inner [] o few ne = absurd o.stands
  root_inner (a ∷ []) o few ne = absurd o.stands
  root_inner (a ∷ b ∷ rest) o few ne =
      let t = ne_eqb a 0 ne in
      let c : children_of a b + 0 ≡ b + 0 = ap (λ (k : ℕ). k + 0) (inner_children a b ne) in
      let x = stand_first rest b 0 (subst (Stand rest) c o.stands.1) in (
        (record { inside = omega arith; stands = x; few = (inner_bytes_is a b ne o.stands.0).children_most; numbered = omega (arith, inners_passed_lem rest b) }, simp t),
        simp t,
      )
