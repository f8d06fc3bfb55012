-- Leaves looked at along the bytes.
use Prim.Native.Nat.{ℕ, ◌<◌}
use mathlib.Core.Path.{◌≡◌, refl, sym, ap, ◌∙◌}
use mathlib.Core.Bool.{Bool, true, false, ◌||◌}
use mathlib.Core.List.{List, [], ◌∷◌, ◌++◌}
use lib.Dec.{eqb}
use lib.ListN.{length, get_or}
use borrow.Author.Tests.{eq-eqb, ne_eqb}
use Rattle.flat.specs.Flat.{leaves_in, any_in, twice_with}
use Rattle.nodes.proofs.Pairs.{pair_and, none_left}

-- ---- what is asked of all leaves is asked of those in the rest of the bytes

module _ (f : List ℕ → Bool) {asked : Bool} (rest : List ℕ) (inv : asked ≡ f (leaves_in rest)) where
  module _ (node after : List ℕ) (p : rest ≡ node ++ after) (two : length node ≡ 2) where
    at_leaf : get_or node 0 0 ≡ 0 → asked ≡ f (get_or node 1 0 ∷ leaves_in after)
    unfolding leaves_in
    at_leaf e = inv ∙ ap f (ap leaves_in (p ∙ pair_and node after two) ∙ simp (eq-eqb (get_or node 0 0) 0 e))

    pub at_inner : (get_or node 0 0 ≡ 0 → ⊥) → asked ≡ f (leaves_in after)
    unfolding leaves_in
    at_inner e = inv ∙ ap f (ap leaves_in (p ∙ pair_and node after two) ∙ simp (ne_eqb (get_or node 0 0) 0 e))

  at_end : length rest < 2 → asked ≡ f []
  unfolding leaves_in
  at_end h = inv ∙ ap f (none_left leaves_in [] refl (λ a. refl) rest h)

-- ---- one of them has a property

module _ (p : ℕ → Bool) {asked : Bool} (rest : List ℕ) (inv : asked ≡ any_in p (leaves_in rest)) where
  module _ (node after : List ℕ) (w : rest ≡ node ++ after) (two : length node ≡ 2) (e : get_or node 0 0 ≡ 0) where
    pub any_found : p (get_or node 1 0) ≡ true → true ≡ asked
    unfolding any_in
    any_found k = sym (at_leaf (any_in p) rest inv node after w two e ∙ simp k)

    pub any_passed : p (get_or node 1 0) ≡ false → asked ≡ any_in p (leaves_in after)
    unfolding any_in
    any_passed k = at_leaf (any_in p) rest inv node after w two e ∙ simp k

  pub any_none : length rest < 2 → false ≡ asked
  unfolding any_in
  any_none h = sym (at_end (any_in p) rest inv h)

-- ---- one of them is seen, or stands twice

-- nothing is seen
pub twice_begun : (p : ℕ → Bool) (xs : List ℕ) → ((x : ℕ) → p x ≡ false) → twice_with (λ x. false) xs ≡ twice_with p xs
twice_begun p xs h = ap (λ (q : ℕ → Bool). twice_with q xs) (λ i x. sym (h x) i)

module _ (p : ℕ → Bool) {asked : Bool} (rest : List ℕ) (inv : asked ≡ twice_with p (leaves_in rest)) where
  module _ (node after : List ℕ) (w : rest ≡ node ++ after) (two : length node ≡ 2) (e : get_or node 0 0 ≡ 0) where
    pub twice_found : p (get_or node 1 0) ≡ true → true ≡ asked
    unfolding twice_with
    twice_found k = sym (at_leaf (twice_with p) rest inv node after w two e ∙ simp k)

    -- the variable of this leaf is seen too
    pub twice_passed : (q : ℕ → Bool) → p (get_or node 1 0) ≡ false → ((y : ℕ) → q y ≡ (eqb y (get_or node 1 0) || p y))
        → asked ≡ twice_with q (leaves_in after)
    unfolding twice_with
    twice_passed q k m =
        at_leaf (twice_with p) rest inv node after w two e ∙ simp k (ap (λ (r : ℕ → Bool). twice_with r (leaves_in after)) (λ i y. sym (m y) i))

  pub twice_none : length rest < 2 → false ≡ asked
  unfolding twice_with
  twice_none h = sym (at_end (twice_with p) rest inv h)
