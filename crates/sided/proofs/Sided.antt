-- Terms by the side they are read on, and what is read by its size.
use Prim.Native.Nat.{ℕ, ◌*◌, ◌^◌, ◌<◌, ◌≤◌}
use mathlib.Core.Path.{◌≡◌, refl, sym, ap, ◌∙◌}
use mathlib.Core.List.{List}
use mathlib.Core.Bool.{Bool, true, false, not, cond, ◌&&◌}
use native.Mathlib.Nat.{mul-le-mul, lt_of_le_of_lt}
use native.Mathlib.Omega.{arith}
use lib.Dec.{lit<, eqb}
use borrow.Author.Tests.{ne_eqb, eqb-true}
use lib.IntN.{ℤ, pos, nat_abs}
use lib.Signed.{lt_z}
use lib.ListN.{length}
use Rattle.format.specs.Limits.{max_number, max_coefficient}
use Rattle.format.proofs.Ints.{abs_mul_le}
use Rattle.program.specs.Program.{term_in}
use Rattle.program.specs.Evaluate.{sum_below, holds}
use Rattle.program.specs.Evaluable.{Small, Coefficients}
use Rattle.program.specs.declared.Term.{Term}
use Rattle.bodies.specs.Readings.{weighted}
use Rattle.bodies.proofs.Loops.{sum_small}
use Rattle.sided.specs.Sides.{on_side, side_of, sided_reading}

-- ---- the side of a term

module _ (side : Bool) (t : Term) where
  pub side_weighed : t.op ≡ 0 → cond (lt_z t.number (pos 0)) (not side) side ≡ side_of 1 side t
  unfolding side_of
  side_weighed h = rw h

  pub side_plain : t.op ≡ 0 → side ≡ side_of 0 side t
  unfolding side_of
  side_plain h = rw h

  pub side_by_op : cond (eqb t.op 0) side (eqb t.op 2) ≡ side_of 0 side t
  unfolding side_of
  side_by_op = refl

  -- a literal is asked on the side of its op; a plain term asks nothing
  pub asked_as : (sides : List ℤ) (form : ℕ) → holds t (on_side sides (eqb t.op 2) t.variable) ≡ holds t (on_side sides (side_of form side t) t.variable)
  unfolding side_of
  asked_as sides form = go (eqb t.op 0) refl
    where
      go : (z : Bool) → eqb t.op 0 ≡ z → holds t (on_side sides (eqb t.op 2) t.variable)
          ≡ holds t (on_side sides (cond z (cond (eqb form 1 && lt_z t.number (pos 0)) (not side) side) (eqb t.op 2)) t.variable)
      go true e = rw (eqb-true t.op 0 e)
      go false e = refl

-- ---- readings

module _ (sides : List ℤ) where
  -- only form 1 has coefficients
  pub other_form : (form : ℕ) → (form ≡ 1 → ⊥) → sided_reading sides 0 ≡ sided_reading sides form
  unfolding sided_reading side_of
  other_form form h = ap {B = Bool → List Term → ℕ → ℤ} (λ (z : Bool) (side : Bool) (ts : List Term) (i : ℕ).
      on_side sides (cond (eqb (term_in ts i).op 0) (cond (z && lt_z (term_in ts i).number (pos 0)) (not side) side) (eqb (term_in ts i).op 2)) (term_in ts i).variable)
      (sym (ne_eqb form 1 h))

  module _ (form : ℕ) (side : Bool) (ts : List Term) where
    -- the variable of term i, read on its side
    pub sided_is : (i : ℕ) {x : ℕ} {falling : Bool} {v w : ℤ} → w ≡ v → v ≡ on_side sides falling x → falling ≡ side_of form side (term_in ts i)
        → x ≡ (term_in ts i).variable → w ≡ sided_reading sides form side ts i
    unfolding sided_reading
    sided_is i p q s e = p ∙ q ∙ rw (s, e)

    pub asked_is : (i : ℕ) {a : Bool} → a ≡ holds (term_in ts i) (on_side sides (eqb (term_in ts i).op 2) (term_in ts i).variable)
        → a ≡ holds (term_in ts i) (sided_reading sides form side ts i)
    unfolding sided_reading
    asked_is i e = e ∙ asked_as side (term_in ts i) sides form

    module _ (h : Small sides) where
      pub sided_small : (i : ℕ) → nat_abs (sided_reading sides form side ts i) ≤ max_number
      unfolding sided_reading
      sided_small i = h _

      -- ---- what fits

      pub weigh_fits : (i : ℕ) {n v : ℤ} → n ≡ (term_in ts i).number → v ≡ sided_reading sides form side ts i
          → nat_abs (term_in ts i).number ≤ max_coefficient → nat_abs n * nat_abs v < 2 ^ 63
      weigh_fits i e f w = rw (e, f) (lt_of_le_of_lt (mul-le-mul w (sided_small i)) (lit< tt))

      pub product_fit : (i j : ℕ) {a b : ℤ} → a ≡ sided_reading sides form side ts i → b ≡ sided_reading sides form side ts j → nat_abs a * nat_abs b < 2 ^ 63
      product_fit i j e f = rw (e, f) (lt_of_le_of_lt (mul-le-mul (sided_small i) (sided_small j)) (lit< tt))

      module _ (w : Coefficients ts) where
        pub weighted_small : (i : ℕ) → i < length ts → nat_abs (weighted ts (sided_reading sides form side ts) i) ≤ max_coefficient * max_number
        weighted_small i l = abs_mul_le (term_in ts i).number (sided_reading sides form side ts i) max_coefficient max_number (w i l) (sided_small i)

        pub total_small : (n : ℕ) → n ≤ length ts → nat_abs (sum_below (weighted ts (sided_reading sides form side ts)) n) ≤ n * (max_coefficient * max_number)
        total_small n l = sum_small (weighted ts (sided_reading sides form side ts)) (max_coefficient * max_number) n (λ i m. weighted_small i (omega arith))
