-- What is cut off at a stop.
use Rattle.std.specs.Prelude.{Option, Some, None}
use mathlib.Core.Path.{◌≡◌, refl}
use mathlib.Core.Bool.{Bool, true, false, not, cond}
use lib.Dec.{T, not_T}
use lib.IntN.{ℤ}
use Rattle.program.specs.Variables.{not_past, no_more, cut_off}
use Rattle.program.specs.declared.Variable.{Variable}
use Rattle.program.proofs.Tests.{cases, is_true}
use Rattle.program.proofs.Variables.{past_refl, past_trans, past_antisym}
use Rattle.ascent.specs.Ascending.{capped}

-- it goes by the head's order
pub same_no_more : (x y : Variable) (g : Option ℤ) (b : ℤ) → ((a c : ℤ) → not_past x a c ≡ not_past y a c) → T (no_more y g b) → T (no_more x g b)
same_no_more x y None b e t = tt
same_no_more x y (Some a) b e t = rw (e a b) t

module _ (x : Variable) (b : ℤ) where
  pub cut_no_more : (g : Option ℤ) → T (no_more x (cut_off x b g) b)
  unfolding cut_off
  cut_no_more None = tt
  cut_no_more (Some a) = cases (not_past x a b) (λ t. T (not_past x (cond t a b) b)) (λ t. t) (λ t. past_refl x b)

  -- what is no more is not changed
  pub cut_same : (g : Option ℤ) → T (no_more x g b) → cut_off x b g ≡ g
  unfolding cut_off
  cut_same None t = refl
  cut_same (Some a) t = rw (is_true (not_past x a b) t)

  pub capped_same : (full : Bool) (g : Option ℤ) → (full ≡ true → T (no_more x g b)) → capped full x b g ≡ g
  unfolding capped
  capped_same true g h = cut_same g (h refl)
  capped_same false g h = refl

  pub capped_no_more : (full : Bool) → full ≡ true → (g : Option ℤ) → T (no_more x (capped full x b g) b)
  unfolding capped
  capped_no_more full e g = rw e (cut_no_more g)

  -- the head has z, which has not passed b
  module _ (z : ℤ) where
    -- what gives no more than z still does
    pub capped_under : (full : Bool) (g : Option ℤ) → (full ≡ true → T (not_past x z b)) → T (no_more x g z) → T (no_more x (capped full x b g) z)
    capped_under full g s t = rw (capped_same full g (λ e. under g (s e) t)) t
      where
        under : (g : Option ℤ) → T (not_past x z b) → T (no_more x g z) → T (no_more x g b)
        under None h k = tt
        under (Some a) h k = past_trans x a z b k h

    -- and what is past z, where z is not the stop
    pub capped_past : (full : Bool) (a : ℤ) → (full ≡ true → T (not_past x z b)) → (full ≡ true → z ≡ b → ⊥) → T (not (not_past x a z))
        → T (not (not_past x (cond full (cond (not_past x a b) a b) a) z))
    capped_past true a s n t = cases (not_past x a b) (λ c. T (not (not_past x (cond c a b) z))) (λ c. t)
        (λ c. not_T (not_past x b z) (λ k. n refl (past_antisym x z b (s refl) k)))
    capped_past false a s n t = t

  pub capped_value : (full : Bool) (a : ℤ) → capped full x b (Some a) ≡ Some (cond full (cond (not_past x a b) a b) a)
  unfolding capped cut_off
  capped_value true a = refl
  capped_value false a = refl
