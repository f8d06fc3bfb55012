-- The laws of a variable's order, its ends and its range, from the order of the whole numbers.
use Rattle.std.specs.Prelude.{Option, Some, None}
use Prim.Native.Nat.{ℕ, ◌<◌, ◌≤◌}
use mathlib.Core.Path.{◌≡◌, refl, sym, ap, subst}
use mathlib.Core.Logic.{◌⊎◌, inl, inr}
use mathlib.Core.Bool.{Bool, true, false, not, cond, ◌||◌}
use lib.Dec.{T, T_not, eqb}
use borrow.Author.Tests.{eqb-true}
use lib.IntN.{ℤ, pos, negsuc, neg_ℤ, nat_abs, ◌-ℤ◌}
use lib.Signed.{le_z, lt_z, le_z_yes, ◌≤ℤ◌, ≤ℤ_refl}
use Rattle.format.proofs.Int.{int, up, sum_is, neg_is, abs_is, not_negative}
use Rattle.program.specs.Variables.{is_founded, from_above, swaps, ahead, start, far, not_past, in_range, no_more, started, short}
use Rattle.program.proofs.Tests.{cases, is_true, and_left, and_right, and_both}
use Rattle.program.specs.declared.Variable.{Variable}

-- the machine's test of what is less
less_is : (a b : ℤ) → lt_z a b ≡ not (le_z b a)
less_is a b = cases (lt_z a b) (λ c. c ≡ not (le_z b a)) (λ t. sym (is_true (not (le_z b a)) (omega int))) (λ t. sym (ap not (is_true (le_z b a) (omega int))))

module _ (x : Variable) where
  -- ---- what goes by the kind

  module _ {A : Type 0} (a b : A) where
    pub swaps_not : from_above x ≡ false → a ≡ swaps x a b
    unfolding swaps
    swaps_not h = rw h

    pub swaps_so : from_above x ≡ true → b ≡ swaps x a b
    unfolding swaps
    swaps_so h = rw h

  -- a founded variable has one of two kinds
  pub founded_kind : T (is_founded x) → ((from_above x ≡ false) × (x.kind ≡ 1)) ⊎ ((from_above x ≡ true) × (x.kind ≡ 2))
  founded_kind t = go (from_above x) refl
    where
      one : (k : ℕ) → T (eqb k 1 || eqb k 2) → eqb k 2 ≡ false → k ≡ 1
      one k t e = eqb-true k 1 (is_true (eqb k 1) (or_left (eqb k 1) (subst (λ b. T (eqb k 1 || b)) e t)))
        where
          or_left : (a : Bool) → T (a || false) → T a
          or_left true t = tt
          or_left false t = t

      go : (b : Bool) → from_above x ≡ b → ((from_above x ≡ false) × (x.kind ≡ 1)) ⊎ ((from_above x ≡ true) × (x.kind ≡ 2))
      go true e = inr (e, eqb-true x.kind 2 e)
      go false e = inl (e, one x.kind t e)

  -- ---- a total order: that of the whole numbers, by how far a value is ahead

  module _ (a b : ℤ) where
    past_up : T (not_past x a b) → ahead x a ≤ℤ ahead x b
    unfolding not_past ahead swaps
    past_up = cases (from_above x) (λ t. T (cond t (le_z b a) (le_z a b)) → cond t (neg_ℤ a) a ≤ℤ cond t (neg_ℤ b) b) (λ t h. omega (int, neg_is a, neg_is b)) (λ t h. le_z_yes h)

    up_past : ahead x a ≤ℤ ahead x b → T (not_past x a b)
    unfolding not_past ahead swaps
    up_past = cases (from_above x) (λ t. cond t (neg_ℤ a) a ≤ℤ cond t (neg_ℤ b) b → T (cond t (le_z b a) (le_z a b))) (λ t h. omega (int, neg_is a, neg_is b)) (λ t h. h.le)

    ahead_same : ahead x a ≡ ahead x b → a ≡ b
    unfolding ahead swaps
    ahead_same = cases (from_above x) (λ t. cond t (neg_ℤ a) a ≡ cond t (neg_ℤ b) b → a ≡ b) (λ t h. omega (int, neg_is a, neg_is b)) (λ t h. h)

  -- what comes before is less far ahead
  before_up : (a b : ℤ) → T (not (not_past x b a)) → T (lt_z (ahead x a) (ahead x b))
  before_up a b n = cases (lt_z (ahead x a) (ahead x b)) (λ c. T (lt_z (ahead x a) (ahead x b))) (λ t. t) (λ t. absurd (T_not (not_past x b a) n (up_past b a (omega int))))

  pub past_refl : (a : ℤ) → T (not_past x a a)
  past_refl a = up_past a a (≤ℤ_refl (ahead x a))

  pub past_trans : (a b c : ℤ) → T (not_past x a b) → T (not_past x b c) → T (not_past x a c)
  past_trans a b c h k = up_past a c (omega (int, past_up a b h, past_up b c k))

  pub past_antisym : (a b : ℤ) → T (not_past x a b) → T (not_past x b a) → a ≡ b
  past_antisym a b h k = ahead_same a b (omega (int, past_up a b h, past_up b a k))

  pub past_total : (a b : ℤ) → T (not (not_past x b a)) → T (not_past x a b)
  past_total a b h = let t = before_up a b h in up_past a b (omega int)

  -- what comes before, by the machine's test
  pub before_is : (a b : ℤ) → swaps x (lt_z a b) (lt_z b a) ≡ not (not_past x b a)
  unfolding not_past swaps
  before_is a b = cases (from_above x) (λ t. cond t (lt_z b a) (lt_z a b) ≡ not (cond t (le_z a b) (le_z b a))) (λ t. less_is b a) (λ t. less_is a b)

  -- what gives no more than the first gives no more than a later one
  pub no_more_past : (g : Option ℤ) (a b : ℤ) → T (not_past x a b) → T (no_more x g a) → T (no_more x g b)
  no_more_past None a b h k = tt
  no_more_past (Some c) a b h k = past_trans c a b k h

  -- ---- the range, from the starting end to the far end

  module _ (a : ℤ) where
    pub low_in_is : T (in_range x a) → x.low ≤ℤ a
    low_in_is h = le_z_yes (and_left (le_z x.low a) (le_z a x.high) h)

    pub high_in_is : T (in_range x a) → a ≤ℤ x.high
    high_in_is h = le_z_yes (and_right (le_z x.low a) (le_z a x.high) h)

    pub start_first : T (in_range x a) → T (not_past x (start x) a)
    unfolding not_past start swaps
    start_first h = cases (from_above x) (λ t. T (cond t (le_z a (cond t x.high x.low)) (le_z (cond t x.high x.low) a)))
        (λ t. and_right (le_z x.low a) (le_z a x.high) h) (λ t. and_left (le_z x.low a) (le_z a x.high) h)

    pub far_last : T (in_range x a) → T (not_past x a (far x))
    unfolding not_past far swaps
    far_last h = cases (from_above x) (λ t. T (cond t (le_z (cond t x.low x.high) a) (le_z a (cond t x.low x.high))))
        (λ t. and_left (le_z x.low a) (le_z a x.high) h) (λ t. and_right (le_z x.low a) (le_z a x.high) h)

    pub between : T (not_past x (start x) a) → T (not_past x a (far x)) → T (in_range x a)
    unfolding not_past start far swaps
    between = cases (from_above x)
        (λ t. T (cond t (le_z a (cond t x.high x.low)) (le_z (cond t x.high x.low) a))
        → T (cond t (le_z (cond t x.low x.high) a) (le_z a (cond t x.low x.high))) → T (in_range x a))
        (λ t h k. and_both (le_z x.low a) (le_z a x.high) k h) (λ t h k. and_both (le_z x.low a) (le_z a x.high) h k)

  pub started_in : (a : ℤ) → T (in_range x a) → T (in_range x (started x a))
  started_in a h = cases (is_founded x) (λ b. T (in_range x (cond b (start x) a)))
      (λ t. between (start x) (past_refl (start x)) (past_trans (start x) a (far x) (start_first a h) (far_last a h))) (λ t. h)

  -- a variable that is short of a at m is founded, and m comes before a
  module _ (a m : ℤ) where
    pub short_founded : T (short x a m) → T (is_founded x)
    short_founded = and_left (is_founded x) (not (not_past x a m))

    pub short_before : T (short x a m) → T (not (not_past x a m))
    short_before = and_right (is_founded x) (not (not_past x a m))

  -- how far a value is from the far end, and that what comes later is nearer
  unfoldable pub to_far : ℤ → ℕ
  to_far a = up (ahead x (far x) -ℤ ahead x a)

  pub nearer : (a b : ℤ) → T (not (not_past x b a)) → T (not_past x b (far x)) → to_far b < to_far a
  unfolding to_far
  nearer a b n t =
      omega (int, sum_is h (neg_ℤ p), sum_is h (neg_ℤ q), neg_is p, neg_is q, not_negative {z = h -ℤ p} left, not_negative {z = h -ℤ q} more, before_up a b n)
    where
      h : ℤ
      h = ahead x (far x)

      q : ℤ
      q = ahead x a

      p : ℤ
      p = ahead x b

      left : pos 0 ≤ℤ (h -ℤ p)
      left = omega (int, sum_is h (neg_ℤ p), neg_is p, past_up b (far x) t)

      more : pos 0 ≤ℤ (h -ℤ q)
      more = omega (int, sum_is h (neg_ℤ q), neg_is q, past_up b (far x) t, before_up a b n)

-- ---- where the least model begins

module _ (x : Variable) {b : ℤ} (a : ℤ) where
  pub started_founded : is_founded x ≡ true → b ≡ start x → b ≡ started x a
  started_founded h e = rw h e

  pub started_standard : is_founded x ≡ false → b ≡ a → b ≡ started x a
  started_standard h e = rw h e

-- a value between two small ends is small
pub between_small : (n : ℕ) (l z h : ℤ) → l ≤ℤ z → z ≤ℤ h → nat_abs l ≤ n → nat_abs h ≤ n → nat_abs z ≤ n
between_small n l (pos z) h p q a b = omega (int, abs_is h)
between_small n l (negsuc z) h p q a b = omega (int, abs_is l)
