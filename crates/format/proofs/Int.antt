-- ℤ for `omega`. Each z is up z − dn z, two naturals, of which one is 0. A rule of `int` turns an order or an equation of ℤ into one of
-- naturals, in the hypotheses (`-out`) and in the goal (`-in`). A sum, a difference or a product stands in such a statement as an
-- unknown z; list what it is: `omega (int, sum_is a b)`. Assumes nothing.
use mathlib.Core.Path.{◌≡◌, refl, ap, subst}
use mathlib.Core.Bool.{Bool, true, false, not, cond}
use Prim.Native.Nat.{ℕ, zero, suc, ◌+◌, ◌*◌, ◌-◌, ◌≤◌, ◌<◌}
use native.Mathlib.Nat.{mul-le-mul_left, mul-le-mul}
use native.Mathlib.Omega.{arith}
use lib.IntN.{ℤ, pos, negsuc, neg_ℤ, nat_abs, sub_ℕ, ◌+ℤ◌, ◌-ℤ◌, ◌*ℤ◌}
use lib.Signed.{◌≤ℤ◌, ◌<ℤ◌, le_z, lt_z, le_z_yes, lt_z_yes}
use lib.Dec.{T, ltb, leb→le, le→leb, ltb→lt, lt→ltb, nltb→le, nleb→lt, not_T}

abbrev pub up : ℤ → ℕ
up (pos n) = n
up (negsuc n) = 0

abbrev pub dn : ℤ → ℕ
dn (pos n) = 0
dn (negsuc n) = suc n

-- ---- orders and equations

pub le_out : (a b : ℤ) → T (le_z a b) → up a + dn b ≤ up b + dn a
le_out (pos a) (pos b) t = omega (arith, leb→le a b t)
le_out (pos a) (negsuc b) t = absurd t
le_out (negsuc a) (pos b) t = omega arith
le_out (negsuc a) (negsuc b) t = omega (arith, leb→le b a t)

pub nle_out : (a b : ℤ) → T (not (le_z a b)) → up b + dn a < up a + dn b
nle_out (pos a) (pos b) t = omega (arith, nleb→lt a b t)
nle_out (pos a) (negsuc b) t = omega arith
nle_out (negsuc a) (pos b) t = absurd t
nle_out (negsuc a) (negsuc b) t = omega (arith, nleb→lt b a t)

pub lt_out : (a b : ℤ) → T (lt_z a b) → up a + dn b < up b + dn a
lt_out (pos a) (pos b) t = omega (arith, ltb→lt a b t)
lt_out (pos a) (negsuc b) t = absurd t
lt_out (negsuc a) (pos b) t = omega arith
lt_out (negsuc a) (negsuc b) t = omega (arith, ltb→lt b a t)

pub nlt_out : (a b : ℤ) → T (not (lt_z a b)) → up b + dn a ≤ up a + dn b
nlt_out (pos a) (pos b) t = omega (arith, nltb→le a b t)
nlt_out (pos a) (negsuc b) t = omega arith
nlt_out (negsuc a) (pos b) t = absurd t
nlt_out (negsuc a) (negsuc b) t = omega (arith, nltb→le b a t)

pub le_in : (a b : ℤ) → up a + dn b ≤ up b + dn a → T (le_z a b)
le_in (pos a) (pos b) h = le→leb a b (omega arith)
le_in (pos a) (negsuc b) h = let f : ⊥ = omega arith in f
le_in (negsuc a) (pos b) h = tt
le_in (negsuc a) (negsuc b) h = le→leb b a (omega arith)

pub nle_in : (a b : ℤ) → up b + dn a < up a + dn b → T (not (le_z a b))
nle_in a b h = not_T (le_z a b) (λ t. omega (arith, le_out a b t))

pub lt_in : (a b : ℤ) → up a + dn b < up b + dn a → T (lt_z a b)
lt_in (pos a) (pos b) h = lt→ltb a b (omega arith)
lt_in (pos a) (negsuc b) h = let f : ⊥ = omega arith in f
lt_in (negsuc a) (pos b) h = tt
lt_in (negsuc a) (negsuc b) h = lt→ltb b a (omega arith)

pub nlt_in : (a b : ℤ) → up b + dn a ≤ up a + dn b → T (not (lt_z a b))
nlt_in a b h = not_T (lt_z a b) (λ t. omega (arith, lt_out a b t))

pub ≤-out : {a b : ℤ} → a ≤ℤ b → up a + dn b ≤ up b + dn a
≤-out {a} {b} h = le_out a b h.le

pub ≤-in : {a b : ℤ} → up a + dn b ≤ up b + dn a → a ≤ℤ b
≤-in {a} {b} h = le_z_yes (le_in a b h)

pub <-out : {a b : ℤ} → a <ℤ b → up a + dn b < up b + dn a
<-out {a} {b} h = lt_out a b h.lt

pub <-in : {a b : ℤ} → up a + dn b < up b + dn a → a <ℤ b
<-in {a} {b} h = lt_z_yes (lt_in a b h)

pub ≡-out : {a b : ℤ} → a ≡ b → up a + dn b ≡ up b + dn a
≡-out {a} {b} p = subst (λ z. up a + dn z ≡ up z + dn a) p refl

pub ≡-in : {a b : ℤ} → up a + dn b ≡ up b + dn a → a ≡ b
≡-in {a = pos a} {b = pos b} h = ap pos (omega arith)
≡-in {a = pos a} {b = negsuc b} h = let f : ⊥ = omega arith in absurd f
≡-in {a = negsuc a} {b = pos b} h = let f : ⊥ = omega arith in absurd f
≡-in {a = negsuc a} {b = negsuc b} h = ap negsuc (omega arith)

pub ruleset int = (arith, ≤-out, ≤-in, <-out, <-in, ≡-out, ≡-in, le_out, le_in, nle_out, nle_in, lt_out, lt_in, nlt_out, nlt_in)

-- ---- what the operations are

neg_up : (z : ℤ) → up (neg_ℤ z) ≡ dn z
neg_up (pos zero) = refl
neg_up (pos (suc n)) = refl
neg_up (negsuc n) = refl

neg_dn : (z : ℤ) → dn (neg_ℤ z) ≡ up z
neg_dn (pos zero) = refl
neg_dn (pos (suc n)) = refl
neg_dn (negsuc n) = refl

pub neg_is : (z : ℤ) → up (neg_ℤ z) + up z ≡ dn z + dn (neg_ℤ z)
neg_is z = omega (arith, neg_up z, neg_dn z)

difference_is : (a b : ℕ) → up (sub_ℕ a b) + b ≡ a + dn (sub_ℕ a b)
difference_is a b = go (ltb a b) (ltb→lt a b) (nltb→le a b)
  where
    go : (t : Bool) → (T t → a < b) → (T (not t) → b ≤ a) → up (cond t (negsuc (b - suc a)) (pos (a - b))) + b ≡ a + dn (cond t (negsuc (b - suc a)) (pos (a - b)))
    go true f g = omega (arith, f tt)
    go false f g = omega (arith, g tt)

pub sum_is : (a b : ℤ) → up (a +ℤ b) + (dn a + dn b) ≡ (up a + up b) + dn (a +ℤ b)
sum_is (pos a) (pos b) = omega arith
sum_is (pos a) (negsuc b) = omega (arith, difference_is a (suc b))
sum_is (negsuc a) (pos b) = omega (arith, difference_is b (suc a))
sum_is (negsuc a) (negsuc b) = omega arith

pub product_is : (a b : ℤ) → up (a *ℤ b) + (up a * dn b + dn a * up b) ≡ (up a * up b + dn a * dn b) + dn (a *ℤ b)
product_is (pos a) (pos b) = omega arith
product_is (pos a) (negsuc b) = omega (arith, neg_up (pos (a * suc b)), neg_dn (pos (a * suc b)))
product_is (negsuc a) (pos b) = omega (arith, neg_up (pos (suc a * b)), neg_dn (pos (suc a * b)))
product_is (negsuc a) (negsuc b) = omega arith

-- ---- products and orders: these are not linear

pub times_pos : (n : ℕ) {a b : ℤ} → a ≤ℤ b → (pos n *ℤ a) ≤ℤ (pos n *ℤ b)
times_pos n {a} {b} h = omega (int, product_is (pos n) a, product_is (pos n) b, mul-le-mul_left n (≤-out h))

pub times_neg : (n : ℕ) {a b : ℤ} → a ≤ℤ b → (negsuc n *ℤ b) ≤ℤ (negsuc n *ℤ a)
times_neg n {a} {b} h = omega (int, product_is (negsuc n) a, product_is (negsuc n) b, mul-le-mul_left (suc n) (≤-out h))

pub times : {a b c d : ℤ} → pos 0 ≤ℤ a → a ≤ℤ b → pos 0 ≤ℤ c → c ≤ℤ d → (a *ℤ c) ≤ℤ (b *ℤ d)
times {a = pos a} {b = pos b} {c = pos c} {d = pos d} i h j k = omega (int, mul-le-mul {n₁ = a} {m₁ = c} {n₂ = b} {m₂ = d} (omega int) (omega int))
times {a = pos a} {b = pos b} {c = pos c} {d = negsuc d} i h j k = absurd k.le
times {a = pos a} {b = pos b} {c = negsuc c} {d} i h j k = absurd j.le
times {a = pos a} {b = negsuc b} {c} {d} i h j k = absurd h.le
times {a = negsuc a} {b} {c} {d} i h j k = absurd i.le

-- ---- signs and the absolute value

pub not_negative : {z : ℤ} → pos 0 ≤ℤ z → dn z ≡ 0
not_negative {z = pos n} h = refl
not_negative {z = negsuc n} h = absurd h.le

pub not_positive : {z : ℤ} → z ≤ℤ pos 0 → up z ≡ 0
not_positive {z = pos n} h = omega (arith, ≤-out h)
not_positive {z = negsuc n} h = refl

pub abs_is : (z : ℤ) → nat_abs z ≡ up z + dn z
abs_is (pos n) = omega arith
abs_is (negsuc n) = omega arith

-- ---- orders
trans : {a b c : ℤ} → a ≤ℤ b → b ≤ℤ c → a ≤ℤ c
trans h k = omega int

plus : {a b c d : ℤ} → a ≤ℤ b → c ≤ℤ d → (a +ℤ c) ≤ℤ (b +ℤ d)
plus {a} {b} {c} {d} h k = omega (int, sum_is a c, sum_is b d)

assoc : (a b c : ℤ) → (a +ℤ b) +ℤ c ≡ a +ℤ (b +ℤ c)
assoc a b c = omega (int, sum_is (a +ℤ b) c, sum_is a b, sum_is a (b +ℤ c), sum_is b c)

minus : (a b c : ℤ) → a ≤ℤ b → (a -ℤ c) ≤ℤ (b -ℤ c)
minus a b c h = omega (int, sum_is a (neg_ℤ c), sum_is b (neg_ℤ c), neg_is c)
