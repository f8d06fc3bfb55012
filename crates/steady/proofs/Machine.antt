-- What the code reckons with: steps and weights that fit the machine's numbers, and one more position of a rise.
use Prim.Native.Nat.{ℕ, zero, suc, ◌+◌, ◌-◌, ◌*◌, ◌/◌, ◌^◌, ◌<◌, ◌≤◌}
use mathlib.Core.Path.{◌≡◌, refl, sym, ap, ap₂, ◌∙◌, subst}
use mathlib.Core.List.{List}
use mathlib.Core.Bool.{Bool, true, false, not, cond, ◌&&◌}
use native.Mathlib.Omega.{arith}
use native.Mathlib.Nat.{mul-le-mul}
use native.Mathlib.Numerals.{add-one}
use lib.Dec.{T, eqb, ltb}
use lib.IntN.{ℤ, pos, negsuc, neg_ℤ, nat_abs, ◌+ℤ◌, ◌-ℤ◌}
use lib.Signed.{◌≤ℤ◌, le_z, le_z_yes, lt_z, lt_z_no, quot_z}
use lib.ListN.{length}
use borrow.Author.Tests.{ne_eqb}
use mir.Syntax.{w64}
use mir.Val.{SFits, of_z}
use Rattle.format.specs.Limits.{max_number, max_divisor}
use Rattle.format.proofs.Int.{int, sum_is, neg_is, abs_is, not_negative}
use Rattle.format.proofs.Ints.{sfits_abs, abs_add}
use Rattle.words.specs.Bit.{bit}
use Rattle.program.specs.Program.{term_in}
use Rattle.program.specs.Evaluate.{smaller}
use Rattle.program.specs.Evaluable.{Small}
use Rattle.program.specs.Readings.{valued}
use Rattle.program.specs.Variables.{from_above, swaps}
use Rattle.program.specs.declared.Term.{Term}
use Rattle.program.specs.declared.Variable.{Variable}
use Rattle.program.proofs.Tests.{cases, is_test, and_left, and_right}
use Rattle.bodies.specs.Readings.{reading_of}
use Rattle.bodies.proofs.Loops.{reading_small}
use Rattle.steady.specs.Estimate.{distance, apart, further, weight, room_below, weight_at, rise_below, number_at, rise, factor_rise, outruns}
use Rattle.steady.specs.Steps.{steps_of, steps_at, Shared}
use Rattle.steady.specs.Strides.{stride_by, stride_of, stride_at}
use Rattle.steady.proofs.Distances.{distance_up, distance_down, distance_most}
use Rattle.steady.proofs.Weights.{weight_room, room_most}

-- ---- steps

module _ (a b : ℤ) where
  pub difference_fits : nat_abs a + nat_abs b < 2 ^ 63 → SFits w64 (b -ℤ a)
  unfolding distance
  difference_fits h = sfits_abs (b -ℤ a) (nat_abs a + nat_abs b) (distance_most a b) h

  pub distance_below : lt_z a b ≡ true → b -ℤ a ≡ pos (distance a b)
  distance_below e = let t = is_test e in omega (int, sum_is b (neg_ℤ a), neg_is a, distance_up a b (omega int))

  pub distance_above : lt_z a b ≡ false → a -ℤ b ≡ pos (distance a b)
  distance_above e = let t : b ≤ℤ a = lt_z_no (subst (λ (t : Bool). T (not t)) (sym e) tt) in omega (int, sum_is a (neg_ℤ b), neg_is b, distance_down a b t)

pub further_small : (x : Variable) (a s : ℤ) → nat_abs (further x a s) ≤ nat_abs a + nat_abs s
unfolding further swaps distance
further_small x a s = go (from_above x)
  where
    go : (t : Bool) → nat_abs (cond t (a -ℤ s) (a +ℤ s)) ≤ nat_abs a + nat_abs s
    go true = omega (arith, distance_most s a)
    go false = abs_add a s

module _ (kept : ℕ) (first aims : List ℤ) where
  pub steps_kept : (i x : ℕ) → bit kept i ≡ true → distance (valued first x) (valued aims x) ≡ steps_of kept first aims i x
  unfolding steps_of
  steps_kept i x e = simp e

  pub steps_none : (i x : ℕ) → bit kept i ≡ false → 0 ≡ steps_of kept first aims i x
  unfolding steps_of
  steps_none i x e = simp e

  pub steps_small : Small first → Small aims → (i x : ℕ) → steps_of kept first aims i x ≤ max_number + max_number
  unfolding steps_of
  steps_small h k i x = go (bit kept i)
    where
      go : (t : Bool) → cond t (distance (valued first x) (valued aims x)) 0 ≤ max_number + max_number
      go true = omega (arith, distance_most (valued first x) (valued aims x), h x, k x)
      go false = omega arith

  -- they are the steps between the two readings
  pub steps_are : (second : List ℤ) (ts : List Term) → apart (reading_of kept first second ts) (reading_of kept aims second ts) ≡ steps_at kept first aims ts
  unfolding steps_of reading_of
  steps_are second ts = λ k j. go (bit kept j) (term_in ts j).variable k
    where
      go : (t : Bool) (x : ℕ) → distance (cond t (valued first x) (valued second x)) (cond t (valued aims x) (valued second x)) ≡ cond t (distance (valued first x) (valued aims x)) 0
      go true x = refl
      go false x = let b = valued second x in omega (int, distance_up b b (omega int))

  pub apart_small : (second : List ℤ) (ts : List Term) → Small first → Small aims → Small second
      → (i : ℕ) → apart (reading_of kept first second ts) (reading_of kept aims second ts) i ≤ max_number + max_number
  apart_small second ts f a s i =
      omega (arith, distance_most (reading_of kept first second ts i) (reading_of kept aims second ts i), reading_small kept first second ts i f s, reading_small kept aims second ts i a s)

  -- position by position
  pub steps_between : (second : List ℤ) (ts : List Term) (i : ℕ) {t : Term} → t ≡ term_in ts i
      → steps_of kept first aims i t.variable ≡ apart (reading_of kept first second ts) (reading_of kept aims second ts) i
  steps_between second ts i e = ap (λ (u : Term). steps_of kept first aims i u.variable) e ∙ sym (ap (λ (f : ℕ → ℕ). f i) (steps_are second ts))

-- ---- the rise of a product, by its tests

module _ (at aim : ℕ → ℤ) where
  -- the first factor moves, and the second is at least 1
  abbrev pub first_lifts : Bool
  first_lifts = not (eqb (apart at aim 0) 0) && le_z (pos 1) (at 1)

  pub lifts_as : {steps value : ℤ} {b : Bool} → steps ≡ pos (apart at aim 0) → value ≡ at 1
      → (not (eqb (of_z w64 steps) 0) && le_z (pos 1) value) ≡ b → first_lifts ≡ b
  lifts_as p q e = ap₂ (λ (s v : ℤ). not (eqb (of_z w64 s) 0) && le_z (pos 1) v) (sym p) (sym q) ∙ e

  pub factor_first : first_lifts ≡ true → apart at aim 0 ≡ factor_rise at aim
  unfolding factor_rise
  factor_first e = rw e

  pub factor_second : first_lifts ≡ false → le_z (pos 1) (at 0) ≡ true → apart at aim 1 ≡ factor_rise at aim
  unfolding factor_rise
  factor_second e q = rw (e, q)

  pub factor_none : first_lifts ≡ false → le_z (pos 1) (at 0) ≡ false → 0 ≡ factor_rise at aim
  unfolding factor_rise
  factor_none e q = rw (e, q)

  pub factor_small : (b : ℕ) → ((i : ℕ) → apart at aim i ≤ b) → factor_rise at aim ≤ b
  unfolding factor_rise
  factor_small b h = go first_lifts (le_z (pos 1) (at 0))
    where
      go : (s t : Bool) → cond s (apart at aim 0) (cond t (apart at aim 1) 0) ≤ b
      go true t = h 0
      go false true = h 1
      go false false = omega arith

-- ---- strides

-- a divisor is its own size
pub own_size : (d : ℤ) → pos 1 ≤ℤ d → d ≡ pos (nat_abs d)
own_size (pos n) h = refl
own_size (negsuc n) h = absurd h.le

-- and so is a room
pub room_size : (d : ℤ) → pos 0 ≤ℤ d → d ≡ pos (nat_abs d)
room_size (pos n) h = refl
room_size (negsuc n) h = absurd h.le

module _ (a : ℤ) where
  pub stride_so : (le_z (pos 1) a && le_z a (pos max_number)) ≡ true → a ≡ pos (stride_by a)
  unfolding stride_by
  stride_so e = rw e (own_size a (le_z_yes (and_left (le_z (pos 1) a) (le_z a (pos max_number)) (is_test e))))

  pub stride_not : (le_z (pos 1) a && le_z a (pos max_number)) ≡ false → pos 1 ≡ pos (stride_by a)
  unfolding stride_by
  stride_not e = rw e

  pub stride_least : 1 ≤ stride_by a
  unfolding stride_by
  stride_least = cases (le_z (pos 1) a && le_z a (pos max_number)) (λ t. 1 ≤ cond t (nat_abs a) 1)
      (λ t. let l = and_left (le_z (pos 1) a) (le_z a (pos max_number)) t in omega (int, l, abs_is a)) (λ t. omega arith)

  pub stride_most : stride_by a ≤ max_number
  unfolding stride_by
  stride_most = cases (le_z (pos 1) a && le_z a (pos max_number)) (λ t. cond t (nat_abs a) 1 ≤ max_number)
      (λ t. let l = and_left (le_z (pos 1) a) (le_z a (pos max_number)) t in
      let m = and_right (le_z (pos 1) a) (le_z a (pos max_number)) t in
      omega (int, l, m, abs_is a, not_negative {z = a} (omega int)))
      (λ t. omega arith)

  -- as the code has it
  pub stride_own : {r : ℤ} → r ≡ pos (stride_by a) → (pos 1 ≤ℤ r) × (nat_abs r ≤ max_number)
  stride_own e = rw e (omega (int, stride_least), stride_most)

-- ---- weights

pub weight_none : (room : ℕ) (k : ℤ) (stride : ℕ) (s : ℤ) → s ≡ pos 0 → pos 0 ≡ pos (weight room k stride (nat_abs s))
unfolding weight
weight_none room k stride s e = rw e

-- a number of the machine that is not 0
pub nonzero : (s : ℤ) → (of_z w64 s ≡ 0 → ⊥) → nat_abs s ≡ 0 → ⊥
nonzero (pos n) f e = f e
nonzero (negsuc n) f e = let z : ⊥ = omega arith in z

pub weight_some : (room k stride s : ℤ) → pos 0 ≤ℤ room → pos 1 ≤ℤ stride → (of_z w64 s ≡ 0 → ⊥)
    → smaller (quot_z room stride) (pos (nat_abs k)) ≡ pos (weight (nat_abs room) k (nat_abs stride) (nat_abs s))
unfolding weight
weight_some (pos room) k (pos stride) s h o f = simp (ne_eqb (nat_abs s) 0 (nonzero s f)) (go (ltb (nat_abs k) (room / stride)))
  where
    go : (t : Bool) → cond t (pos (nat_abs k)) (pos (room / stride)) ≡ pos (cond t (nat_abs k) (room / stride))
    go true = refl
    go false = refl
weight_some (pos room) k (negsuc stride) s h o f = absurd o.le
weight_some (negsuc room) k stride s h o f = absurd h.le

-- the code's tests of a stride are those of the definition
pub outruns_as : (ts : List Term) (kept : ℕ) (first aims strides : List ℤ) (i : ℕ) (own : ℤ) {o steps stride : ℤ} {t : Term} → pos 1 ≤ℤ own → o ≡ own → t ≡ term_in ts i
    → steps ≡ pos (steps_of kept first aims i t.variable) → stride ≡ pos (stride_of strides t.variable)
    → (eqb t.op 0 && (not (eqb (of_z w64 steps) 0) && lt_z o stride)) ≡ outruns (nat_abs own) (stride_at strides ts) ts (steps_at kept first aims ts) i
outruns_as ts kept first aims strides i own h e q p s = rw (e ∙ own_size own h, p, s, q) refl

-- ---- one more position

module _ (d : ℕ) (number : ℕ → ℤ) (stride steps : ℕ → ℕ) where
  pub room_none : d ≡ room_below d number stride steps 0
  unfolding room_below
  room_none = refl

  pub rise_none : 0 ≡ rise_below d number stride steps 0
  unfolding rise_below
  rise_none = refl

  room_more : (i : ℕ) → pos (room_below d number stride steps i) -ℤ pos (weight_at d number stride steps i * stride i) ≡ pos (room_below d number stride steps (i + 1))
  unfolding room_below
  room_more i = rw add-one (let r = room_below d number stride steps i in let t = weight_at d number stride steps i * stride i in
      omega (int, sum_is (pos r) (neg_ℤ (pos t)), neg_is (pos t), weight_room r (number i) (stride i) (steps i)))

  rise_more : (i : ℕ) → rise_below d number stride steps i + weight_at d number stride steps i * steps i ≡ rise_below d number stride steps (i + 1)
  unfolding rise_below
  rise_more i = rw add-one

  module _ (one : (i : ℕ) → 1 ≤ stride i) where
    -- a weight is no more than what is taken
    weight_taken : (i : ℕ) → weight_at d number stride steps i ≤ weight_at d number stride steps i * stride i
    weight_taken i =
        let w = weight_at d number stride steps i in
        omega (arith, mul-le-mul {n₁ = w} {m₁ = 1} {n₂ = w} {m₂ = stride i} (omega arith) (one i))

    -- where no room is left no more is added
    rise_stays : (i k m : ℕ) → m ≡ k + i → room_below d number stride steps i ≡ 0
        → (room_below d number stride steps m ≡ 0) × (rise_below d number stride steps i ≡ rise_below d number stride steps m)
    unfolding rise_below room_below
    rise_stays i zero m q e =
        let p : i ≡ m = omega arith in
        (subst (λ (x : ℕ). room_below d number stride steps x ≡ 0) p e, ap (rise_below d number stride steps) p)
    rise_stays i (suc k) zero q e = let f : ⊥ = omega arith in absurd f
    rise_stays i (suc k) (suc m) q e =
        let h = rise_stays i k m (omega arith) e in
        let z : weight_at d number stride steps m ≡ 0 = omega (arith, h.0, weight_taken m, weight_room (room_below d number stride steps m) (number m) (stride m) (steps m)) in
        (omega (arith, h.0), omega (arith, h.1, ap (λ (x : ℕ). x * steps m) z))

    pub rise_whole : (i m : ℕ) → i ≤ m → room_below d number stride steps i ≡ 0 → rise_below d number stride steps i ≡ rise_below d number stride steps m
    rise_whole i m h e = (rise_stays i (m - i) m (omega arith) e).1

    -- few and small steps make a small rise
    rise_small : (b m : ℕ) → ((i : ℕ) → steps i ≤ b) → rise_below d number stride steps m + room_below d number stride steps m * b ≤ d * b
    unfolding rise_below room_below
    rise_small b zero h = omega arith
    rise_small b (suc m) h =
        let r = room_below d number stride steps m in
        let w = weight_at d number stride steps m in
        let l = weight_room r (number m) (stride m) (steps m) in
        let e : (r - w * stride m) + w * stride m ≡ r = omega arith in
        omega (arith, rise_small b m h, ap (λ (z : ℕ). z * b) e, mul-le-mul {n₁ = w} {m₁ = steps m} {n₂ = w * stride m} {m₂ = b} (weight_taken m) (h m))

    -- the whole rise is small
    pub rise_near : d ≤ max_divisor * max_number → (m : ℕ) → ((i : ℕ) → steps i ≤ max_number + max_number) → rise_below d number stride steps m ≤ max_divisor * max_number * (max_number + max_number)
    rise_near few m small = omega (arith, rise_small (max_number + max_number) m small)

  -- ---- a turn of the loop, as the machine has it

  module _ (i : ℕ) where
    pub total_here : {total lift : ℤ} → total ≡ pos (rise_below d number stride steps i) → lift ≡ pos (weight_at d number stride steps i * steps i)
        → total +ℤ lift ≡ pos (rise_below d number stride steps (i + 1))
    total_here p q = ap₂ ◌+ℤ◌ p q ∙ ap pos (rise_more i)

    pub room_here : {room taken : ℤ} → room ≡ pos (room_below d number stride steps i) → taken ≡ pos (weight_at d number stride steps i * stride i)
        → room -ℤ taken ≡ pos (room_below d number stride steps (i + 1))
    room_here p q = ap₂ ◌-ℤ◌ p q ∙ room_more i

    -- everything fits
    module _ (few : d ≤ max_divisor * max_number) where
      pub total_fits : ((i : ℕ) → 1 ≤ stride i) → ((i : ℕ) → steps i ≤ max_number + max_number) → {total lift : ℤ} → total ≡ pos (rise_below d number stride steps i)
          → lift ≡ pos (weight_at d number stride steps i * steps i) → SFits w64 (total +ℤ lift)
      total_fits one small p q = rw (total_here p q) (sfits_abs (pos (rise_below d number stride steps (i + 1))) _ (rise_near one few (i + 1) small) (omega arith))

      pub room_fits : {room taken : ℤ} → room ≡ pos (room_below d number stride steps i) → taken ≡ pos (weight_at d number stride steps i * stride i) → SFits w64 (room -ℤ taken)
      room_fits p q = rw (room_here p q) (sfits_abs (pos (room_below d number stride steps (i + 1))) d (room_most d number stride steps (i + 1)) (omega arith))

-- the share of a term in the room left is that of its position
pub shared_here : (d : ℕ) (ts : List Term) (kept : ℕ) (first aims strides : List ℤ) (i : ℕ) {room : ℤ} {t : Term} {taken lift : ℤ}
    → Shared (nat_abs room) t.number (stride_of strides t.variable) (steps_of kept first aims i t.variable) taken lift
    → room ≡ pos (room_below d (number_at ts) (stride_at strides ts) (steps_at kept first aims ts) i) → t ≡ term_in ts i
    → Shared (room_below d (number_at ts) (stride_at strides ts) (steps_at kept first aims ts) i) (number_at ts i) (stride_at strides ts i) (steps_at kept first aims ts i) taken lift
shared_here d ts kept first aims strides i h p q = rw (p, q) at h

-- the rise of a sum, from the steps that the code counts
pub rise_is : (own : ℕ) (stride : ℕ → ℕ) (d : ℤ) (ts : List Term) (kept : ℕ) (first aims second : List ℤ)
    → rise_below (nat_abs d * own) (number_at ts) stride (steps_at kept first aims ts) (length ts) ≡ rise own stride d ts (reading_of kept first second ts) (reading_of kept aims second ts)
unfolding rise
rise_is own stride d ts kept first aims second = ap (λ (f : ℕ → ℕ). rise_below (nat_abs d * own) (number_at ts) stride f (length ts)) (sym (steps_are kept first aims second ts))
