-- A rule's amount at two readings. From the first to the second the plain positions have moved in their directions, each by all but n of its steps, or of its strides in a
-- sum; or they are at most n steps short of the first. What is said of `lo` and `hi` holds of the present values and the later ones, and for a head founded from above the other way round.
use Prim.Native.Nat.{ℕ, zero, suc, ◌+◌, ◌-◌, ◌*◌, ◌<◌, ◌≤◌}
use mathlib.Core.Path.{◌≡◌, refl, ap, subst}
use mathlib.Core.List.{List}
use mathlib.Core.Bool.{Bool, true, false, not, cond, ◌&&◌}
use native.Mathlib.Omega.{arith}
use native.Mathlib.Nat.{mul-le-mul, mul_comm, mul_assoc}
use lib.Dec.{T, eqb}
use lib.IntN.{ℤ, pos, negsuc, nat_abs, ◌+ℤ◌, ◌*ℤ◌}
use lib.Signed.{◌≤ℤ◌, le_z, le_z_yes, lt_z}
use lib.ListN.{length}
use Rattle.format.proofs.Int.{int, up, dn, sum_is, product_is, abs_is, not_negative, not_positive, times}
use Rattle.program.specs.Program.{Rule, term_form, divisor_of, variable_in, term_in}
use Rattle.program.specs.Directions.{by_range, plain_direction}
use Rattle.program.specs.Evaluate.{sum_below, larger, smaller, pick_to, over_up, amount}
use Rattle.program.specs.Readings.{body_variable}
use Rattle.program.specs.declared.Direction.{Direction}
use Rattle.program.specs.declared.Direction.TheVariants.{Rising, Falling, Mixed}
use Rattle.program.specs.declared.Variable.{Variable}
use Rattle.program.specs.declared.Term.{Term}
use Rattle.program.proofs.Tests.{cases, and_right}
use Rattle.program.proofs.Promises.{RulePromise, plain_position, carried_position}
use Rattle.program.proofs.Quotients.{over_up_reaches, over_up_smallest}
use Rattle.program.proofs.Gives.{seven, amount_largest, amount_smallest, amount_size, amount_literals, amount_carried}
use Rattle.program.proofs.Pushes.{plain_sum, plain_rising, plain_size, plain_carried}
use Rattle.program.proofs.Monotone.{Between, PlainMoved}
use Rattle.steady.specs.Estimate.{distance, apart, room_below, weight_at, rise_below, number_at, rise, factor_rise}
use Rattle.steady.proofs.Distances.{distance_up, gain, Slack}
use Rattle.steady.proofs.Weights.{weight_number, weighed, rise_within}

-- ---- quotients

-- n times the divisor below a number takes at most n off its quotient
pub over_up_short : {d : ℤ} → pos 1 ≤ℤ d → (y z : ℤ) (n : ℕ) → y ≤ℤ (z +ℤ pos (nat_abs d * n)) → over_up d y ≤ℤ (over_up d z +ℤ pos n)
over_up_short {d} one y z n h = over_up_smallest one y (over_up d z +ℤ pos n) (go d one (over_up d z) (over_up_reaches one z) h)
  where
    go : (d : ℤ) → pos 1 ≤ℤ d → (q : ℤ) → z ≤ℤ (d *ℤ q) → y ≤ℤ (z +ℤ pos (nat_abs d * n)) → y ≤ℤ (d *ℤ (q +ℤ pos n))
    go (pos k) o q l h =
        omega (int, product_is (pos k) (q +ℤ pos n), product_is (pos k) q, sum_is z (pos (k * n)), ap (λ (x : ℕ). k * x) (sum_is q (pos n)))
    go (negsuc k) o q l h = let f : ⊥ = omega int in absurd f

-- ---- products

-- one factor's steps, where the other is at least 1
factor_gain : (a b u v : ℤ) → pos 0 ≤ℤ a → a ≤ℤ u → pos 0 ≤ℤ b → b ≤ℤ v → pos 1 ≤ℤ v → (a *ℤ b +ℤ pos (distance a u)) ≤ℤ (u *ℤ v)
factor_gain (pos a) (pos b) (pos u) (pos v) i h j k o =
    let e = distance_up (pos a) (pos u) h in
    let s = distance (pos a) (pos u) in
    let q : u ≡ a + s = omega int in
    omega (
      int,
      ap (λ (z : ℕ). z * v) q,
      mul-le-mul {n₁ = a} {m₁ = b} {n₂ = a} {m₂ = v} (omega arith) (omega int),
      mul-le-mul {n₁ = s} {m₁ = 1} {n₂ = s} {m₂ = v} (omega arith) (omega int),
    )
factor_gain (pos a) (pos b) (pos u) (negsuc v) i h j k o = absurd o.le
factor_gain (pos a) (pos b) (negsuc u) v i h j k o = absurd h.le
factor_gain (pos a) (negsuc b) u v i h j k o = absurd j.le
factor_gain (negsuc a) b u v i h j k o = absurd i.le

product_swap : (a b : ℤ) → (a *ℤ b) ≤ℤ (b *ℤ a)
product_swap a b = omega (int, product_is a b, product_is b a, mul_comm (up a) (up b), mul_comm (up a) (dn b), mul_comm (dn a) (up b), mul_comm (dn a) (dn b))

-- ---- the larger and the smaller of two that are short

abbrev Slacks : ℕ → (ℤ → ℤ → ℤ) → Type 0
Slacks n pick = (a b x y : ℤ) → a ≤ℤ (b +ℤ pos n) → x ≤ℤ (y +ℤ pos n) → pick a x ≤ℤ (pick b y +ℤ pos n)

picked_slack : (n : ℕ) (t s : Bool) (a b x y : ℤ) → a ≤ℤ (b +ℤ pos n) → x ≤ℤ (y +ℤ pos n) → (T t → T (not s) → x ≤ℤ (b +ℤ pos n)) → (T (not t) → T s → a ≤ℤ (y +ℤ pos n))
    → cond t x a ≤ℤ (cond s y b +ℤ pos n)
picked_slack n true true a b x y h k p q = k
picked_slack n true false a b x y h k p q = p tt tt
picked_slack n false true a b x y h k p q = q tt tt
picked_slack n false false a b x y h k p q = h

larger_slack : (n : ℕ) → Slacks n larger
larger_slack n a b x y h k =
    picked_slack n (lt_z a x) (lt_z b y) a b x y h k (λ t s. omega (int, sum_is b (pos n), sum_is y (pos n))) (λ t s. omega (int, sum_is b (pos n), sum_is y (pos n)))

smaller_slack : (n : ℕ) → Slacks n smaller
smaller_slack n a b x y h k =
    picked_slack n (lt_z x a) (lt_z y b) a b x y h k (λ t s. omega (int, sum_is b (pos n), sum_is y (pos n))) (λ t s. omega (int, sum_is b (pos n), sum_is y (pos n)))

pick_slack : (f g : ℕ → ℤ) (n : ℕ) (pick : ℤ → ℤ → ℤ) → Slacks n pick → (m : ℕ) → ((i : ℕ) → i ≤ m → f i ≤ℤ (g i +ℤ pos n)) → pick_to pick f m ≤ℤ (pick_to pick g m +ℤ pos n)
unfolding pick_to
pick_slack f g n pick p zero h = h 0 (omega arith)
pick_slack f g n pick p (suc m) h =
    p (pick_to pick f m) (pick_to pick g m) (f (suc m)) (g (suc m)) (pick_slack f g n pick p m (λ i l. h i (omega arith))) (h (suc m) (omega arith))

-- ---- a size that is short

size_slack : (n : ℕ) (v : Variable) (x y : ℤ) → Between v x → Between v y → Slack n (by_range v) x y → pos (nat_abs x) ≤ℤ (pos (nat_abs y) +ℤ pos n)
size_slack n v x y bx by = cases (le_z (pos 0) v.low) (λ t. Slack n (cond t Rising (cond (le_z v.high (pos 0)) Falling Mixed)) x y → pos (nat_abs x) ≤ℤ (pos (nat_abs y) +ℤ pos n))
    (λ t m. omega (int, sum_is y (pos n), bx.low, by.low, abs_is x, abs_is y, not_negative {z = x} (omega int), not_negative {z = y} (omega int)))
    (λ u. cases (le_z v.high (pos 0)) (λ t. Slack n (cond t Falling Mixed) x y → pos (nat_abs x) ≤ℤ (pos (nat_abs y) +ℤ pos n))
    (λ t m. omega (int, sum_is x (pos n), bx.high, by.high, abs_is x, abs_is y, not_positive {z = x} (omega int), not_positive {z = y} (omega int)))
    (λ t m. subst (λ z. pos (nat_abs x) ≤ℤ (pos (nat_abs z) +ℤ pos n)) m (omega int)))

-- ---- a rule

module _ {vs : List Variable} {r : Rule} (p : RulePromise vs r) (n : ℕ) where
  abbrev c : ℤ
  c = r.c

  abbrev d : ℤ
  d = divisor_of r

  abbrev ts : List Term
  ts = r.terms

  abbrev count : ℕ
  count = length r.terms

  -- the plain direction of position i
  abbrev pub plain : ℕ → Direction
  plain i = plain_direction (term_form r.form) (variable_in vs (body_variable r i)) (term_in r.terms i).number

  -- a position of a form without literals is plain
  pub plain_at : term_form r.form ≤ 5 → (i : ℕ) → i < length r.terms → (term_in r.terms i).op ≡ 0
  plain_at h i l = (p.body.terms i l).plain_op (plain_position (term_form r.form) i h)

  -- the sum at a reading
  abbrev pub sum_at : (ℕ → ℤ) → ℤ
  sum_at f = r.c +ℤ sum_below (λ i. (term_in r.terms i).number *ℤ f i) (length r.terms)

  -- and the product
  abbrev pub product_at : (ℕ → ℤ) → ℤ
  product_at f = r.c +ℤ (f 0 *ℤ f 1)

  module _ (lo hi : ℕ → ℤ) (m : PlainMoved p lo hi) where
    pub rising : 2 ≤ term_form r.form → term_form r.form ≤ 4 → (i : ℕ) → i < length r.terms → lo i ≤ℤ hi i
    rising h k i l = rw (← plain_rising (term_form r.form) (variable_in vs (body_variable r i)) (term_in ts i).number h k) at (m i l (plain_at (omega arith) i l))

    -- the rise of a sum is reckoned from `at` and `aim`, in strides
    module _ (at aim : ℕ → ℤ) (own : ℕ) (stride : ℕ → ℕ) (near : (i : ℕ) → i < length r.terms → apart at aim i ≤ distance (lo i) (hi i) + n * stride i) where
      position_short : term_form r.form ≡ 1 → (w i : ℕ) → i < count → w ≤ nat_abs (term_in ts i).number
          → (((term_in ts i).number *ℤ lo i) +ℤ pos (w * apart at aim i)) ≤ℤ (((term_in ts i).number *ℤ hi i) +ℤ pos (w * (n * stride i)))
      position_short q w i l h =
          let k = (term_in ts i).number in
          let v = distance (lo i) (hi i) in
          let u = n * stride i in
          let g = gain k (lo i) (hi i) (rw (← plain_sum (term_form r.form) (variable_in vs (body_variable r i)) k q) at (m i l (plain_at (omega arith) i l))) in
          omega (int, g, weighed v u h (near i l), sum_is (k *ℤ lo i) (pos (nat_abs k * v)), sum_is (k *ℤ lo i) (pos (w * apart at aim i)), sum_is (k *ℤ hi i) (pos (w * u)))

      -- it takes the sum at most n strides of the head times the divisor too far
      pub sum_short : term_form r.form ≡ 1 → (sum_at lo +ℤ pos (rise own stride (divisor_of r) r.terms at aim)) ≤ℤ (sum_at hi +ℤ pos (nat_abs (divisor_of r) * (n * own)))
      unfolding rise
      sum_short q =
          let f : ℕ → ℤ = λ i. (term_in ts i).number *ℤ lo i in
          let g : ℕ → ℤ = λ i. (term_in ts i).number *ℤ hi i in
          let steps = apart at aim in
          let room = nat_abs d * own in
          let a = rise_within room (number_at ts) stride steps f g n count
          (λ i l. position_short q (weight_at room (number_at ts) stride steps i) i l (weight_number _ (term_in ts i).number (stride i) (steps i))) in
          let s = rise_below room (number_at ts) stride steps count in
          let e : room * n ≡ nat_abs d * (n * own) = omega (arith, mul_assoc (nat_abs d) own n, ap (λ (z : ℕ). nat_abs d * z) (mul_comm own n)) in
          omega (
            int,
            a,
            e,
            sum_is c (sum_below f count),
            sum_is c (sum_below g count),
            sum_is (sum_at lo) (pos s),
            sum_is (sum_at hi) (pos (nat_abs d * (n * own))),
            sum_is (sum_below g count) (pos (room * n)),
            sum_is (sum_below f count) (pos (s + room_below room (number_at ts) stride steps count * n)),
          )

    module _ (at aim : ℕ → ℤ) (near : (i : ℕ) → i < length r.terms → apart at aim i ≤ distance (lo i) (hi i) + n) where
      -- the rise takes a product at most n too far
      module _ (q : term_form r.form ≡ 4) (low : (i : ℕ) → i < length r.terms → pos 0 ≤ℤ lo i)
          (under : (i : ℕ) → i < length r.terms → pos 1 ≤ℤ at i → pos 1 ≤ℤ hi i) where
        first : 0 < count
        first = omega (arith, p.body.count.product_two q)

        second : 1 < count
        second = omega (arith, p.body.count.product_two q)

        up_to : (i : ℕ) → i < count → lo i ≤ℤ hi i
        up_to = rising (omega arith) (omega arith)

        factors_short : ((lo 0 *ℤ lo 1) +ℤ pos (factor_rise at aim)) ≤ℤ ((hi 0 *ℤ hi 1) +ℤ pos n)
        unfolding factor_rise
        factors_short =
            let a = lo 0 *ℤ lo 1 in
            let b = hi 0 *ℤ hi 1 in
            cases (not (eqb (apart at aim 0) 0) && le_z (pos 1) (at 1)) (λ t. (a +ℤ pos (cond t (apart at aim 0) (cond (le_z (pos 1) (at 0)) (apart at aim 1) 0))) ≤ℤ (b +ℤ pos n))
            (λ t. let g = factor_gain (lo 0) (lo 1) (hi 0) (hi 1) (low 0 first) (up_to 0 first) (low 1 second) (up_to 1 second)
            (under 1 second (le_z_yes (and_right (not (eqb (apart at aim 0) 0)) (le_z (pos 1) (at 1)) t))) in
            omega (int, g, near 0 first, sum_is a (pos (distance (lo 0) (hi 0))), sum_is a (pos (apart at aim 0)), sum_is b (pos n)))
            (λ t. cases (le_z (pos 1) (at 0)) (λ u. (a +ℤ pos (cond u (apart at aim 1) 0)) ≤ℤ (b +ℤ pos n))
            (λ u. let g = factor_gain (lo 1) (lo 0) (hi 1) (hi 0) (low 1 second) (up_to 1 second) (low 0 first) (up_to 0 first) (under 0 first (le_z_yes u)) in
            omega (
              int,
              g,
              near 1 second,
              product_swap (lo 0) (lo 1),
              product_swap (hi 1) (hi 0),
              sum_is (lo 1 *ℤ lo 0) (pos (distance (lo 1) (hi 1))),
              sum_is a (pos (apart at aim 1)),
              sum_is b (pos n),
            ))
            (λ u. omega (int, times (low 0 first) (up_to 0 first) (low 1 second) (up_to 1 second), sum_is a (pos 0), sum_is b (pos n))))

        pub product_short : (product_at lo +ℤ pos (factor_rise at aim)) ≤ℤ (product_at hi +ℤ pos n)
        product_short =
            let a = lo 0 *ℤ lo 1 in
            let b = hi 0 *ℤ hi 1 in
            omega (
              int,
              factors_short,
              sum_is c a,
              sum_is c b,
              sum_is a (pos (factor_rise at aim)),
              sum_is b (pos n),
              sum_is (product_at lo) (pos (factor_rise at aim)),
              sum_is (product_at hi) (pos n),
            )

  -- ---- forms other than sums and products

  module _ (f g : ℕ → ℤ) where
    -- the plain positions are at most n steps short in their directions
    abbrev pub PlainSlack : Type 0
    PlainSlack = (i : ℕ) → i < length r.terms → (term_in r.terms i).op ≡ 0 → Slack n (plain i) (f i) (g i)

    module _ (bf : (i : ℕ) → i < length r.terms → Between (variable_in vs (body_variable r i)) (f i))
        (bg : (i : ℕ) → i < length r.terms → Between (variable_in vs (body_variable r i)) (g i)) (s : PlainSlack) where
      total : (a b : ℤ) → a ≤ℤ (b +ℤ pos n) → (r.c +ℤ a) ≤ℤ ((r.c +ℤ b) +ℤ pos n)
      total a b h = omega (int, sum_is c a, sum_is c b, sum_is b (pos n), sum_is (c +ℤ b) (pos n))

      drawn : 2 ≤ term_form r.form → term_form r.form ≤ 4 → 1 ≤ count → (i : ℕ) → i ≤ count - 1 → f i ≤ℤ (g i +ℤ pos n)
      drawn h k o i l =
          rw (← plain_rising (term_form r.form) (variable_in vs (body_variable r i)) (term_in ts i).number h k)
          at (s i (omega arith) (plain_at (omega arith) i (omega arith)))

      sized : term_form r.form ≡ 5 → pos (nat_abs (f 0)) ≤ℤ (pos (nat_abs (g 0)) +ℤ pos n)
      sized q =
          let l : 0 < count = omega (arith, p.body.count.size_one q) in
          size_slack n (variable_in vs (body_variable r 0)) (f 0) (g 0) (bf 0 l) (bg 0 l)
          (rw (← plain_size (term_form r.form) (variable_in vs (body_variable r 0)) (term_in ts 0).number q) at (s 0 l (plain_at (omega arith) 0 l)))

      carried : term_form r.form ≡ 7 → f 0 ≤ℤ (g 0 +ℤ pos n)
      carried q =
          let l : 0 < count = omega (arith, p.body.count.carry_least q) in
          rw (← plain_carried (term_form r.form) (variable_in vs (body_variable r 0)) (term_in ts 0).number q)
          at (s 0 l ((p.body.terms 0 l).plain_op (carried_position (term_form r.form) 0 q refl)))

      pub amount_short : (term_form r.form ≡ 1 → ⊥) → (term_form r.form ≡ 4 → ⊥) → amount r f ≤ℤ (amount r g +ℤ pos n)
      amount_short not-sum not-product =
          seven (λ k. term_form r.form ≡ k → amount r f ≤ℤ (amount r g +ℤ pos n))
          (λ q. absurd (not-sum q))
          (λ q. rw (amount_largest c d ts f q, amount_largest c d ts g q)
          (total _ _ (pick_slack f g n larger (larger_slack n) (count - 1) (drawn (omega arith) (omega arith) (p.body.count.max_least q)))))
          (λ q. rw (amount_smallest c d ts f q, amount_smallest c d ts g q)
          (total _ _ (pick_slack f g n smaller (smaller_slack n) (count - 1) (drawn (omega arith) (omega arith) (p.body.count.min_least q)))))
          (λ q. absurd (not-product q))
          (λ q. rw (amount_size c d ts f q, amount_size c d ts g q) (total _ _ (sized q)))
          (λ q. rw (amount_literals c d ts f q, amount_literals c d ts g q) (omega (int, sum_is c (pos n))))
          (λ q. rw (amount_carried c d ts f q, amount_carried c d ts g q) (total _ _ (carried q)))
          (term_form r.form)
          p.form_least
          p.form_most
          refl
