-- The directions of document 01 are right: a rule demands no less of its head when its rising positions rise, its falling ones fall and its
-- mixed ones stay. Plain positions move the amount, literal ones decide whether it is given. What the rule gives is compared in its head's order.
use Rattle.std.specs.Prelude.{Option, Some, None}
use Prim.Native.Nat.{ℕ, zero, suc, ◌-◌, ◌<◌, ◌≤◌}
use mathlib.Core.Path.{◌≡◌, refl, sym, subst}
use mathlib.Core.List.{List, [], ◌∷◌}
use mathlib.Core.Bool.{Bool, true, false, not, cond}
use native.Mathlib.Omega.{arith}
use lib.IntN.{ℤ, pos, negsuc, nat_abs, ◌+ℤ◌, ◌*ℤ◌}
use lib.Signed.{◌≤ℤ◌, le_z, lt_z, le_z_yes, ≤ℤ_refl}
use lib.ListN.{length}
use lib.Dec.{T}
use borrow.Author.Tests.{ne_eqb}
use Rattle.format.proofs.Int.{int, sum_is, times_pos, times_neg, times, not_negative, not_positive, abs_is}
use Rattle.program.specs.Tables.{◌⇒◌, select}
use Rattle.program.specs.Program.{Rule, term_form, divisor_of, variable_in, term_in}
use Rattle.program.specs.Variables.{from_above, swaps, not_past, in_range}
use Rattle.program.specs.Directions.{by_sign, by_range, plain_direction, opposite, away, direction}
use Rattle.program.specs.Evaluate.{sum_below, larger, smaller, pick_to, holds, all_hold, only_if, amount, evaluate}
use Rattle.program.specs.Readings.{body_variable}
use Rattle.program.specs.declared.Direction.{Direction}
use Rattle.program.specs.declared.Direction.TheVariants.{Rising, Falling, Mixed}
use Rattle.program.proofs.Promises.{RulePromise, plain_position, carried_position, divisor_least}
use Rattle.program.proofs.Quotients.{over_up_rises}
use Rattle.program.proofs.Gives.{seven, amount_sum, amount_largest, amount_smallest, amount_product, amount_size, amount_literals, amount_carried}
use Rattle.program.proofs.Pushes.{plain_sum, plain_rising, plain_size, plain_carried, term_least, term_below, direction_plain, direction_is}
use Rattle.program.proofs.Tests.{cases, and_left, and_right, and_both}
use Rattle.program.proofs.Variables.{low_in_is, high_in_is}
use Rattle.program.specs.declared.Variable.{Variable}
use Rattle.program.specs.declared.Term.{Term}

-- b is a moved in this direction, if at all
abbrev pub Moves : Direction → ℤ → ℤ → Type 0
Moves Rising a b = a ≤ℤ b
Moves Falling a b = b ≤ℤ a
Moves Mixed a b = a ≡ b

-- b is a moved in this direction, if at all, in an order
abbrev pub Onward : (ℤ → ℤ → Bool) → Direction → ℤ → ℤ → Type 0
Onward le Rising a b = T (le a b)
Onward le Falling a b = T (le b a)
Onward le Mixed a b = a ≡ b

-- in the order of x, by a direction as seen from its starting end, it is moved as it is in plain numbers
onward_away : (x : Variable) (d : Direction) (a b : ℤ) → Onward (not_past x) (away x d) a b ≡ Onward le_z d a b
unfolding away not_past swaps
onward_away x d a b = cases (from_above x) (λ t. Onward (λ y z. cond t (le_z z y) (le_z y z)) (cond t (opposite d) d) a b ≡ Onward le_z d a b) (λ t. back d) (λ t. refl)
  where
    back : (d : Direction) → Onward (λ y z. le_z z y) (opposite d) a b ≡ Onward le_z d a b
    back Rising = refl
    back Falling = refl
    back Mixed = refl

pub moves_away : (x : Variable) (d : Direction) (a b : ℤ) → Onward (not_past x) (away x d) a b → Moves d a b
moves_away x d a b h = plain d (subst (λ A. A) (onward_away x d a b) h)
  where
    plain : (d : Direction) → Onward le_z d a b → Moves d a b
    plain Rising t = le_z_yes t
    plain Falling t = le_z_yes t
    plain Mixed e = e

pub away_moves : (x : Variable) (d : Direction) (a b : ℤ) → Moves d a b → Onward (not_past x) (away x d) a b
away_moves x d a b h = subst (λ A. A) (sym (onward_away x d a b)) (tested d h)
  where
    tested : (d : Direction) → Moves d a b → Onward le_z d a b
    tested Rising k = k.le
    tested Falling k = k.le
    tested Mixed e = e

-- of a head x the first demands no more than the second
abbrev pub Under : Variable → Option ℤ → Option ℤ → Type 0
Under x None h = Unit {0}
Under x (Some a) None = ⊥
Under x (Some a) (Some b) = T (not_past x a b)

-- ---- the numbers

plus_up : (c a b : ℤ) → a ≤ℤ b → (c +ℤ a) ≤ℤ (c +ℤ b)
plus_up c a b h = omega (int, sum_is c a, sum_is c b)

times_negative : (k x y : ℤ) → T (lt_z k (pos 0)) → y ≤ℤ x → (k *ℤ x) ≤ℤ (k *ℤ y)
times_negative (pos n) x y t h = let f : ⊥ = omega int in absurd f
times_negative (negsuc n) x y t h = times_neg n h

times-natural : (k x y : ℤ) → T (not (lt_z k (pos 0))) → x ≤ℤ y → (k *ℤ x) ≤ℤ (k *ℤ y)
times-natural (pos n) x y t h = times_pos n h
times-natural (negsuc n) x y t h = absurd t

weight_up : (k x y : ℤ) → Moves (by_sign k) x y → (k *ℤ x) ≤ℤ (k *ℤ y)
weight_up k x y = cases (lt_z k (pos 0)) (λ b. Moves (cond b Falling Rising) x y → (k *ℤ x) ≤ℤ (k *ℤ y)) (times_negative k x y) (times-natural k x y)

-- one of two, before and after both have risen: left are the ways in which the choice changed
picked_up : (t s : Bool) {a b x y : ℤ} → a ≤ℤ b → x ≤ℤ y → (T t → T (not s) → x ≤ℤ b) → (T (not t) → T s → a ≤ℤ y) → cond t x a ≤ℤ cond s y b
picked_up true true h k p q = k
picked_up true false h k p q = p tt tt
picked_up false true h k p q = q tt tt
picked_up false false h k p q = h

-- the pick of two values that have risen has risen
abbrev pub Rises : (ℤ → ℤ → ℤ) → Type 0
Rises pick = (a b x y : ℤ) → a ≤ℤ b → x ≤ℤ y → pick a x ≤ℤ pick b y

pub larger_up : Rises larger
larger_up a b x y h k = picked_up (lt_z a x) (lt_z b y) h k (λ t s. omega int) (λ t s. omega int)

pub smaller_up : Rises smaller
smaller_up a b x y h k = picked_up (lt_z x a) (lt_z y b) h k (λ t s. omega int) (λ t s. omega int)

-- x lies from a to b
pub record Held (a b x : ℤ) : Type 0 where
  pub low : a ≤ℤ x
  pub high : x ≤ℤ b

-- a value lies between a variable's ends
abbrev pub Between : Variable → ℤ → Type 0
Between v = Held v.low v.high

pub in_between : (v : Variable) (x : ℤ) → T (in_range v x) → Between v x
in_between v x t = record { low = low_in_is v x t; high = high_in_is v x t }

size_up : (v : Variable) (x y : ℤ) → Between v x → Between v y → Moves (by_range v) x y → pos (nat_abs x) ≤ℤ pos (nat_abs y)
size_up v x y bx by = cases (le_z (pos 0) v.low) (λ t. Moves (cond t Rising (cond (le_z v.high (pos 0)) Falling Mixed)) x y → pos (nat_abs x) ≤ℤ pos (nat_abs y))
    (λ t m. omega (int, bx.low, by.low, abs_is x, abs_is y, not_negative {z = x} (omega int), not_negative {z = y} (omega int)))
    (λ n. cases (le_z v.high (pos 0)) (λ t. Moves (cond t Falling Mixed) x y → pos (nat_abs x) ≤ℤ pos (nat_abs y))
    (λ t m. omega (int, bx.high, by.high, abs_is x, abs_is y, not_positive {z = x} (omega int), not_positive {z = y} (omega int)))
    (λ t m. subst (λ z. pos (nat_abs x) ≤ℤ pos (nat_abs z)) m (≤ℤ_refl (pos (nat_abs x)))))

-- ---- sums, extremes and literals over the positions

module _ (f g : ℕ → ℤ) where
  pub sum_up : (n : ℕ) → ((i : ℕ) → i < n → f i ≤ℤ g i) → sum_below f n ≤ℤ sum_below g n
  unfolding sum_below
  sum_up zero h = ≤ℤ_refl (pos 0)
  sum_up (suc n) h = omega (int, sum_is (sum_below f n) (f n), sum_is (sum_below g n) (g n), sum_up n (λ i l. h i (omega arith)), h n (omega arith))

  pub pick_up : {pick : ℤ → ℤ → ℤ} → Rises pick → (n : ℕ) → ((i : ℕ) → i ≤ n → f i ≤ℤ g i) → pick_to pick f n ≤ℤ pick_to pick g n
  unfolding pick_to
  pick_up p zero h = h 0 (omega arith)
  pick_up {pick} p (suc n) h = p (pick_to pick f n) (pick_to pick g n) (f (suc n)) (g (suc n)) (pick_up p n (λ i l. h i (omega arith))) (h (suc n) (omega arith))

-- a literal that holds still holds: its value has moved the way that its op allows
pub record Eases (t : Term) (x y : ℤ) : Type 0 where
  pub least : t.op ≡ 1 → x ≤ℤ y
  pub below : t.op ≡ 2 → y ≤ℤ x

holds_up : (t : Term) (x y : ℤ) → Eases t x y → T (holds t x) → T (holds t y)
holds_up t x y e = go t.op t.number e.least e.below
  where
    go : (op : ℕ) (k : ℤ) → (op ≡ 1 → x ≤ℤ y) → (op ≡ 2 → y ≤ℤ x) → T (select op ((1 ⇒ le_z k x) ∷ (2 ⇒ lt_z x k) ∷ []) true)
        → T (select op ((1 ⇒ le_z k y) ∷ (2 ⇒ lt_z y k) ∷ []) true)
    go zero k a b h = tt
    go (suc zero) k a b h = let m = a refl in omega int
    go (suc (suc zero)) k a b h = let m = b refl in omega int
    go (suc (suc (suc n))) k a b h = simp (ne_eqb (suc (suc (suc n))) 1 (omega arith), ne_eqb (suc (suc (suc n))) 2 (omega arith)) tt

pub hold_up : (f g : ℕ → ℤ) (ts : List Term) (n : ℕ) → ((i : ℕ) → i < n → Eases (term_in ts i) (f i) (g i)) → T (all_hold ts f n) → T (all_hold ts g n)
unfolding all_hold
hold_up f g ts zero h t = tt
hold_up f g ts (suc n) h t = and_both (all_hold ts g n) (holds (term_in ts n) (g n))
    (hold_up f g ts n (λ i l. h i (omega arith)) (and_left (all_hold ts f n) (holds (term_in ts n) (f n)) t))
    (holds_up (term_in ts n) (f n) (g n) (h n (omega arith)) (and_right (all_hold ts f n) (holds (term_in ts n) (f n)) t))

-- ---- a rule, its positions read in two ways

module _ {vs : List Variable} {r : Rule} (p : RulePromise vs r) (at to : ℕ → ℤ) where
  -- both readings of position i lie in its variable's range
  pub record Ranged (i : ℕ) : Type 0 where
    pub first : Between (variable_in vs (body_variable r i)) (at i)
    pub second : Between (variable_in vs (body_variable r i)) (to i)

  -- the plain positions are moved in their directions
  abbrev pub PlainMoved : Type 0
  PlainMoved = (i : ℕ) → i < length r.terms → (term_in r.terms i).op ≡ 0
      → Moves (plain_direction (term_form r.form) (variable_in vs (body_variable r i)) (term_in r.terms i).number) (at i) (to i)

  pub amount_up : ((i : ℕ) → i < length r.terms → Ranged i) → PlainMoved → amount r at ≤ℤ amount r to
  amount_up w m =
      seven (λ k. term_form r.form ≡ k → amount r at ≤ℤ amount r to)
      (λ q. rw (amount_sum c d ts at q, amount_sum c d ts to q)
      (over_up_rises (divisor_least p) (total (sum_up (λ i. (term_in ts i).number *ℤ at i) (λ i. (term_in ts i).number *ℤ to i) n (weighed q)))))
      (λ q. rw (amount_largest c d ts at q, amount_largest c d ts to q)
      (total (pick_up at to larger_up (n - 1) (first (omega arith) (omega arith) (p.body.count.max_least q)))))
      (λ q. rw (amount_smallest c d ts at q, amount_smallest c d ts to q)
      (total (pick_up at to smaller_up (n - 1) (first (omega arith) (omega arith) (p.body.count.min_least q)))))
      (λ q. rw (amount_product c d ts at q, amount_product c d ts to q) (total (product q (omega (arith, p.body.count.product_two q)))))
      (λ q. rw (amount_size c d ts at q, amount_size c d ts to q) (total (sized q)))
      (λ q. rw (amount_literals c d ts at q, amount_literals c d ts to q) (≤ℤ_refl r.c))
      (λ q. rw (amount_carried c d ts at q, amount_carried c d ts to q) (total (carried q)))
      (term_form r.form)
      p.form_least
      p.form_most
      refl
    where
      c : ℤ
      c = r.c

      d : ℤ
      d = divisor_of r

      ts : List Term
      ts = r.terms

      n : ℕ
      n = length r.terms

      total : {a b : ℤ} → a ≤ℤ b → (r.c +ℤ a) ≤ℤ (r.c +ℤ b)
      total {a} {b} h = plus_up r.c a b h

      -- a position of a form without literals
      moved : term_form r.form ≤ 5 → (i : ℕ) → i < n → Moves (plain_direction (term_form r.form) (variable_in vs (body_variable r i)) (term_in ts i).number) (at i) (to i)
      moved h i l = m i l ((p.body.terms i l).plain_op (plain_position (term_form r.form) i h))

      weighed : term_form r.form ≡ 1 → (i : ℕ) → i < n → ((term_in ts i).number *ℤ at i) ≤ℤ ((term_in ts i).number *ℤ to i)
      weighed q i l = weight_up (term_in ts i).number (at i) (to i)
          (rw (← plain_sum (term_form r.form) (variable_in vs (body_variable r i)) (term_in ts i).number q) at (moved (omega arith) i l))

      rising : 2 ≤ term_form r.form → term_form r.form ≤ 4 → (i : ℕ) → i < n → at i ≤ℤ to i
      rising h k i l = rw (← plain_rising (term_form r.form) (variable_in vs (body_variable r i)) (term_in ts i).number h k) at (moved (omega arith) i l)

      first : 2 ≤ term_form r.form → term_form r.form ≤ 4 → 1 ≤ n → (i : ℕ) → i ≤ n - 1 → at i ≤ℤ to i
      first h k l i j = rising h k i (omega arith)

      low : term_form r.form ≡ 4 → (i : ℕ) → i < n → pos 0 ≤ℤ at i
      low q i l = let a = (p.body.terms i l).product_order q in let b = (w i l).first.low in omega int

      product : term_form r.form ≡ 4 → 2 ≤ n → (at 0 *ℤ at 1) ≤ℤ (to 0 *ℤ to 1)
      product q l =
          let a : 0 < n = omega arith in
          let b : 1 < n = omega arith in
          times (low q 0 a) (rising (omega arith) (omega arith) 0 a) (low q 1 b) (rising (omega arith) (omega arith) 1 b)

      sized : term_form r.form ≡ 5 → pos (nat_abs (at 0)) ≤ℤ pos (nat_abs (to 0))
      sized q =
          let l : 0 < n = omega (arith, p.body.count.size_one q) in
          size_up (variable_in vs (body_variable r 0)) (at 0) (to 0) (w 0 l).first (w 0 l).second
          (rw (← plain_size (term_form r.form) (variable_in vs (body_variable r 0)) (term_in ts 0).number q) at (moved (omega arith) 0 l))

      carried : term_form r.form ≡ 7 → at 0 ≤ℤ to 0
      carried q =
          let l : 0 < n = omega (arith, p.body.count.carry_least q) in
          rw (← plain_carried (term_form r.form) (variable_in vs (body_variable r 0)) (term_in ts 0).number q)
          at (m 0 l ((p.body.terms 0 l).plain_op (carried_position (term_form r.form) 0 q refl)))

-- ---- what the rule demands

-- a turned move is the move back
moves_back : (d : Direction) (a b : ℤ) → Moves (opposite d) a b → Moves d b a
moves_back Rising a b m = m
moves_back Falling a b m = m
moves_back Mixed a b m = sym m

only_if_up : (x : Variable) (s t : Bool) (a b : ℤ) → (T s → T t) → T (not_past x a b) → Under x (only_if s a) (only_if t b)
only_if_up x true true a b f h = h
only_if_up x true false a b f h = f tt
only_if_up x false t a b f h = tt

module _ {vs : List Variable} {r : Rule} (p : RulePromise vs r) (at to : ℕ → ℤ) where
  abbrev h : Variable
  h = variable_in vs r.head

  eased : (i : ℕ) → Moves (direction vs r i) (at i) (to i) → Eases (term_in r.terms i) (at i) (to i)
  eased i m = record {
    least = λ e. rw (← direction_is vs r i refl refl refl, ← term_least h (term_form r.form) (variable_in vs (body_variable r i)) (term_in r.terms i) e) at m;
    below = λ e. rw (← direction_is vs r i refl refl refl, ← term_below h (term_form r.form) (variable_in vs (body_variable r i)) (term_in r.terms i) e) at m;
  }

  -- the plain direction of position i
  abbrev plain : ℕ → Direction
  plain i = plain_direction (term_form r.form) (variable_in vs (body_variable r i)) (term_in r.terms i).number

  -- the plain positions are moved in their directions, as the head sees them: so is the amount
  amount_away : ((i : ℕ) → i < length r.terms → Ranged p at to i)
      → ((i : ℕ) → i < length r.terms → (term_in r.terms i).op ≡ 0 → Moves (away h (plain i)) (at i) (to i)) → T (not_past h (amount r at) (amount r to))
  unfolding away not_past swaps
  amount_away w =
      cases (from_above h)
      (λ t. ((i : ℕ) → i < length r.terms → (term_in r.terms i).op ≡ 0 → Moves (cond t (opposite (plain i)) (plain i)) (at i) (to i))
      → T (cond t (le_z (amount r to) (amount r at)) (le_z (amount r at) (amount r to))))
      (λ t m. (amount_up p to at (λ i l. record { first = (w i l).second; second = (w i l).first }) (λ i l e. moves_back (plain i) (at i) (to i) (m i l e))).le)
      (λ t m. (amount_up p at to w m).le)

  -- every position moved in its direction: the first reading demands no more than the second
  pub evaluate_up : ((i : ℕ) → i < length r.terms → Ranged p at to i) → ((i : ℕ) → i < length r.terms → Moves (direction vs r i) (at i) (to i))
      → Under h (evaluate r at) (evaluate r to)
  unfolding evaluate
  evaluate_up w m = only_if_up h (all_hold r.terms at (length r.terms)) (all_hold r.terms to (length r.terms)) (amount r at) (amount r to)
      (hold_up at to r.terms (length r.terms) (λ i l. eased i (m i l)))
      (amount_away w (λ i l e. rw (← direction_plain vs r i e) at (m i l)))
