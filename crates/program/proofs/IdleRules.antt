-- The most that a rule can give over ranges, and that the test of an idle rule is right: each position read where it makes the rule give most bounds
-- every other reading, and values of the variables give that reading, since no variable stands twice in a body.
use Rattle.std.specs.Prelude.{Option, Some, None}
use Prim.Native.Nat.{ℕ, zero, suc, ◌<◌, ◌≤◌}
use mathlib.Core.Path.{◌≡◌, refl, sym, ap, ◌∙◌}
use mathlib.Core.Logic.{◌≢◌}
use mathlib.Core.List.{List}
use mathlib.Core.Bool.{Bool, true, false, cond}
use native.Mathlib.Omega.{arith}
use lib.IntN.{ℤ, pos, nat_abs, ◌+ℤ◌}
use lib.Signed.{◌≤ℤ◌, le_z, lt_z, ≤ℤ_refl}
use lib.ListN.{length}
use lib.Dec.{T, eqb, ltb}
use borrow.Author.Tests.{ltb-true, ltb-false, eqb-true, eqb-false, eq-eqb, ne_eqb}
use Rattle.format.proofs.Int.{int, sum_is, not_negative, not_positive, abs_is}
use Rattle.program.specs.Program.{Program, Rule, program, term_form, divisor_of, variable_in, rule_in, term_in}
use Rattle.program.specs.Refusals.{literal_position}
use Rattle.program.specs.Variables.{from_above, swaps, start, not_past, in_range, no_more}
use Rattle.program.specs.Directions.{by_sign, plain_direction, term_direction, direction, is_mixed}
use Rattle.program.specs.Evaluate.{only_if, evaluate}
use Rattle.program.specs.Readings.{Valuation, body_variable}
use Rattle.program.specs.Reading.{Passed}
use Rattle.program.specs.Idle.{Idle, furthest, nearest, demanding, most_at, most, lows, highs, is_idle}
use Rattle.program.specs.declared.Direction.{Direction}
use Rattle.program.specs.declared.Direction.TheVariants.{Rising, Falling, Mixed}
use Rattle.program.specs.declared.Variable.{Variable}
use Rattle.program.specs.declared.Term.{Term}
use Rattle.program.proofs.Conditions.{never, last_or}
use Rattle.program.proofs.Tests.{cases, is_true, is_test, not_it, and_both}
use Rattle.program.proofs.Variables.{past_trans, between_small}
use Rattle.program.proofs.Promises.{RulePromise, Promises, plain_position, passed_promises}
use Rattle.program.proofs.Gives.{seven, amount_size, plain_hold, given_is, evaluate_same, promised_evaluable}
use Rattle.program.proofs.Pushes.{plain_sum, plain_rising, plain_carried, term_plain, term_least, term_below, direction_is, away_mixed}
use Rattle.program.proofs.Monotone.{Moves, Under, Held, Between, in_between, evaluate_up}

-- ---- one position

module _ (low high : ℤ) where
  -- of the two ends it is one
  furthest_end : (C : ℤ → Type 0) → C low → C high → C (furthest low high)
  unfolding furthest
  furthest_end C l h = cases (ltb (nat_abs low) (nat_abs high)) (λ t. C (cond t high low)) (λ t. h) (λ t. l)

  furthest_size : (x : ℤ) → Held low high x → pos (nat_abs x) ≤ℤ pos (nat_abs (furthest low high))
  unfolding furthest
  furthest_size x h = go (ltb (nat_abs low) (nat_abs high)) refl
    where
      within : (n : ℕ) → nat_abs low ≤ n → nat_abs high ≤ n → nat_abs x ≤ n
      within n a b = between_small n low x high h.low h.high a b

      go : (t : Bool) → ltb (nat_abs low) (nat_abs high) ≡ t → pos (nat_abs x) ≤ℤ pos (nat_abs (cond t high low))
      go true e = omega (int, within (nat_abs high) (omega (arith, ltb-true (nat_abs low) (nat_abs high) e)) (omega arith))
      go false e = omega (int, within (nat_abs low) (omega arith) (ltb-false (nat_abs low) (nat_abs high) e))

  nearest_held : low ≤ℤ high → Held low high (nearest low high)
  unfolding nearest
  nearest_held o = cases (lt_z (pos 0) low) (λ t. Held low high (cond t low (cond (lt_z high (pos 0)) high (pos 0))))
      (λ t. record { low = ≤ℤ_refl low; high = o })
      (λ n. cases (lt_z high (pos 0)) (λ t. Held low high (cond t high (pos 0))) (λ t. record { low = o; high = ≤ℤ_refl high })
      (λ t. record { low = omega int; high = omega int }))

  nearest_size : (x : ℤ) → Held low high x → pos (nat_abs (nearest low high)) ≤ℤ pos (nat_abs x)
  unfolding nearest
  nearest_size x h = cases (lt_z (pos 0) low) (λ t. pos (nat_abs (cond t low (cond (lt_z high (pos 0)) high (pos 0)))) ≤ℤ pos (nat_abs x))
      (λ t. omega (int, h.low, abs_is low, abs_is x, not_negative {z = low} (omega int), not_negative {z = x} (omega (int, h.low))))
      (λ n. cases (lt_z high (pos 0)) (λ t. pos (nat_abs (cond t high (pos 0))) ≤ℤ pos (nat_abs x))
      (λ t. omega (int, h.high, abs_is high, abs_is x, not_positive {z = high} (omega int), not_positive {z = x} (omega (int, h.high))))
      (λ t. omega int))

-- of the two ends and 0 it is one
pub demanding_one : (C : ℤ → Type 0) (h : Variable) (d : Direction) {low high : ℤ} → C low → C high → C (pos 0) → C (demanding h d low high)
unfolding demanding swaps nearest
demanding_one C h Rising l u z = u
demanding_one C h Falling l u z = l
demanding_one C h Mixed {low} {high} l u z =
    cases (from_above h) (λ t. C (cond t (cond (lt_z (pos 0) low) low (cond (lt_z high (pos 0)) high (pos 0))) (furthest low high)))
    (λ t. cases (lt_z (pos 0) low) (λ t. C (cond t low (cond (lt_z high (pos 0)) high (pos 0)))) (λ t. l)
    (λ t. cases (lt_z high (pos 0)) (λ t. C (cond t high (pos 0))) (λ t. u) (λ t. z)))
    (λ t. furthest_end low high C l u)

-- the value that demands most lies in the range
pub demanding_held : (h : Variable) (d : Direction) {low high : ℤ} → low ≤ℤ high → Held low high (demanding h d low high)
unfolding demanding swaps
demanding_held h Rising {low} {high} o = record { low = o; high = ≤ℤ_refl high }
demanding_held h Falling {low} {high} o = record { low = ≤ℤ_refl low; high = o }
demanding_held h Mixed {low} {high} o = cases (from_above h) (λ t. Held low high (cond t (nearest low high) (furthest low high))) (λ t. nearest_held low high o)
    (λ t. furthest_end low high (Held low high) (record { low = ≤ℤ_refl low; high = o }) (record { low = o; high = ≤ℤ_refl high }))

-- no size in the range makes a rule with the head h demand more than that of a mixed position's value, c being added
demanding_size : (h : Variable) (c low high x : ℤ) → Held low high x → T (not_past h (c +ℤ pos (nat_abs x)) (c +ℤ pos (nat_abs (demanding h Mixed low high))))
unfolding demanding not_past swaps
demanding_size h c low high x b = cases (from_above h)
    (λ t. let z = cond t (nearest low high) (furthest low high) in
    T (cond t (le_z (c +ℤ pos (nat_abs z)) (c +ℤ pos (nat_abs x))) (le_z (c +ℤ pos (nat_abs x)) (c +ℤ pos (nat_abs z)))))
    (λ t. (more (nearest low high) x (nearest_size low high x b)).le) (λ t. (more x (furthest low high) (furthest_size low high x b)).le)
  where
    more : (y z : ℤ) → pos (nat_abs y) ≤ℤ pos (nat_abs z) → (c +ℤ pos (nat_abs y)) ≤ℤ (c +ℤ pos (nat_abs z))
    more y z k = omega (int, sum_is c (pos (nat_abs y)), sum_is c (pos (nat_abs z)))

-- a position that is not mixed moves towards the value that demands most
demanding_moves : (h : Variable) (d : Direction) {low high x : ℤ} → is_mixed d ≡ false → Held low high x → Moves d x (demanding h d low high)
unfolding demanding
demanding_moves h Rising e b = b.high
demanding_moves h Falling e b = b.low
demanding_moves h Mixed e b = absurd (never refl e)

-- ---- only sizes are mixed

sign_not_mixed : (z : ℤ) → is_mixed (by_sign z) ≡ false
sign_not_mixed z = cases (lt_z z (pos 0)) (λ b. is_mixed (cond b Falling Rising) ≡ false) (λ t. refl) (λ t. refl)

module _ (head : Variable) (form : ℕ) (x : Variable) (t : Term) where
  literal_not_mixed : 1 ≤ t.op → t.op ≤ 2 → is_mixed (term_direction head form x t) ≡ false
  literal_not_mixed h k = go (eqb t.op 1) refl
    where
      go : (b : Bool) → eqb t.op 1 ≡ b → is_mixed (term_direction head form x t) ≡ false
      go true e = ap is_mixed (sym (term_least head form x t (eqb-true t.op 1 e)))
      go false e = ap is_mixed (sym (term_below head form x t (omega (arith, eqb-false t.op 1 e))))

  plain_not_mixed : 1 ≤ form → form ≤ 7 → form ≢ 5 → form ≢ 6 → is_mixed (plain_direction form x t.number) ≡ false
  plain_not_mixed h k f g =
      seven (λ k. form ≡ k → is_mixed (plain_direction form x t.number) ≡ false)
      (λ q. ap is_mixed (sym (plain_sum form x t.number q)) ∙ sign_not_mixed t.number)
      (λ q. ap is_mixed (sym (plain_rising form x t.number (omega arith) (omega arith))))
      (λ q. ap is_mixed (sym (plain_rising form x t.number (omega arith) (omega arith))))
      (λ q. ap is_mixed (sym (plain_rising form x t.number (omega arith) (omega arith))))
      (λ q. absurd (f q))
      (λ q. absurd (g q))
      (λ q. ap is_mixed (sym (plain_carried form x t.number q)))
      form
      h
      k
      refl

-- a body of literals has no plain position
literals_only : (form i : ℕ) → form ≡ 6 → literal_position form i ≡ true
unfolding literal_position
literals_only form i h = rw h

module _ {vs : List Variable} {r : Rule} (p : RulePromise vs r) where
  pub only_sizes_mixed : term_form r.form ≢ 5 → (i : ℕ) → i < length r.terms → is_mixed (direction vs r i) ≡ false
  only_sizes_mixed f i l = ap is_mixed (sym (direction_is vs r i refl refl refl)) ∙ go (literal_position form i) refl
    where
      form : ℕ
      form = term_form r.form

      t : Term
      t = term_in r.terms i

      x : Variable
      x = variable_in vs (body_variable r i)

      h : Variable
      h = variable_in vs r.head

      go : (b : Bool) → literal_position form i ≡ b → is_mixed (term_direction h form x t) ≡ false
      go true e = let q = p.body.terms i l in literal_not_mixed h form x t (q.literal_op_least e) (q.literal_op_most e)
      go false e =
          ap is_mixed (sym (term_plain h form x t ((p.body.terms i l).plain_op e)))
          ∙ away_mixed h (plain_direction form x t.number)
          ∙ plain_not_mixed h form x t p.form_least p.form_most f (λ q. never (literals_only form i q) e)

-- ---- the most that a rule can give

-- a range from low to high, inside a variable's own
pub record RangeIn (x : Variable) (low high : ℤ) : Type 0 where
  pub from : x.low ≤ℤ low
  pub ordered : low ≤ℤ high
  pub to : high ≤ℤ x.high

pub held_between : {x : Variable} {low high a : ℤ} → RangeIn x low high → Held low high a → Between x a
held_between w h = record { low = omega (int, w.from, h.low); high = omega (int, w.to, h.high) }

module _ {vs : List Variable} {r : Rule} (p : RulePromise vs r) (low high : Valuation)
    (inside : (i : ℕ) → i < length r.terms → RangeIn (variable_in vs (body_variable r i)) (low (body_variable r i)) (high (body_variable r i))) where
  abbrev head : Variable
  head = variable_in vs r.head

  -- the reading at which the rule gives most
  abbrev reached : ℕ → ℤ
  reached = most_at vs r low high

  reached_held : (i : ℕ) → i < length r.terms → Held (low (body_variable r i)) (high (body_variable r i)) (reached i)
  unfolding most_at
  reached_held i l =
      demanding_held head (direction vs r i) (inside i l).ordered

  -- no reading in the ranges gives more
  module _ (at : ℕ → ℤ) (held : (i : ℕ) → i < length r.terms → Held (low (body_variable r i)) (high (body_variable r i)) (at i)) where
    none_mixed : ((i : ℕ) → i < length r.terms → is_mixed (direction vs r i) ≡ false) → Under head (evaluate r at) (evaluate r reached)
    unfolding most_at
    none_mixed f =
        evaluate_up p at reached
        (λ i l. record { first = held_between (inside i l) (held i l); second = held_between (inside i l) (reached_held i l) })
        (λ i l. demanding_moves head (direction vs r i) (f i l) (held i l))

    -- a size gives its amount, whatever it reads
    sized : term_form r.form ≡ 5 → (f : ℕ → ℤ) → only_if true (r.c +ℤ pos (nat_abs (f 0))) ≡ evaluate r f
    sized q f = given_is r f (plain_hold r.terms f (length r.terms) (λ i l. (p.body.terms i l).plain_op (plain_position (term_form r.form) i (omega arith))))
        (sym (amount_size r.c (divisor_of r) r.terms f q))

    size_under : term_form r.form ≡ 5 → is_mixed (direction vs r 0) ≡ true → Under head (evaluate r at) (evaluate r reached)
    unfolding most_at
    size_under q m =
        let l : 0 < length r.terms = omega (arith, p.body.count.size_one q) in
        rw (← sized q at, ← sized q reached) (sizes (direction vs r 0) m (held 0 l))
      where
        sizes : (d : Direction) → is_mixed d ≡ true → {a b x : ℤ} → Held a b x → T (not_past head (r.c +ℤ pos (nat_abs x)) (r.c +ℤ pos (nat_abs (demanding head d a b))))
        sizes Rising e h = absurd (never e refl)
        sizes Falling e h = absurd (never e refl)
        sizes Mixed e {a} {b} {x} h = demanding_size head r.c a b x h

    pub most_bounds : Under head (evaluate r at) (most vs r low high)
    unfolding most
    most_bounds = go (eqb (term_form r.form) 5) (is_mixed (direction vs r 0)) refl refl
      where
        go : (f m : Bool) → eqb (term_form r.form) 5 ≡ f → is_mixed (direction vs r 0) ≡ m → Under head (evaluate r at) (evaluate r reached)
        go false m e k = none_mixed (only_sizes_mixed p (eqb-false _ 5 e))
        go true true e k = size_under (eqb-true _ 5 e) k
        go true false e k = none_mixed (λ i l. let z : i ≡ 0 = omega (arith, p.body.count.size_one (eqb-true _ 5 e)) in rw z k)

  -- values of the variables that give it: that of a variable is read where it stands
  taken : ℕ → Valuation
  taken zero x = pos 0
  taken (suc n) x = cond (eqb (body_variable r n) x) (reached n) (taken n x)

  taken_is : (n : ℕ) → n ≤ length r.terms → (i : ℕ) → i < n → taken n (body_variable r i) ≡ reached i
  unfolding taken
  taken_is zero h i l = absurd (omega arith)
  taken_is (suc n) h i l =
      last_or (λ j. taken (suc n) (body_variable r j) ≡ reached j) n i l
      (λ k. rw (ne_eqb (body_variable r n) (body_variable r i) (λ e. p.body.distinct n i (omega arith) k (sym e))) (taken_is n (omega arith) i k))
      (rw (eq-eqb (body_variable r n) (body_variable r n) refl))

  pub record Attained : Type 0 where
    pub values : Valuation
    pub held : (i : ℕ) → i < length r.terms → Held (low (body_variable r i)) (high (body_variable r i)) (values (body_variable r i))
    pub gives : evaluate r (λ i. values (body_variable r i)) ≡ most vs r low high

  pub most_given : Attained
  unfolding most
  most_given = record {
    values = taken (length r.terms);
    held = λ i l. rw (taken_is (length r.terms) (omega arith) i l) (reached_held i l);
    gives = evaluate_same r _ _ (λ i l. taken_is (length r.terms) (omega arith) i l) (promised_evaluable p);
  }

-- ---- the test

-- what gives no more than the second, which gives no more than b, gives no more than b
pub under_no_more : (x : Variable) (g h : Option ℤ) (b : ℤ) → Under x g h → T (no_more x h b) → T (no_more x g b)
under_no_more x None h b u n = tt
under_no_more x (Some a) None b u n = absurd u
under_no_more x (Some a) (Some c) b u n = past_trans x a c b u n

module _ {P : Program} (promises : Promises P) {r : Rule} (p : RulePromise P.variables r) where
  -- the declared ranges
  whole : (i : ℕ) → i < length r.terms
      → RangeIn (variable_in P.variables (body_variable r i)) (lows P.variables (body_variable r i)) (highs P.variables (body_variable r i))
  whole i l =
      let x = variable_in P.variables (body_variable r i) in
      record { from = ≤ℤ_refl x.low; ordered = (promises.variables _ (p.body.terms i l).declared).in_order_is; to = ≤ℤ_refl x.high }

  -- an idle rule gives no more than its head's starting end, wherever in the ranges each position is read
  pub idle_reading : T (is_idle P.variables r) → (at : ℕ → ℤ)
      → ((i : ℕ) → i < length r.terms → Between (variable_in P.variables (body_variable r i)) (at i))
      → T (no_more (variable_in P.variables r.head) (evaluate r at) (start (variable_in P.variables r.head)))
  unfolding is_idle
  idle_reading t at b =
      under_no_more (variable_in P.variables r.head) (evaluate r at) _ _
      (most_bounds p (lows P.variables) (highs P.variables) whole at b) t

  pub idle_told : T (is_idle P.variables r) → Idle P r
  idle_told t a h =
      idle_reading t (λ i. a (body_variable r i)) (λ i l. in_between (variable_in P.variables (body_variable r i)) (a (body_variable r i)) (h i l))

  pub idle_test : Idle P r → T (is_idle P.variables r)
  unfolding is_idle
  idle_test q =
      let m = most_given p (lows P.variables) (highs P.variables) whole in
      rw m.gives at (q m.values (λ i l. in_range_is (variable_in P.variables (body_variable r i)) (m.values (body_variable r i)) (m.held i l)))
    where
      in_range_is : (x : Variable) (a : ℤ) → Held x.low x.high a → T (in_range x a)
      in_range_is x a h = and_both (le_z x.low a) (le_z a x.high) h.low.le h.high.le

-- for every rule of a program that meets no refusal the test is `Idle`
module _ {P : Program} (promises : Promises P) (i : ℕ) (h : i < length P.rules) where
  abbrev tested : Bool
  tested = is_idle P.variables (rule_in P.rules i)

  promised_told : tested ≡ true → Idle P (rule_in P.rules i)
  promised_told e = idle_told promises (promises.rules i h) (is_test e)

  promised_test : Idle P (rule_in P.rules i) → tested ≡ true
  promised_test q = is_true tested (idle_test promises (promises.rules i h) q)

  -- and where the one says no, so does the other
  pub promised_acts : tested ≡ false → Idle P (rule_in P.rules i) → ⊥
  promised_acts e q = never (promised_test q) e

  pub promised_not_idle : (Idle P (rule_in P.rules i) → ⊥) → tested ≡ false
  promised_not_idle f = not_it tested (λ e. f (promised_told e))

-- so for those of a file whose fields passed
module _ {s : List ℕ} {k : ℕ} (w : Passed s k) (i : ℕ) (h : i < length (program s k).rules) where
  pub passed_told : is_idle (program s k).variables (rule_in (program s k).rules i) ≡ true → Idle (program s k) (rule_in (program s k).rules i)
  passed_told = promised_told (passed_promises w) i h

  pub passed_test : Idle (program s k) (rule_in (program s k).rules i) → is_idle (program s k).variables (rule_in (program s k).rules i) ≡ true
  passed_test = promised_test (passed_promises w) i h
