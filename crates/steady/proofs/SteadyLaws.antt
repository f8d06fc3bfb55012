-- The estimate is steady: values at most n strides short of the aims, and not behind the present ones, take at most n strides of the head off what the rule is estimated
-- to give.
use Rattle.std.specs.Prelude.{Option, Some}
use Prim.Native.Nat.{ℕ, ◌+◌, ◌*◌, ◌<◌, ◌≤◌}
use mathlib.Core.Path.{◌≡◌, refl, sym, subst}
use mathlib.Core.List.{List}
use mathlib.Core.Logic.{◌⊎◌, inl, inr}
use mathlib.Core.Bool.{Bool, true, false, cond}
use native.Mathlib.Decide.{ℕ_discrete}
use native.Mathlib.Omega.{arith}
use native.Mathlib.Nat.{mul-le-mul}
use lib.Dec.{T, ltb}
use lib.IntN.{ℤ, pos, neg_ℤ, ◌+ℤ◌, ◌-ℤ◌, ◌*ℤ◌}
use lib.Signed.{◌≤ℤ◌, ≤ℤ_refl}
use lib.ListN.{length}
use borrow.Author.Tests.{eq-eqb, ne_eqb, ltb-false}
use Rattle.format.proofs.Int.{int, sum_is, neg_is}
use Rattle.program.specs.Program.{Rule, term_form, divisor_of, variable_in, term_in}
use Rattle.program.specs.Tables.{any_below}
use Rattle.program.specs.Variables.{from_above, ahead, not_past, is_founded}
use Rattle.program.specs.Directions.{opposite, away, direction, is_rising}
use Rattle.program.specs.Evaluate.{sum_below, all_hold, only_if, over_up, amount_of, amount, evaluate}
use Rattle.program.specs.Readings.{body_variable, kept}
use Rattle.program.specs.declared.Direction.{Direction}
use Rattle.program.specs.declared.Direction.TheVariants.{Rising, Falling, Mixed}
use Rattle.program.specs.declared.Variable.{Variable}
use Rattle.program.specs.declared.Term.{Term}
use Rattle.program.proofs.Conditions.{both, none_below}
use Rattle.program.proofs.Promises.{RulePromise, divisor_least}
use Rattle.program.proofs.Gives.{given_is, amount_sum, amount_product}
use Rattle.program.proofs.Pushes.{direction_plain}
use Rattle.program.proofs.Variables.{swaps_not, swaps_so, past_refl}
use Rattle.program.proofs.Monotone.{Moves, moves_away, Between, in_between, Ranged, PlainMoved, Under, evaluate_up}
use Rattle.steady.specs.Estimate.{distance, apart, further, rise, factor_rise, outruns, held, moved_as, estimated_as, estimated, estimate}
use Rattle.steady.specs.Short.{ShortBy, Moving, Staying, Short}
use Rattle.steady.proofs.Ahead.{past_ahead}
use Rattle.steady.proofs.Distances.{distance_back, distance_none, short_distance, Slack, slack_same, slack_more, slack_back, slack_away}
use Rattle.steady.proofs.Amounts.{over_up_short, plain, plain_at, sum_at, product_at, rising, sum_short, product_short, PlainSlack, amount_short}

-- ---- the estimate of each form

module _ {form : ℕ} (x : Variable) (c d : ℤ) (ts : List Term) (at aim : ℕ → ℤ) where
  pub moved_product : form ≡ 4 → moved_as form x c d ts at aim ≡ further x (c +ℤ (at 0 *ℤ at 1)) (pos (factor_rise at aim))
  unfolding moved_as
  moved_product h = rw h

  pub moved_other : (form ≡ 4 → ⊥) → moved_as form x c d ts at aim ≡ amount_of form c d ts aim
  unfolding moved_as
  moved_other h = simp (ne_eqb form 4 h)

  module _ (own : ℕ) (stride : ℕ → ℕ) where
    pub estimated_sum : form ≡ 1
        → estimated_as form x own stride c d ts at aim ≡ over_up d (further x (c +ℤ sum_below (λ i. (term_in ts i).number *ℤ at i) (length ts)) (pos (rise own stride d ts at aim)))
    unfolding estimated_as
    estimated_sum h = rw h

    pub estimated_other : (form ≡ 1 → ⊥) → estimated_as form x own stride c d ts at aim ≡ moved_as form x c d ts at (held own stride ts at aim)
    unfolding estimated_as
    estimated_other h = simp (ne_eqb form 1 h)

module _ (own : ℕ) (stride : ℕ → ℕ) (ts : List Term) (at aim : ℕ → ℤ) where
  pub held_back : any_below (length ts) (outruns own stride ts (apart at aim)) ≡ true → at ≡ held own stride ts at aim
  unfolding held
  held_back e = rw e

  pub held_on : any_below (length ts) (outruns own stride ts (apart at aim)) ≡ false → aim ≡ held own stride ts at aim
  unfolding held
  held_on e = rw e

-- ---- a head, by where it is founded from

module _ (x : Variable) where
  module _ (e : from_above x ≡ false) where
    away_not : (d : Direction) → d ≡ away x d
    unfolding away
    away_not d = swaps_not x d (opposite d) e

    ahead_not : (a : ℤ) → a ≡ ahead x a
    unfolding ahead
    ahead_not a = swaps_not x a (neg_ℤ a) e

    pub further_not : (a s : ℤ) → a +ℤ s ≡ further x a s
    unfolding further
    further_not a s = swaps_not x (a +ℤ s) (a -ℤ s) e

    short_not : (n : ℕ) (b a : ℤ) → b ≤ℤ (a +ℤ pos n) → ShortBy n x b a
    short_not n b a h = rw (← ahead_not b, ← ahead_not a) h

  module _ (e : from_above x ≡ true) where
    away_so : (d : Direction) → opposite d ≡ away x d
    unfolding away
    away_so d = swaps_so x d (opposite d) e

    ahead_so : (a : ℤ) → neg_ℤ a ≡ ahead x a
    unfolding ahead
    ahead_so a = swaps_so x a (neg_ℤ a) e

    pub further_so : (a s : ℤ) → a -ℤ s ≡ further x a s
    unfolding further
    further_so a s = swaps_so x (a +ℤ s) (a -ℤ s) e

    short_so : (n : ℕ) (b a : ℤ) → a ≤ℤ (b +ℤ pos n) → ShortBy n x b a
    short_so n b a h = rw (← ahead_so b, ← ahead_so a) (omega (int, neg_is a, neg_is b, sum_is b (pos n), sum_is (neg_ℤ a) (pos n)))

-- ---- one position

rising_is : (d : Direction) → is_rising d ≡ true → d ≡ Rising
rising_is Rising e = refl
rising_is Falling e = let z : ◌≡◌ {A = ℕ} 0 1 = cc in absurd (omega arith)
rising_is Mixed e = let z : ◌≡◌ {A = ℕ} 0 1 = cc in absurd (omega arith)

kept_rising : (vs : List Variable) (r : Rule) (i : ℕ) → kept vs r i ≡ true → is_rising (away (variable_in vs (body_variable r i)) (direction vs r i)) ≡ true
unfolding kept
kept_rising vs r i e = let x = variable_in vs (body_variable r i) in (both (is_rising (away x (direction vs r i))) (is_founded x) e).0

moves_same : (d : Direction) (a : ℤ) → Moves d a a
moves_same Rising a = ≤ℤ_refl a
moves_same Falling a = ≤ℤ_refl a
moves_same Mixed a = refl

moves_back : (d : Direction) (a b : ℤ) → Moves (opposite d) a b → Moves d b a
moves_back Rising a b m = m
moves_back Falling a b m = m
moves_back Mixed a b m = sym m

module _ (vs : List Variable) (r : Rule) (at aim to : ℕ → ℤ) (n : ℕ) where
  -- what the laws need of position i
  record Position (i : ℕ) : Type 0 where
    moves : Moves (direction vs r i) (at i) (to i)
    slack : Slack n (direction vs r i) (aim i) (to i)
    near : apart at aim i ≤ distance (at i) (to i) + n
    at_between : Between (variable_in vs (body_variable r i)) (at i)
    aim_between : Between (variable_in vs (body_variable r i)) (aim i)
    to_between : Between (variable_in vs (body_variable r i)) (to i)

  position : (i : ℕ) → Moving vs r at aim to n i ⊎ Staying vs r at aim to i → Position i
  position i (inl m) =
      let x = variable_in vs (body_variable r i) in
      let k = kept_rising vs r i m.is_kept in
      record {
        moves = moves_away x (direction vs r i) (at i) (to i) (rw (rising_is (away x (direction vs r i)) k) m.goes);
        slack = slack_away n x (direction vs r i) (aim i) (to i) (subst T (sym k) tt) m.short;
        near = short_distance x n (at i) (aim i) (to i) m.aims m.goes m.short;
        at_between = in_between x (at i) m.at_in;
        aim_between = in_between x (aim i) m.aim_in;
        to_between = in_between x (to i) m.to_in;
      }
  position i (inr s) =
      let x = variable_in vs (body_variable r i) in
      let b = in_between x (at i) s.at_in in
      record {
        moves = rw (← s.at_to) (moves_same (direction vs r i) (at i));
        slack = rw (← s.at_to, ← s.at_aim) (slack_same n (direction vs r i) (at i));
        near = rw (← s.at_to, ← s.at_aim) (omega arith);
        at_between = b;
        aim_between = rw (← s.at_aim) b;
        to_between = rw (← s.at_to) b;
      }

-- ---- one rule

value_same : {a b : ℤ} → ◌≡◌ {A = (Option ℤ)} (Some a) (Some b) → a ≡ b
value_same e = cc

-- a rule whose positions have moved
module _ {vs : List Variable} {r : Rule} (p : RulePromise vs r) (at to : ℕ → ℤ) (goes : (i : ℕ) → i < length r.terms → Moves (direction vs r i) (at i) (to i)) where
  moved : from_above (variable_in vs r.head) ≡ false → PlainMoved p at to
  moved e i l o = rw (← direction_plain vs r i o, ← away_not (variable_in vs r.head) e (plain p 0 i)) at (goes i l)

  moved_back : from_above (variable_in vs r.head) ≡ true → PlainMoved p to at
  moved_back e i l o = moves_back (plain p 0 i) (at i) (to i) (rw (← direction_plain vs r i o, ← away_so (variable_in vs r.head) e (plain p 0 i)) at (goes i l))

taken : (a b s m : ℤ) → (a +ℤ s) ≤ℤ (b +ℤ m) → a ≤ℤ ((b -ℤ s) +ℤ m)
taken a b s m k = omega (int, sum_is a s, sum_is b m, sum_is b (neg_ℤ s), neg_is s, sum_is (b -ℤ s) m)

-- by where its head is founded from
by_head : (x : Variable) (P : Type 0) → (from_above x ≡ false → P) → (from_above x ≡ true → P) → P
by_head x P f g = go (from_above x) refl
  where
    go : (t : Bool) → from_above x ≡ t → P
    go true e = g e
    go false e = f e

-- ---- a sum

module _ {vs : List Variable} {r : Rule} (p : RulePromise vs r) (at aim to : ℕ → ℤ) (own : ℕ) (stride : ℕ → ℕ) (n : ℕ) (s : Short vs r at aim to n stride)
    (q : term_form r.form ≡ 1) where
  abbrev sum_all : (i : ℕ) → i < length r.terms → Position vs r at aim to (n * stride i) i
  sum_all i l = position vs r at aim to (n * stride i) i (s i l)

  abbrev sum_goes : (i : ℕ) → i < length r.terms → Moves (direction vs r i) (at i) (to i)
  sum_goes i l = (sum_all i l).moves

  abbrev sum_rise : ℤ
  sum_rise = pos (rise own stride (divisor_of r) r.terms at aim)

  sum_steady : ShortBy (n * own) (variable_in vs r.head) (over_up (divisor_of r) (further (variable_in vs r.head) (sum_at p n at) sum_rise)) (over_up (divisor_of r) (sum_at p n to))
  sum_steady =
      let h = variable_in vs r.head in
      by_head h _
      (λ e. rw (← further_not h e (sum_at p n at) sum_rise)
      (short_not h e (n * own) _ _ (over_up_short (divisor_least p) _ (sum_at p n to) (n * own)
      (sum_short p n at to (moved p at to sum_goes e) at aim own stride (λ i l. (sum_all i l).near) q))))
      (λ e. rw (← further_so h e (sum_at p n at) sum_rise)
      (short_so h e (n * own) _ _ (over_up_short (divisor_least p) (sum_at p n to) (sum_at p n at -ℤ sum_rise) (n * own)
      (taken (sum_at p n to) (sum_at p n at) sum_rise _ (sum_short p n to at (moved_back p at to sum_goes e) at aim own stride back q)))))
    where
      back : (i : ℕ) → i < length r.terms → apart at aim i ≤ distance (to i) (at i) + n * stride i
      back i l = omega (arith, (sum_all i l).near, distance_back (at i) (to i))

-- ---- another form

module _ (vs : List Variable) (r : Rule) (at aim to : ℕ → ℤ) (n : ℕ) where
  -- position i, at most n steps short where it is plain
  record Near (i : ℕ) : Type 0 where
    most : ℕ
    plain_most : (term_in r.terms i).op ≡ 0 → most ≤ n
    so : Moving vs r at aim to most i ⊎ Staying vs r at aim to i

module _ {vs : List Variable} {r : Rule} (p : RulePromise vs r) (at aim to : ℕ → ℤ) (n : ℕ) (s : (i : ℕ) → i < length r.terms → Near vs r at aim to n i)
    (not-sum : term_form r.form ≡ 1 → ⊥) where
  -- the head's variable
  abbrev h : Variable
  h = variable_in vs r.head

  abbrev d : ℤ
  d = divisor_of r

  all : (i : ℕ) (l : i < length r.terms) → Position vs r at aim to (s i l).most i
  all i l = position vs r at aim to (s i l).most i (s i l).so

  abbrev goes : (i : ℕ) → i < length r.terms → Moves (direction vs r i) (at i) (to i)
  goes i l = (all i l).moves

  near : (i : ℕ) → i < length r.terms → (term_in r.terms i).op ≡ 0 → apart at aim i ≤ distance (at i) (to i) + n
  near i l o = omega (arith, (all i l).near, (s i l).plain_most o)

  slack_most : (i : ℕ) → i < length r.terms → (term_in r.terms i).op ≡ 0 → Slack n (direction vs r i) (aim i) (to i)
  slack_most i l o = slack_more ((s i l).plain_most o) (direction vs r i) (aim i) (to i) (all i l).slack

  -- factors are from 0 on
  factor_low : term_form r.form ≡ 4 → (i : ℕ) → i < length r.terms → {a : ℤ} → Between (variable_in vs (body_variable r i)) a → pos 0 ≤ℤ a
  factor_low q i l b = let o = (p.body.terms i l).product_order q in let k = b.low in omega int

  -- by its form, what the amount is moved to
  by_form : (P : ℤ → ℤ → Type 0)
      → (term_form r.form ≡ 4 → P (further h (product_at p n at) (pos (factor_rise at aim))) (product_at p n to))
      → ((term_form r.form ≡ 4 → ⊥) → P (amount r aim) (amount r to))
      → P (moved_as (term_form r.form) h r.c d r.terms at aim) (amount r to)
  by_form P b k = go (ℕ_discrete (term_form r.form) 4)
    where
      go : Dec (term_form r.form ≡ 4) → P (moved_as (term_form r.form) h r.c d r.terms at aim) (amount r to)
      go (yes q) = rw (moved_product h r.c d r.terms at aim q, amount_product r.c d r.terms to q) (b q)
      go (no g) = rw (moved_other h r.c d r.terms at aim g) (k g)

  abbrev SteadyMoved : Type 0
  SteadyMoved = ShortBy n h (moved_as (term_form r.form) h r.c d r.terms at aim) (amount r to)

  -- a head that is not founded from above
  module _ (e : from_above h ≡ false) where
    slack : PlainSlack p n aim to
    slack i l o = rw (← direction_plain vs r i o, ← away_not h e (plain p n i)) at (slack_most i l o)

    steady_not : SteadyMoved
    steady_not =
        by_form (ShortBy n h)
        (λ q. rw (← further_not h e (product_at p n at) (pos (factor_rise at aim)))
        (short_not h e n _ _ (product_short p n at to (moved p at to goes e) at aim (λ i l. near i l (plain_at p n (omega arith) i l)) q
        (λ i l. factor_low q i l (all i l).at_between) (under q))))
        (λ g. short_not h e n _ _ (amount_short p n aim to (λ i l. (all i l).aim_between) (λ i l. (all i l).to_between) slack not-sum g))
      where
        under : term_form r.form ≡ 4 → (i : ℕ) → i < length r.terms → pos 1 ≤ℤ at i → pos 1 ≤ℤ to i
        under q i l o = let k = rising p n at to (moved p at to goes e) (omega arith) (omega arith) i l in omega int

  -- a head that is: the other way round
  module _ (e : from_above h ≡ true) where
    slack_so : PlainSlack p n to aim
    slack_so i l o = slack_back n (plain p n i) (aim i) (to i) (rw (← direction_plain vs r i o, ← away_so h e (plain p n i)) at (slack_most i l o))

    steady_so : SteadyMoved
    steady_so =
        by_form (ShortBy n h)
        (λ q. let s = pos (factor_rise at aim) in
        rw (← further_so h e (product_at p n at) s)
        (short_so h e n _ _ (taken (product_at p n to) (product_at p n at) s _
        (product_short p n to at (moved_back p at to goes e) at aim (back q) q (λ i l. factor_low q i l (all i l).to_between) (λ i l o. o)))))
        (λ g. short_so h e n _ _ (amount_short p n to aim (λ i l. (all i l).to_between) (λ i l. (all i l).aim_between) slack_so not-sum g))
      where
        back : term_form r.form ≡ 4 → (i : ℕ) → i < length r.terms → apart at aim i ≤ distance (to i) (at i) + n
        back q i l = omega (arith, near i l (plain_at p n (omega arith) i l), distance_back (at i) (to i))

  moved_steady : SteadyMoved
  moved_steady = by_head h _ steady_not steady_so

-- ---- the aims that no stride outruns

module _ (vs : List Variable) (r : Rule) (at aim to : ℕ → ℤ) (own : ℕ) (stride : ℕ → ℕ) (n : ℕ) where
  -- the variable at position i
  abbrev there : ℕ → Variable
  there i = variable_in vs (body_variable r i)

  -- what is not behind a value is not short of it
  not_short : (i : ℕ) (a : ℤ) → T (not_past (there i) a (to i)) → ShortBy 0 (there i) a (to i)
  not_short i a g = let k = past_ahead (there i) a (to i) g in omega (int, k, sum_is (ahead (there i) (to i)) (pos 0))

  still : (i : ℕ) → Moving vs r at aim to (n * stride i) i ⊎ Staying vs r at aim to i → Near vs r at at to (n * own) i
  still i (inl m) = record {
    most = 0;
    plain_most = λ o. omega arith;
    so = inl (record {
      is_kept = m.is_kept;
      at_in = m.at_in;
      aim_in = m.at_in;
      to_in = m.to_in;
      aims = past_refl (there i) (at i);
      goes = m.goes;
      short = not_short i (at i) m.goes;
    });
  }
  still i (inr m) = record { most = 0; plain_most = λ o. omega arith; so = inr (record { at_in = m.at_in; at_aim = refl; at_to = m.at_to }) }

  on : (i : ℕ) → outruns own stride r.terms (apart at aim) i ≡ false → Moving vs r at aim to (n * stride i) i ⊎ Staying vs r at aim to i → Near vs r at aim to (n * own) i
  on i q (inr m) = record { most = 0; plain_most = λ o. omega arith; so = inr m }
  on i q (inl m) = go (ℕ_discrete (term_in r.terms i).op 0) (ℕ_discrete (apart at aim i) 0)
    where
      go : Dec ((term_in r.terms i).op ≡ 0) → Dec (apart at aim i ≡ 0) → Near vs r at aim to (n * own) i
      go (no f) z = record { most = n * stride i; plain_most = λ o. absurd (f o); so = inl m }
      go (yes o) (yes z) = record {
        most = 0;
        plain_most = λ o. omega arith;
        so = inl (record {
          is_kept = m.is_kept;
          at_in = m.at_in;
          aim_in = m.aim_in;
          to_in = m.to_in;
          aims = m.aims;
          goes = m.goes;
          short = not_short i (aim i) (rw (distance_none (at i) (aim i) z) m.goes);
        });
      }
      go (yes o) (no f) =
          let e : ltb own (stride i) ≡ false = simp (eq-eqb (term_in r.terms i).op 0 o, ne_eqb (apart at aim i) 0 f) at q in
          let l = ltb-false own (stride i) e in
          record { most = n * stride i; plain_most = λ o. mul-le-mul {n₁ = n} {m₁ = stride i} {n₂ = n} {m₂ = own} (omega arith) (omega arith); so = inl m }

  held_near : Short vs r at aim to n stride → (i : ℕ) → i < length r.terms → Near vs r at (held own stride r.terms at aim) to (n * own) i
  unfolding held
  held_near s = go (any_below (length r.terms) (outruns own stride r.terms (apart at aim))) refl
    where
      go : (t : Bool) → any_below (length r.terms) (outruns own stride r.terms (apart at aim)) ≡ t → (i : ℕ) → i < length r.terms
          → Near vs r at (cond t at aim) to (n * own) i
      go true e i l = still i (s i l)
      go false e i l = on i (none_below (length r.terms) (outruns own stride r.terms (apart at aim)) e i l) (s i l)

-- ---- every form

module _ {vs : List Variable} {r : Rule} (p : RulePromise vs r) (own : ℕ) (stride : ℕ → ℕ) (at aim to : ℕ → ℤ) (n : ℕ) (s : Short vs r at aim to n stride) where
  amount_steady : ShortBy (n * own) (variable_in vs r.head) (estimated (variable_in vs r.head) own stride r at aim) (amount r to)
  amount_steady = go (ℕ_discrete (term_form r.form) 1)
    where
      go : Dec (term_form r.form ≡ 1) → ShortBy (n * own) (variable_in vs r.head) (estimated (variable_in vs r.head) own stride r at aim) (amount r to)
      go (yes q) =
          rw (estimated_sum (variable_in vs r.head) r.c (divisor_of r) r.terms at aim own stride q, amount_sum r.c (divisor_of r) r.terms to q)
          (sum_steady p at aim to own stride n s q)
      go (no f) =
          rw (estimated_other (variable_in vs r.head) r.c (divisor_of r) r.terms at aim own stride f)
          (moved_steady p at (held own stride r.terms at aim) to (n * own) (held_near vs r at aim to own stride n s) f)

  at_position : (i : ℕ) → i < length r.terms → Position vs r at aim to (n * stride i) i
  at_position i l = position vs r at aim to (n * stride i) i (s i l)

  ranged : (i : ℕ) → i < length r.terms → Ranged p at to i
  ranged i l = record { first = (at_position i l).at_between; second = (at_position i l).to_between }

  -- every literal that holds at the present values holds at the later ones
  still_hold : T (all_hold r.terms at (length r.terms)) → T (all_hold r.terms to (length r.terms))
  still_hold = go (all_hold r.terms at (length r.terms)) (all_hold r.terms to (length r.terms)) under
    where
      under : Under (variable_in vs r.head) (only_if (all_hold r.terms at (length r.terms)) (amount r at)) (only_if (all_hold r.terms to (length r.terms)) (amount r to))
      under = rw (given_is r at refl refl, given_is r to refl refl) (evaluate_up p at to ranged (λ i l. (at_position i l).moves))

      go : (s t : Bool) → Under (variable_in vs r.head) (only_if s (amount r at)) (only_if t (amount r to)) → T s → T t
      go true true u k = tt
      go true false u k = u
      go false t u k = absurd k

  pub steady : (b : ℤ) → estimate (variable_in vs r.head) own stride r at aim ≡ Some b
      → (a : ℤ) × (evaluate r to ≡ Some a) × ShortBy (n * own) (variable_in vs r.head) b a
  unfolding estimate evaluate
  steady b q = go (all_hold r.terms at (length r.terms)) (all_hold r.terms to (length r.terms)) still_hold q
    where
      go : (s t : Bool) → (T s → T t) → only_if s (estimated (variable_in vs r.head) own stride r at aim) ≡ Some b → (a : ℤ) × (only_if t (amount r to) ≡ Some a) × ShortBy (n * own) (variable_in vs r.head) b a
      go true true f e = (amount r to, refl, subst (λ (z : ℤ). ShortBy (n * own) (variable_in vs r.head) z (amount r to)) (value_same e) amount_steady)
      go true false f e = absurd (f tt)
      go false t f e = let z : ◌≡◌ {A = ℕ} 0 1 = cc in absurd (omega arith)

-- values at most n strides short of the aims take at most n strides of the head off the guess at what a rule gives
abbrev pub Steady : (Variable → ℕ → (ℕ → ℕ) → Rule → (ℕ → ℤ) → (ℕ → ℤ) → Option ℤ) → Type 0
Steady guess = (vs : List Variable) (r : Rule) → RulePromise vs r → (own : ℕ) (stride : ℕ → ℕ) (at aim to : ℕ → ℤ) (n : ℕ) → Short vs r at aim to n stride
    → (b : ℤ) → guess (variable_in vs r.head) own stride r at aim ≡ Some b → (a : ℤ) × (evaluate r to ≡ Some a) × ShortBy (n * own) (variable_in vs r.head) b a

pub estimate_steady : Steady estimate
estimate_steady vs r p own stride at aim to n s = steady p own stride at aim to n s
