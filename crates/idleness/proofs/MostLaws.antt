-- The value that makes a rule give most, position by position, and what the rule gives there.
use Rattle.std.specs.Prelude.{Option, Some, None}
use Prim.Native.Nat.{ℕ, ◌+◌, ◌*◌, ◌<◌, ◌≤◌}
use mathlib.Core.Path.{◌≡◌, refl, sym, ap, ap₂, ◌∙◌}
use mathlib.Core.List.{List}
use mathlib.Core.Bool.{Bool, true, false, not, cond}
use native.Mathlib.Omega.{arith}
use lib.Dec.{eqb}
use lib.IntN.{ℤ, pos, nat_abs, ◌+ℤ◌}
use lib.Signed.{lt_z}
use lib.ListN.{length, set, length-set}
use lib.Seq.{get_or-set_same, get_or-set_other}
use borrow.Author.Count.{below_more}
use borrow.Author.Tests.{eqb-true, eqb-false, ne_eqb}
use Rattle.format.specs.Limits.{max_variables, max_number}
use Rattle.words.specs.Bit.{bit}
use Rattle.program.specs.Program.{Rule, rule_of, term_form, divisor_of, variable_in, term_in, variables_at}
use Rattle.program.specs.Directions.{direction, is_mixed, is_rising}
use Rattle.program.specs.Variables.{swaps, start, not_past, no_more}
use Rattle.program.specs.Evaluate.{evaluate}
use Rattle.program.specs.Evaluable.{Small, has_literals, Evaluable}
use Rattle.program.specs.Readings.{valued, body_variable}
use Rattle.program.specs.Idle.{furthest, nearest, demanding, most_at, most, lows, highs, is_idle}
use Rattle.program.specs.declared.Direction.{Direction}
use Rattle.program.specs.declared.Direction.TheVariants.{Rising, Falling, Mixed}
use Rattle.program.specs.declared.Term.{Term}
use Rattle.program.specs.declared.Variable.{Variable}
use Rattle.program.proofs.Conditions.{never}
use Rattle.program.proofs.Gives.{enough_of, amount_size, given_is, plain_hold, evaluate_same}
use Rattle.program.proofs.IdleRules.{demanding_one}
use Rattle.positions.specs.Kinds.{direction_of, kind_in, KindsOf}
use Rattle.positions.specs.declared.kinds.Kinds.{Kinds}
use Rattle.positions.proofs.KindLaws.{position_directed}
use Rattle.bodies.specs.Readings.{reading_of}
use Rattle.idleness.specs.Most.{most_declared, Ready}

-- ---- one position

module _ (low high : ℤ) where
  -- by the machine's test of two sizes
  module _ {a b : ℤ} (p : a ≡ pos (nat_abs low)) (q : b ≡ pos (nat_abs high)) where
    pub furthest_high : lt_z a b ≡ true → high ≡ furthest low high
    unfolding furthest
    furthest_high h = rw (rw (p, q) at h)

    pub furthest_low : lt_z a b ≡ false → low ≡ furthest low high
    unfolding furthest
    furthest_low h = rw (rw (p, q) at h)

  pub nearest_low : lt_z (pos 0) low ≡ true → low ≡ nearest low high
  unfolding nearest
  nearest_low h = rw h

  pub nearest_high : lt_z (pos 0) low ≡ false → lt_z high (pos 0) ≡ true → high ≡ nearest low high
  unfolding nearest
  nearest_high h k = rw (h, k)

  pub nearest_zero : lt_z (pos 0) low ≡ false → lt_z high (pos 0) ≡ false → pos 0 ≡ nearest low high
  unfolding nearest
  nearest_zero h k = rw (h, k)

-- a direction, by its tests
pub is_mixed_lem : (d : Direction) → is_mixed d ≡ true → d ≡ Mixed
is_mixed_lem Rising e = absurd (never e refl)
is_mixed_lem Falling e = absurd (never e refl)
is_mixed_lem Mixed e = refl

pub is_rising_lem : (d : Direction) → is_rising d ≡ true → d ≡ Rising
is_rising_lem Rising e = refl
is_rising_lem Falling e = absurd (never e refl)
is_rising_lem Mixed e = absurd (never e refl)

pub is_falling : (d : Direction) → is_mixed d ≡ false → is_rising d ≡ false → d ≡ Falling
is_falling Rising m e = absurd (never refl e)
is_falling Falling m e = refl
is_falling Mixed m e = absurd (never refl m)

-- and by the kind that is kept there
pub rising_by : {k : ℕ} → k ≡ 1 → direction_of k ≡ Rising
rising_by e = rw e

pub falling_by : (k : ℕ) → (k ≡ 1 → ⊥) → is_mixed (direction_of k) ≡ false → direction_of k ≡ Falling
falling_by k h = go (eqb k 1) (eqb k 2) (ne_eqb k 1 h)
  where
    go : (a b : Bool) → a ≡ false → is_mixed (cond a Rising (cond b Falling Mixed)) ≡ false → cond a Rising (cond b Falling Mixed) ≡ Falling
    go true b e m = absurd (never refl e)
    go false true e m = refl
    go false false e m = absurd (never refl m)

module _ (h : Variable) (d : Direction) (low high : ℤ) where
  pub demanding_rising : d ≡ Rising → high ≡ demanding h d low high
  unfolding demanding
  demanding_rising e = rw e

  pub demanding_falling : d ≡ Falling → low ≡ demanding h d low high
  unfolding demanding
  demanding_falling e = rw e

  pub demanding_mixed : d ≡ Mixed → swaps h (furthest low high) (nearest low high) ≡ demanding h d low high
  unfolding demanding
  demanding_mixed e = rw e

module _ (vs : List Variable) (r : Rule) (i : ℕ) where
  pub most_read : {h : Variable} {d : Direction} {x : Variable} {z : ℤ} → h ≡ variable_in vs r.head → d ≡ direction vs r i → x ≡ variable_in vs (body_variable r i)
      → z ≡ demanding h d x.low x.high → z ≡ most_declared vs r i
  unfolding most_at
  most_read o p q e = e ∙ rw (o, p, q)

  -- a term, by the kinds of its rule
  pub most_by_kind : {h : Variable} {k : Kinds} {t : Term} {x : Variable} → h ≡ variable_in vs r.head → KindsOf vs r k → t ≡ term_in r.terms i → x ≡ variable_in vs t.variable
      → (ms : List ℤ) → set ms t.variable (demanding h (direction_of (kind_in k.up k.down t)) x.low x.high) ≡ set ms (body_variable r i) (most_declared vs r i)
  most_by_kind o k p q ms =
      let v = ap (λ (u : Term). u.variable) p in
      ap₂ (set ms) v (most_read o (position_directed vs r i k p q refl) (q ∙ ap (variable_in vs) v) refl)

-- a position's variable has a field and small ends
module _ {s : List ℕ} {n : ℕ} {v : List ℕ} (p : Ready s n v) (i : ℕ) (l : i < length (rule_of v).terms) where
  pub field_inside : {x : ℕ} → x ≡ body_variable (rule_of v) i → 8 * x + 8 ≤ length s
  field_inside e = omega (arith, e, p.standing.declared i l, p.standing.inside)

  pub position_low : {x : Variable} → x ≡ variable_in (variables_at s n) (body_variable (rule_of v) i) → nat_abs x.low ≤ max_number
  position_low e = rw e (p.low_small _ (p.standing.declared i l))

  pub position_high : {x : Variable} → x ≡ variable_in (variables_at s n) (body_variable (rule_of v) i) → nat_abs x.high ≤ max_number
  position_high e = rw e (p.high_small _ (p.standing.declared i l))

  -- and is one of the array's
  pub declared_few : body_variable (rule_of v) i < max_variables
  declared_few = omega (arith, p.standing.declared i l, p.standing.few)

  pub position_most : nat_abs (most_declared (variables_at s n) (rule_of v) i) ≤ max_number
  unfolding most_at
  position_most = demanding_one (λ z. nat_abs z ≤ max_number) (variable_in (variables_at s n) (rule_of v).head) (direction (variables_at s n) (rule_of v) i)
      (position_low refl) (position_high refl) (omega arith)

-- ---- position after position

-- a list with one value replaced by a small one is small
pub set_small : (ms : List ℤ) (v : ℕ) (a : ℤ) → v < length ms → Small ms → nat_abs a ≤ max_number → Small (set ms v a)
set_small ms v a l s h x = go (eqb v x) refl
  where
    go : (t : Bool) → eqb v x ≡ t → nat_abs (valued (set ms v a) x) ≤ max_number
    go true e = let q = eqb-true v x e in rw (← q, get_or-set_same ms v a (pos 0) l) h
    go false e = rw (get_or-set_other ms v x a (pos 0) (λ q. eqb-false v x e (sym q))) (s x)

-- the variables at the first i positions have their values
abbrev pub Taken : List Variable → Rule → ℕ → List ℤ → Type 0
Taken vs r i ms = (j : ℕ) → j < i → valued ms (body_variable r j) ≡ most_declared vs r j

-- an array of small values, with those of the first i positions
pub record TakenTo (s : List ℕ) (n : ℕ) (v : List ℕ) (i : ℕ) (ms : List ℤ) : Type 0 where
  pub long : length ms ≡ max_variables
  pub small : Small ms
  pub taken : Taken (variables_at s n) (rule_of v) i ms

module _ (s : List ℕ) (n : ℕ) (v : List ℕ) where
  pub taken_none : {ms : List ℤ} → length ms ≡ max_variables → Small ms → TakenTo s n v 0 ms
  taken_none l h = record { long = l; small = h; taken = λ j k. absurd (omega arith) }

  -- one position more, whose variable stands at no earlier one
  pub taken_more : {i : ℕ} {ms ms' : List ℤ} → Ready s n v → i < length (rule_of v).terms → TakenTo s n v i ms
      → ms' ≡ set ms (body_variable (rule_of v) i) (most_declared (variables_at s n) (rule_of v) i) → TakenTo s n v (i + 1) ms'
  taken_more {i} {ms} p l t e =
      let x = body_variable (rule_of v) i in
      let a = most_declared (variables_at s n) (rule_of v) i in
      let f : x < length ms = omega (arith, declared_few p i l, t.long) in
      rw e (record {
        long = length-set ms x a ∙ t.long;
        small = set_small ms x a f t.small (position_most p i l);
        taken = below_more (λ (j : ℕ). valued (set ms x a) (body_variable (rule_of v) j) ≡ most_declared (variables_at s n) (rule_of v) j) i
            (λ j k. get_or-set_other ms x (body_variable (rule_of v) j) a (pos 0) (p.distinct i j l k) ∙ t.taken j k) (get_or-set_same ms x a (pos 0) f);
      })

  pub taken_all : {i : ℕ} {ms : List ℤ} → i ≡ length (rule_of v).terms → TakenTo s n v i ms → Taken (variables_at s n) (rule_of v) (length (rule_of v).terms) ms
  taken_all e t j l = t.taken j (omega arith)

-- ---- the rule

pub size_form : {form : ℕ} → form ≡ 5 → term_form form ≡ 5
unfolding term_form
size_form h = rw h

-- a size has a position
pub size_position : {s : List ℕ} {n : ℕ} {v : List ℕ} → Ready s n v → (rule_of v).form ≡ 5 → 0 < length (rule_of v).terms
size_position p f = enough_of p.evaluable 5 (size_form f)

-- what is given, by the machine's test
module _ (x : Variable) {g : Option ℤ} where
  pub none_given : g ≡ None → true ≡ no_more x g (start x)
  none_given e = rw e

  pub value_given : (a : ℤ) {z : ℤ} {t : Bool} → g ≡ Some a → z ≡ start x → t ≡ not (not_past x a z) → not t ≡ no_more x g (start x)
  value_given a {z} e p q = ap not q ∙ not_not (not_past x a z) ∙ rw (e, p)
    where
      not_not : (b : Bool) → not (not b) ≡ b
      not_not true = refl
      not_not false = refl

module _ (vs : List Variable) (r : Rule) where
  -- whichever list a position is read in, the rule gives the most that it can
  pub most_is : (ms : List ℤ) → Evaluable r → Taken vs r (length r.terms) ms
      → evaluate r (reading_of 0 ms ms r.terms) ≡ most vs r (lows vs) (highs vs)
  unfolding most reading_of
  most_is ms e g = evaluate_same r (reading_of 0 ms ms r.terms) _ (λ i l. either (bit 0 i) ∙ g i l) e
    where
      either : {a : ℤ} (b : Bool) → cond b a a ≡ a
      either true = refl
      either false = refl

  -- a size, by its one position
  pub size_most : Evaluable r → r.form ≡ 5 → {z a : ℤ} → z ≡ most_declared vs r 0 → a ≡ r.c +ℤ pos (nat_abs z) → Some a ≡ most vs r (lows vs) (highs vs)
  unfolding most
  size_most e f p q =
      given_is r (most_declared vs r) (plain_hold r.terms (most_declared vs r) (length r.terms) (e.plain (ap has_literals five)))
      (q ∙ ap (λ (z : ℤ). r.c +ℤ pos (nat_abs z)) p ∙ sym (amount_size r.c (divisor_of r) r.terms (most_declared vs r) five))
    where
      five : term_form r.form ≡ 5
      five = size_form f

  pub idle_is : {x : Variable} {g : Option ℤ} {b : Bool} → b ≡ no_more x g (start x) → x ≡ variable_in vs r.head
      → g ≡ most vs r (lows vs) (highs vs) → b ≡ is_idle vs r
  unfolding is_idle
  idle_is p q e = p ∙ rw (q, e)
