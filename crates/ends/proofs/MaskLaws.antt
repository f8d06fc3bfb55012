-- The mask of a rule with lent ranges, from the last position to the first.
use Prim.Native.Nat.{ℕ, zero, suc, ◌+◌, ◌-◌, ◌*◌, ◌^◌, ◌<◌, ◌≤◌}
use mathlib.Core.Path.{◌≡◌, refl, sym, ap, subst, ◌∙◌}
use mathlib.Core.Bool.{Bool, true, false, not, cond, ◌&&◌, ◌||◌}
use mathlib.Core.List.{List}
use native.Mathlib.Omega.{arith}
use lib.Bits.{bit_or}
use lib.Dec.{eqb}
use lib.IntN.{ℤ}
use lib.ListN.{length, get_or, set}
use lib.Seq.{get_or-set_same, get_or-set_other}
use lib.Signed.{lt_z}
use borrow.Author.Count.{below_more}
use borrow.Author.Tests.{eqb-true, ne_eqb}
use Rattle.format.specs.Limits.{max_terms}
use Rattle.words.specs.Bit.{bit}
use Rattle.words.proofs.Bits.{bit_or_lem, bit_pow}
use Rattle.program.specs.Tables.{any_below}
use Rattle.program.specs.Fields.{value_at, next_at}
use Rattle.program.specs.Program.{Program, Rule, rule_of, rule_in, term_in, variable_in, variables_at}
use Rattle.program.specs.Reading.{AcceptedAs, Accepts}
use Rattle.program.specs.declared.Counts.{Counts}
use Rattle.program.specs.Variables.{is_founded}
use Rattle.program.specs.Directions.{direction, opposite, is_rising, is_mixed}
use Rattle.program.specs.Readings.{Valuation, body_variable, kept}
use Rattle.program.specs.declared.Direction.{Direction}
use Rattle.program.specs.declared.Direction.TheVariants.{Rising, Falling, Mixed}
use Rattle.program.specs.declared.Term.{Term}
use Rattle.program.specs.declared.Variable.{Variable}
use Rattle.positions.specs.Kinds.{direction_of, kind_in, kept_by, KindsOf}
use Rattle.positions.specs.declared.kinds.Kinds.{Kinds}
use Rattle.positions.proofs.KindLaws.{kept_by_lem, position_kept, position_directed}
use Rattle.reduct.specs.Masks.{Mask}
use Rattle.reader.specs.Parts.{rule_place}
use Rattle.reader.proofs.Published.{counts_of_is, variables_are, rule_lies, first_rule, next_rule}
use Rattle.tables.specs.Laid.{OffsetsOf}
use Rattle.lent.specs.Lent.{undecided}
use Rattle.run.specs.Running.{free_bit}
use Rattle.ends.specs.Ends.{in_model, loose_at, WayIs, TermWay, LentMask, LentMasks, LentEntry}
use Rattle.ends.specs.declared.masks.Way.{Way}

-- ---- one position

-- the ends of a range, as read
pub open_range : {a b c d : ℤ} → a ≡ c → b ≡ d → lt_z a b ≡ lt_z c d
open_range p q = rw (p, q)

module _ (vs : List Variable) (low high : Valuation) (r : Rule) (i : ℕ) where
  pub first_read : {k f u : Bool} → k ≡ kept vs r i → f ≡ is_founded (variable_in vs (body_variable r i)) → u ≡ is_rising (opposite (direction vs r i))
      → (k || (not f && u)) ≡ in_model vs r i
  unfolding in_model
  first_read p q o = rw (p, q, o)

  pub loose_read : {d o : Bool} → d ≡ is_mixed (direction vs r i) → o ≡ lt_z (low (body_variable r i)) (high (body_variable r i)) → (d && o) ≡ loose_at vs low high r i
  loose_read p q = rw (p, q)

  -- a term, by the kinds of its rule
  pub term_read : {k : Kinds} {t : Term} {w : Way} → KindsOf vs r k → t ≡ term_in r.terms i → TermWay vs low high k.up k.down t w → WayIs vs low high r i w
  term_read {k} {t} o p n =
      let d = position_directed vs r i o p refl refl in
      let v = ap (λ (u : Term). u.variable) p in
      record {
        first_is = n.first_is ∙ first_read (position_kept vs r i o p refl refl) (ap (λ (u : ℕ). is_founded (variable_in vs u)) v) (ap (λ (e : Direction). is_rising (opposite e)) d);
        loose_is = n.loose_is ∙ loose_read (ap (λ (e : Direction). is_mixed e) d) (ap (λ (u : ℕ). lt_z (low u) (high u)) v);
      }

-- falling, by the kind
falls_by : (k : ℕ) → eqb k 2 ≡ is_rising (opposite (direction_of k))
falls_by k = go (eqb k 1) (eqb k 2) refl refl
  where
    go : (a b : Bool) → eqb k 1 ≡ a → eqb k 2 ≡ b → b ≡ is_rising (opposite (cond a Rising (cond b Falling Mixed)))
    go true true p q = let z : ⊥ = omega (arith, eqb-true k 1 p, eqb-true k 2 q) in absurd z
    go true false p q = refl
    go false true p q = refl
    go false false p q = refl

-- the code's tests of a term
module _ (up down : ℕ) (t : Term) {n : ℕ} (p : n ≡ kind_in up down t) where
  pub term_first : (y : Variable) {x : Variable} {a f : Bool} → x ≡ y → a ≡ (eqb x.kind n && is_founded x) → f ≡ is_founded x
      → (a || (not f && eqb n 2)) ≡ (kept_by up down y t || (not (is_founded y) && is_rising (opposite (direction_of (kind_in up down t)))))
  term_first y {x} {a} e q o =
      let g : a ≡ kept_by up down x t = kept_by_lem up down x t p q in
      rw (g, o, falls_by n, e, p)

  pub term_loose : {b o m : Bool} → b ≡ is_mixed (direction_of n) → o ≡ m → (b && o) ≡ (is_mixed (direction_of (kind_in up down t)) && m)
  term_loose q e = rw (q, e, p)

-- the highest bit is put in
pub freed : {b : Bool} (w : ℕ) → b ≡ true → bit_or w 2147483648 ≡ cond b (bit_or w (2 ^ free_bit)) w
freed w e = rw e

-- ---- some position below n is one

module _ (p : ℕ → Bool) (n : ℕ) where
  pub some_start : (i : ℕ) → i ≡ n → (any_below i p || false) ≡ any_below n p
  some_start i e = rw e (or_false (any_below n p))
    where
      or_false : (b : Bool) → (b || false) ≡ b
      or_false true = refl
      or_false false = refl

  pub some_before : (i : ℕ) (f : Bool) {b : Bool} → 0 < i → (any_below i p || f) ≡ any_below n p → b ≡ p (i - 1) → (any_below (i - 1) p || (f || b)) ≡ any_below n p
  unfolding any_below
  some_before zero f l e q = absurd (omega arith)
  some_before (suc i) f {b} l e q = let z : suc i - 1 ≡ i = omega arith in rw z (turned (any_below i p) (p i) f b (rw z at q) ∙ e)
    where
      turned : (a c f b : Bool) → b ≡ c → (a || (f || b)) ≡ ((a || c) || f)
      turned true c f b q = refl
      turned false true true b q = refl
      turned false true false b q = q
      turned false false true b q = refl
      turned false false false b q = q

  pub some_whole : (i : ℕ) (f : Bool) → i ≡ 0 → (any_below i p || f) ≡ any_below n p → f ≡ any_below n p
  unfolding any_below
  some_whole i f e h = rw e at h

-- ---- the whole mask

pub lent_mask : (vs : List Variable) (low high : Valuation) (r : Rule) {bits w : ℕ} {free : Bool} → length r.terms ≤ max_terms
    → Mask (in_model vs r) (length r.terms) bits → free ≡ any_below (length r.terms) (loose_at vs low high r)
    → w ≡ cond free (bit_or bits (2 ^ free_bit)) bits → LentMask vs low high r w
unfolding undecided
lent_mask vs low high r {bits} {w} {free} few m f e = record {
  read = λ i l. ap (λ (x : ℕ). bit x i) e ∙ below free i (omega arith) ∙ m.below i l;
  free = ap (λ (x : ℕ). bit x free_bit) e ∙ top free ∙ f;
}
  where
    below : (b : Bool) (i : ℕ) → i < max_terms → bit (cond b (bit_or bits (2 ^ free_bit)) bits) i ≡ bit bits i
    below true i l = bit_or_lem bits (2 ^ free_bit) i ∙ ap (λ (b : Bool). bit bits i || b) (bit_pow free_bit i ∙ ne_eqb i free_bit (omega arith)) ∙ or_false (bit bits i)
      where
        or_false : (b : Bool) → (b || false) ≡ b
        or_false true = refl
        or_false false = refl
    below false i l = refl

    top : (b : Bool) → bit (cond b (bit_or bits (2 ^ free_bit)) bits) free_bit ≡ b
    top true = bit_or_lem bits (2 ^ free_bit) free_bit ∙ ap (λ (b : Bool). bit bits free_bit || b) (bit_pow free_bit free_bit) ∙ or_true (bit bits free_bit)
      where
        or_true : (b : Bool) → (b || true) ≡ true
        or_true true = refl
        or_true false = refl
    top false = m.past free_bit (omega arith)

-- ---- the places and masks of all rules

-- the mask that was found of a field's value
pub entry_made : {s : List ℕ} {n at : ℕ} {v : List ℕ} (low high : Valuation) (i next mask : ℕ) (os ms : List ℕ) {place : ℕ} → v ≡ value_at s at → place ≡ at → next ≡ next_at s at
    → LentMask (variables_at s n) low high (rule_of v) mask → LentEntry s n low high at i next os (set os i place) ms (set ms i mask)
entry_made low high i next mask os ms q p e m = record { next_is = e; placed = ap (set os i) p; mask = mask; masked = refl; mask_is = rw q at m }

-- the first n rules are entered, and the next field stands at this place
pub record FirstEntered (s : List ℕ) (P : Program) (low high : Valuation) (n at : ℕ) (os ms : List ℕ) : Type 0 where
  pub next : at ≡ rule_place s P n
  pub places : (i : ℕ) → i < n → get_or os i 0 ≡ rule_place s P i
  pub masks : LentMasks P low high n ms

module _ {s : List ℕ} {k : Counts} (r : AcceptedAs s k) (low high : Valuation) where
  pub entered_none : (os ms : List ℕ) (P : Program) → Accepts s P → FirstEntered s P low high 0 (8 * k.variables) os ms
  entered_none os ms P x = record {
    next = omega (arith, first_rule x, (counts_of_is r x).variables_are);
    places = λ i l. absurd (omega arith);
    masks = λ i l. absurd (omega arith);
  }

  -- one rule more
  pub entered_more : (i at next : ℕ) (os os' ms ms' : List ℕ) → i < k.rules → i < length os → i < length ms → LentEntry s k.variables low high at i next os os' ms ms'
      → (P : Program) → Accepts s P → FirstEntered s P low high i at os ms → FirstEntered s P low high (i + 1) next os' ms'
  entered_more i at next os os' ms ms' h lo lm n P x t = record {
    next = n.next_is ∙ ap (next_at s) t.next ∙ sym (next_rule s P i);
    places = rw n.placed
        (below_more (λ (j : ℕ). get_or (set os i at) j 0 ≡ rule_place s P j) i (λ j q. get_or-set_other os i j at 0 (omega arith) ∙ t.places j q) (get_or-set_same os i at 0 lo ∙ t.next));
    masks = rw n.masked
        (below_more (λ (j : ℕ). LentMask P.variables low high (rule_in P.rules j) (get_or (set ms i n.mask) j 0)) i
        (λ j q. subst (λ (a : ℕ). LentMask P.variables low high (rule_in P.rules j) a) (sym (get_or-set_other ms i j n.mask 0 (omega arith))) (t.masks j q))
        (rw (get_or-set_same ms i n.mask 0 lm, variables_are r x, rule) n.mask_is));
  }
    where
      rule : rule_in P.rules i ≡ rule_of (value_at s at)
      rule = (rule_lies x i (omega (arith, (counts_of_is r x).rules_are))).is ∙ ap (λ (a : ℕ). rule_of (value_at s a)) (sym t.next)

  -- where every rule is entered
  module _ {i at : ℕ} {os ms : List ℕ} (h : k.rules ≤ i) (t : (P : Program) → Accepts s P → FirstEntered s P low high i at os ms) where
    pub places_whole : OffsetsOf s os
    places_whole P x j q = (t P x).places j (omega (arith, (counts_of_is r x).rules_are))

    pub masks_whole : (P : Program) → Accepts s P → LentMasks P low high (length P.rules) ms
    masks_whole P x j q = (t P x).masks j (omega (arith, (counts_of_is r x).rules_are))
