-- What a rule is found to give, by its mask and the ends of the ranges, is what it gives with lent ranges; so the run to the bounds is a run.
use Rattle.std.specs.Prelude.{Some}
use Prim.Native.Nat.{ℕ, ◌<◌}
use mathlib.Core.Path.{◌≡◌, refl, sym, ap, ◌∙◌}
use mathlib.Core.Logic.{◌⊎◌, inl, inr}
use mathlib.Core.Bool.{Bool, true, false, not, cond, ◌&&◌, ◌||◌, true≢false}
use mathlib.Core.List.{List}
use native.Mathlib.Omega.{arith}
use borrow.Author.Tests.{eqb-true}
use lib.Dec.{T, eqb}
use lib.IntN.{ℤ}
use lib.ListN.{length, get_or}
use lib.Signed.{le_z}
use Rattle.format.proofs.Int.{int}
use Rattle.program.specs.Program.{Program, Rule, variable_in, rule_in}
use Rattle.program.specs.Reading.{Accepts}
use Rattle.program.specs.Variables.{is_founded, from_above, swaps, far, not_past, cut_off, in_range}
use Rattle.program.specs.Directions.{away, direction, opposite, is_rising, is_mixed}
use Rattle.program.specs.Evaluate.{evaluate}
use Rattle.program.specs.Evaluable.{Evaluable}
use Rattle.program.specs.Readings.{Valuation, body_variable, kept, valued}
use Rattle.program.specs.Idle.{demanding, most_at}
use Rattle.program.specs.declared.Direction.{Direction}
use Rattle.program.specs.declared.Direction.TheVariants.{Rising, Falling, Mixed}
use Rattle.program.specs.declared.Variable.{Variable}
use Rattle.program.proofs.Tests.{cases, and_both}
use Rattle.program.proofs.Gives.{evaluate_same, promised_evaluable}
use Rattle.program.proofs.Promises.{accepts_promises}
use Rattle.bodies.specs.Readings.{reading_of}
use Rattle.meaning.specs.Founded.{Within}
use Rattle.meaning.specs.Reduct.{system}
use Rattle.meaning.proofs.InRanges.{value_small}
use Rattle.lent.specs.Lent.{lent_reading, lent_variable, undecided, lent_gives, lent}
use Rattle.lent.proofs.Fits.{Fitting, lent_narrows, low_within}
use Rattle.lent.proofs.LentLaws.{lent_laws, lent_gives_is, decided_single}
use Rattle.lent.proofs.LentGiven.{demanding_single, lent_given_end}
use Rattle.tables.specs.Laid.{OffsetsOf}
use Rattle.run.specs.Running.{stopped, Basis}
use Rattle.ends.specs.Ends.{other_end, other_ends, stop_end, stop_ends, in_model, LentMask, LentMasks}

-- ---- one position

-- variable x has a in the model and o in the other list, and pushes this way; h is the head
read_as : (x h : Variable) (d : Direction) (low high a o : ℤ) → (is_mixed d ≡ true → low ≡ high) → o ≡ other_end x low high → (T (not (is_founded x)) → a ≡ low)
    → let k = is_rising (away x d) && is_founded x in cond (k || (not (is_founded x) && is_rising (opposite d))) a o ≡ cond k a (demanding h d low high)
unfolding away swaps other_end demanding
read_as x h d low high a o single = go (eqb x.kind 1) (eqb x.kind 2) d refl refl single
  where
    mixed : low ≡ high → (z : ℤ) → (z ≡ low) → z ≡ demanding h Mixed low high
    mixed e z q = q ∙ sym (demanding_single h Mixed low) ∙ ap (demanding h Mixed low) e

    go : (b c : Bool) (d : Direction) → eqb x.kind 1 ≡ b → eqb x.kind 2 ≡ c → (is_mixed d ≡ true → low ≡ high) → o ≡ cond b low high → (T (not (b || c)) → a ≡ low)
        → let k = is_rising (cond c (opposite d) d) && (b || c) in cond (k || (not (b || c) && is_rising (opposite d))) a o ≡ cond k a (demanding h d low high)
    go true true d p q s e f = let z = eqb-true x.kind 1 p in let y = eqb-true x.kind 2 q in absurd (omega arith)
    go true false Rising p q s e f = refl
    go true false Falling p q s e f = e
    go true false Mixed p q s e f = mixed (s refl) o e
    go false true Rising p q s e f = e
    go false true Falling p q s e f = refl
    go false true Mixed p q s e f = mixed (s refl) o (e ∙ sym (s refl))
    go false false Rising p q s e f = e
    go false false Falling p q s e f = f tt
    go false false Mixed p q s e f = mixed (s refl) o (e ∙ sym (s refl))

-- ---- one rule

module _ (vs : List Variable) (low high : Valuation) (ordered : (v : ℕ) → T (le_z (low v) (high v))) (r : Rule) where
  -- in a decided rule, by its mask
  decided_as : undecided vs low high r ≡ false → (mask : ℕ) → LentMask vs low high r mask → (m others : List ℤ)
      → ((v : ℕ) → valued others v ≡ other_ends vs low high v) → ((v : ℕ) → T (not (is_founded (variable_in vs v))) → valued m v ≡ low v)
      → (i : ℕ) → i < length r.terms → reading_of mask m others r.terms i ≡ lent_reading vs low high r (valued m) i
  unfolding reading_of in_model kept most_at
  decided_as e mask k m others o s i l =
      let x = body_variable r i in
      ap (λ (b : Bool). cond b (valued m x) (valued others x)) (k.read i l)
      ∙ read_as (variable_in vs x) (variable_in vs r.head) (direction vs r i) (low x) (high x) (valued m x) (valued others x)
      (λ t. let q = decided_single vs low high r e i l t in let p = ordered x in omega int) (o x) (s x)

  -- what is found is what is given
  pub lent_found : Evaluable r → (mask : ℕ) → LentMask vs low high r mask → (m others stops : List ℤ)
      → ((v : ℕ) → valued others v ≡ other_ends vs low high v) → ((v : ℕ) → valued stops v ≡ stop_ends vs low high v)
      → ((v : ℕ) → T (not (is_founded (variable_in vs v))) → valued m v ≡ low v)
      → lent_gives vs low high r (valued m) ≡ stopped true (variable_in vs r.head) (valued stops r.head) mask (evaluate r (reading_of mask m others r.terms))
  unfolding stopped stop_end
  lent_found ev mask k m others stops o z s =
      lent_gives_is vs low high r (valued m) ∙ rw (z r.head, k.free) (go (undecided vs low high r) refl)
    where
      end : ℤ
      end = swaps (variable_in vs r.head) (high r.head) (low r.head)

      h : Variable
      h = variable_in vs r.head

      go : (b : Bool) → undecided vs low high r ≡ b
          → cond b (Some end) (cut_off h end (evaluate r (lent_reading vs low high r (valued m)))) ≡ cond b (Some end) (cut_off h end (evaluate r (reading_of mask m others r.terms)))
      go true e = refl
      go false e = ap (cut_off h end) (sym (evaluate_same r (reading_of mask m others r.terms) (lent_reading vs low high r (valued m)) (decided_as e mask k m others o s) ev))

-- ---- the run

-- the ends at which positions are read lie in the declared ranges
pub others_within : {P : Program} {low high : Valuation} → Fitting P low high → Within (system P) (other_ends P.variables low high)
unfolding other_end
others_within {P} {low} {high} f = record {
  inside = λ v.
      let x = variable_in P.variables v in
      cases (eqb x.kind 1) (λ b. T (in_range x (cond b (low v) (high v))))
      (λ t. let r = f.range v in and_both (le_z x.low (low v)) (le_z (low v) x.high) r.from.le (omega (int, r.ordered, r.to)))
      (λ t. let r = f.range v in and_both (le_z x.low (high v)) (le_z (high v) x.high) (omega (int, r.from, r.ordered)) r.to.le);
}

-- what is read in the model is kept, or standard
kept_or_standard : (vs : List Variable) (r : Rule) (j : ℕ) → in_model vs r j ≡ true → (kept vs r j ≡ true) ⊎ T (not (is_founded (variable_in vs (body_variable r j))))
unfolding in_model
kept_or_standard vs r j = go (kept vs r j) (is_founded (variable_in vs (body_variable r j))) (is_rising (opposite (direction vs r j)))
  where
    go : (a b c : Bool) → (a || (not b && c)) ≡ true → (a ≡ true) ⊎ T (not b)
    go true b c e = inl refl
    go false true c e = absurd (true≢false (sym e))
    go false false c e = inr tt

-- lifts stop at the far end of the lent range
stop_far : (x : Variable) (low high a : ℤ) → T (not_past x a (stop_end x low high)) → T (not_past (lent_variable x low high) a (far (lent_variable x low high)))
unfolding stop_end lent_variable not_past far swaps
stop_far x low high a = cases (from_above x)
    (λ t. T (cond t (le_z (cond t low high) a) (le_z a (cond t low high))) → T (cond t (le_z (cond t (cond t low x.low) (cond t x.high high)) a) (le_z a (cond t (cond t low x.low) (cond t x.high high)))))
    (λ t h. h) (λ t h. h)

pub lent_basis : {s offsets : List ℕ} {P : Program} → Accepts s P → OffsetsOf s offsets
    → (low high : Valuation) → Fitting P low high → (masks : List ℕ) → LentMasks P low high (length P.rules) masks → (others stops : List ℤ)
    → ((v : ℕ) → valued others v ≡ other_ends P.variables low high v) → ((v : ℕ) → valued stops v ≡ stop_ends P.variables low high v)
    → Basis s P (lent P low high) low offsets masks others stops true
lent_basis {P = P} x t low high f masks k others stops o z = record {
  reckons = record {
    accepts = x;
    stands = λ i h. record { accepts = x; among = h; placed = t P x i h };
    narrows = lent_narrows f;
    finds = λ i h m s. lent_found P.variables low high (λ v. (f.range v).ordered.le) (rule_in P.rules i) (promised_evaluable ((accepts_promises x).rules i h)) (get_or masks i 0) (k i h)
        m others stops o z s;
    keeps = λ i h j l b. kept_or_standard P.variables (rule_in P.rules i) j (sym ((k i h).read j l) ∙ b);
    ranged = record { inside = λ v. rw (o v) ((others_within f).inside v) };
    ends = λ v b n. record { le = stop_far (variable_in P.variables v) (low v) (high v) b (rw (z v) at (n.to_stop refl)) };
  };
  laws = lent_laws (accepts_promises x) f;
  assigned = low_within f;
  small = λ v. rw (o v) (value_small (accepts_promises x) (others_within f) v);
  inside = λ i h m b e q. record { le = lent_given_end P.variables low high (rule_in P.rules i) m b e };
}
