-- The bodies of each form, from what is known of each term.
use Prim.Native.Nat.{ℕ, zero, suc, ◌<◌, ◌≤◌}
use mathlib.Core.Path.{◌≡◌, refl, sym, ap, ap₂, ◌∙◌}
use mathlib.Core.Bool.{true, false, not, ◌||◌}
use mathlib.Core.List.{List}
use native.Mathlib.Omega.{arith}
use lib.Dec.{ltb}
use lib.IntN.{ℤ, pos, negsuc, nat_abs}
use lib.ListN.{length}
use lib.Signed.{lt_z, le_z}
use borrow.Author.Tests.{eq-eqb, ne_eqb, le-ltb, lt-leb}
use Rattle.format.specs.Limits.{max_terms}
use Rattle.program.specs.Program.{term_in}
use Rattle.program.specs.Refusals.{unknown_form, wrong_count_of, literal_position, wrong_term, outside_term, undeclared_term, negative_term}
use Rattle.program.proofs.Conditions.{never, below_none, last_or}
use Rattle.faults.proofs.TermLaws.{position_if, position_carry, position_plain, zero_literal, zero_plain, op_plain, op_literal, wrong_zero, wrong_none}
use Rattle.faults.proofs.TermLaws.{outside_literal, outside_plain, outside_sum, negative_other, negative_low}
use Rattle.program.specs.declared.Variable.{Variable}
use Rattle.program.specs.declared.Term.{Term}
use Rattle.faultless.specs.Faultless.{Bare, Weight, Literal, New, EachFrom, Faultless, FaultlessOf, LowFrom0}

-- ---- one term

-- as the form asks for it at its position
record Fits (form i : ℕ) (t : Term) : Type 0 where
  form_fits : wrong_term form i t ≡ false
  range_fits : outside_term form i t ≡ false

module _ (form i : ℕ) (t : Term) where
  bare_fits : literal_position form i ≡ false → (form ≡ 1 → ⊥) → Bare t → Fits form i t
  bare_fits p f b = record {
    form_fits =
        sym (wrong_zero form i t (sym (op_plain form i t.op false (sym p) b.op_is)) (sym (zero_plain form i p) ∙ ap not (ne_eqb form 1 f)) true
        (sym (eq-eqb (nat_abs t.number) 0 b.number_is)));
    range_fits = sym (outside_plain form i t p f);
  }

  weight_fits : literal_position form i ≡ false → form ≡ 1 → Weight t → Fits form i t
  weight_fits p f w = record {
    form_fits =
        sym (wrong_none form i t (sym (op_plain form i t.op false (sym p) w.op_is)) (sym (zero_plain form i p) ∙ ap not (eq-eqb form 1 f)));
    range_fits = sym (outside_sum form i t p f (ne_eqb (nat_abs t.number) 0 w.other)) ∙ w.near;
  }

  literal_fits : literal_position form i ≡ true → Literal t → Fits form i t
  literal_fits p l = record {
    form_fits = sym (wrong_none form i t (sym (op_literal form i t.op true (sym p) l.from l.to)) (sym (zero_literal form i p)));
    range_fits = sym (outside_literal form i t p) ∙ l.near;
  }

-- ---- bodies

module _ (vs : List Variable) (n form : ℕ) (ts : List Term) (e : length vs ≡ n) where
  abbrev Each : (ℕ → Type 0) → Type 0
  Each P = (j : ℕ) → j < length ts → P j

  faultless : unknown_form form ≡ false → wrong_count_of form (length ts) ≡ false → Each (New n ts) → Each (λ (j : ℕ). Fits form j (term_in ts j))
      → Each (λ (j : ℕ). negative_term vs form (term_in ts j) ≡ false) → Faultless vs form ts
  unfolding undeclared_term
  faultless k c w f g = record {
    known = k;
    count = c;
    forms = below_none (length ts) _ (λ j h. (f j h).form_fits);
    ranges = below_none (length ts) _ (λ j h. (f j h).range_fits);
    declared = below_none (length ts) _ (λ j h. let d = (w j h).declared in lt-leb (length vs) (term_in ts j).variable (omega arith));
    distinct = below_none (length ts) _ (λ j h. (w j h).first);
    lows = below_none (length ts) _ g;
  }

  no_product : (form ≡ 4 → ⊥) → Each (λ (j : ℕ). negative_term vs form (term_in ts j) ≡ false)
  no_product f j h = sym (negative_other vs form (term_in ts j) f)

  bare_body : unknown_form form ≡ false → wrong_count_of form (length ts) ≡ false → ((j : ℕ) → literal_position form j ≡ false) → (form ≡ 1 → ⊥) → EachFrom Bare n ts 0
      → Each (λ (j : ℕ). negative_term vs form (term_in ts j) ≡ false) → Faultless vs form ts
  bare_body k c p f b g =
      faultless k c (λ j h. (b j (omega arith) h).0) (λ j h. bare_fits form j (term_in ts j) (p j) f (b j (omega arith) h).1) g

count_from_lem : (least n : ℕ) → least ≤ n → n ≤ max_terms → (ltb n least || ltb max_terms n) ≡ false
count_from_lem least n h k = ap₂ ◌||◌ (le-ltb n least h) (le-ltb max_terms n k)

module _ (n : ℕ) (ts : List Term) where
  pub sum_body : length ts ≤ max_terms → EachFrom Weight n ts 0 → FaultlessOf n 1 ts
  unfolding unknown_form wrong_count_of
  sum_body h w vs e =
      faultless vs n 1 ts e refl (count_from_lem 0 (length ts) (omega arith) h) (λ j l. (w j (omega arith) l).0)
      (λ j l. weight_fits 1 j (term_in ts j) (sym (position_plain 1 j (λ q. omega arith) (λ q. omega arith))) refl (w j (omega arith) l).1)
      (no_product vs n 1 ts e (λ q. omega arith))

  module _ (b : EachFrom Bare n ts 0) where
    plain : (form : ℕ) → unknown_form form ≡ false → wrong_count_of form (length ts) ≡ false → 2 ≤ form → form ≤ 5 → (form ≡ 4 → ⊥) → FaultlessOf n form ts
    plain form k c l h f vs e =
        bare_body vs n form ts e k c (λ j. sym (position_plain form j (λ q. omega arith) (λ q. omega arith))) (λ q. omega arith) b (no_product vs n form ts e f)

    pub extreme_body : 1 ≤ length ts → length ts ≤ max_terms → FaultlessOf n 2 ts × FaultlessOf n 3 ts
    unfolding unknown_form wrong_count_of
    extreme_body h k = (
      plain 2 refl (count_from_lem 1 (length ts) h k) (omega arith) (omega arith) (λ q. omega arith),
      plain 3 refl (count_from_lem 1 (length ts) h k) (omega arith) (omega arith) (λ q. omega arith),
    )

    pub size_body : length ts ≡ 1 → FaultlessOf n 5 ts
    unfolding unknown_form wrong_count_of
    size_body h = plain 5 refl (rw h refl) (omega arith) (omega arith) (λ q. omega arith)

    pub product_body : (vs : List Variable) → length vs ≡ n → length ts ≡ 2 → LowFrom0 vs (term_in ts 0).variable → LowFrom0 vs (term_in ts 1).variable
        → Faultless vs 4 ts
    unfolding unknown_form wrong_count_of
    product_body vs e h p q =
        bare_body vs n 4 ts e refl (rw h refl) (λ j. sym (position_plain 4 j (λ x. omega arith) (λ x. omega arith))) (λ x. omega arith) b low
      where
        low : (j : ℕ) → j < length ts → negative_term vs 4 (term_in ts j) ≡ false
        low j l =
            sym (negative_low vs 4 (term_in ts j) refl)
            ∙ last_or (λ i. LowFrom0 vs (term_in ts i).variable) 1 j (omega arith) (λ k. let z : j ≡ 0 = omega arith in rw z p) q

  pub if_body : 1 ≤ length ts → length ts ≤ max_terms → EachFrom Literal n ts 0 → FaultlessOf n 6 ts
  unfolding unknown_form wrong_count_of
  if_body h k l vs e =
      faultless vs n 6 ts e refl (count_from_lem 1 (length ts) h k) (λ j m. (l j (omega arith) m).0)
      (λ j m. literal_fits 6 j (term_in ts j) (sym (position_if 6 j refl)) (l j (omega arith) m).1) (no_product vs n 6 ts e (λ q. omega arith))

  pub carry_body : 2 ≤ length ts → length ts ≤ max_terms → Bare (term_in ts 0) → New n ts 0 → EachFrom Literal n ts 1 → FaultlessOf n 7 ts
  unfolding unknown_form wrong_count_of
  carry_body h k b w l vs e =
      faultless vs n 7 ts e refl (count_from_lem 2 (length ts) h k) new fit (no_product vs n 7 ts e (λ q. omega arith))
    where
      new : (j : ℕ) → j < length ts → New n ts j
      new zero m = w
      new (suc j) m = (l (suc j) (omega arith) m).0

      fit : (j : ℕ) → j < length ts → Fits 7 j (term_in ts j)
      fit zero m = bare_fits 7 0 (term_in ts 0) (sym (position_carry 7 0 refl)) (λ q. omega arith) b
      fit (suc j) m =
          literal_fits 7 (suc j) (term_in ts (suc j)) (sym (position_carry 7 (suc j) refl) ∙ ap not (ne_eqb (suc j) 0 (λ q. omega arith))) (l (suc j) (omega arith) m).1

-- the form as which it is looked at
pub as_form : (vs : List Variable) (form k : ℕ) (ts : List Term) → form ≡ k → Faultless vs k ts → Faultless vs form ts
as_form vs form k ts e h = rw e h

-- a low that is 0 or more is not below 0
pub low_is : (x y : Variable) → x ≡ y → le_z (pos 0) x.low ≡ true → lt_z y.low (pos 0) ≡ false
low_is x y e h = rw (← e) (go x.low h)
  where
    go : (z : ℤ) → le_z (pos 0) z ≡ true → lt_z z (pos 0) ≡ false
    go (pos n) q = le-ltb n 0 (omega arith)
    go (negsuc n) q = absurd (never q refl)
