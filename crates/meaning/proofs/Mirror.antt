-- The order of a variable founded from above is 000's mirror: a program's models, its least model and its unfounded sets are those of the modified program,
-- in which no variable is founded from above, with each such value negated.
use Rattle.std.specs.Prelude.{Option, Some, None}
use Prim.Native.Nat.{ℕ}
use mathlib.Core.Path.{◌≡◌, refl, sym, ap, ap₂, ◌∙◌, subst}
use mathlib.Core.Logic.{◌↔◌}
use mathlib.Core.Bool.{Bool, true, false, not, cond, ◌||◌, ◌&&◌, or-true, and-true, and-false}
use lib.Dec.{T, eqb}
use lib.IntN.{ℤ, neg_ℤ}
use lib.Signed.{le_z}
use Rattle.format.proofs.Int.{int, neg_is}
use Rattle.program.specs.Program.{Program}
use Rattle.program.specs.Variables.{is_founded, from_above, swaps, ahead, start, not_past, in_range, no_more}
use Rattle.program.specs.Readings.{Valuation}
use Rattle.program.specs.declared.Variable.{Variable}
use Rattle.program.proofs.Tests.{cases, is_true}
use Rattle.program.proofs.Variables.{swaps_not, swaps_so}
use Rattle.meaning.specs.Founded.{System, GivenNoMore, Model, Least}
use Rattle.meaning.specs.Mirror.{mirrored, turned_given, turned_all, mirror}
use Rattle.meaning.specs.Reduct.{system}
use Rattle.meaning.specs.Stable.{Meets, Stable}
use Rattle.meaning.specs.Unfounded.{over, Unfounded}

-- ---- numbers

negated : (a : ℤ) → neg_ℤ (neg_ℤ a) ≡ a
negated a = omega (int, neg_is a, neg_is (neg_ℤ a))

negated_order : (a b : ℤ) → le_z (neg_ℤ a) (neg_ℤ b) ≡ le_z b a
negated_order a b = cases (le_z b a) (λ c. le_z (neg_ℤ a) (neg_ℤ b) ≡ c)
    (λ t. is_true (le_z (neg_ℤ a) (neg_ℤ b)) (omega (int, neg_is a, neg_is b)))
    (λ t. not_so (le_z (neg_ℤ a) (neg_ℤ b)) (λ h. omega (int, neg_is a, neg_is b)))
  where
    not_so : (b : Bool) → (T b → ⊥) → b ≡ false
    not_so true f = absurd (f tt)
    not_so false f = refl

-- ---- one variable

module _ (x : Variable) where
  -- x' where it is founded from above, and x where it is not
  abbrev other : Variable
  other = record { kind = 1; low = neg_ℤ x.high; high = neg_ℤ x.low }

  -- a statement of the mirrored variable and of the map of values, by the kind
  by_kind : (C : Variable → (ℤ → ℤ) → Type 0) → (from_above x ≡ true → C other neg_ℤ) → (from_above x ≡ false → C x (λ a. a)) → C (mirrored x) (ahead x)
  unfolding mirrored ahead swaps
  by_kind C f g = go (from_above x) f g
    where
      go : (b : Bool) → (b ≡ true → C other neg_ℤ) → (b ≡ false → C x (λ a. a)) → C (cond b other x) (λ a. cond b (neg_ℤ a) a)
      go true f g = f refl
      go false f g = g refl

  pub turned_back : (a : ℤ) → ahead x (ahead x a) ≡ a
  turned_back a = by_kind (λ y t. t (t a) ≡ a) (λ e. negated a) (λ e. refl)

  -- no variable is founded from above
  pub mirrored_below : from_above (mirrored x) ≡ false
  mirrored_below = by_kind (λ y t. from_above y ≡ false) (λ e. refl) (λ e. e)

  pub mirrored_founded : is_founded (mirrored x) ≡ is_founded x
  mirrored_founded = by_kind (λ y t. is_founded y ≡ is_founded x) (λ e. sym (ap (λ (b : Bool). eqb x.kind 1 || b) e ∙ or-true (eqb x.kind 1))) (λ e. refl)

  pub mirrored_order : (a b : ℤ) → not_past (mirrored x) (ahead x a) (ahead x b) ≡ not_past x a b
  unfolding not_past
  mirrored_order a b = by_kind (λ y t. not_past y (t a) (t b) ≡ not_past x a b)
      (λ e. sym (swaps_not other (le_z (neg_ℤ a) (neg_ℤ b)) (le_z (neg_ℤ b) (neg_ℤ a)) refl) ∙ negated_order a b ∙ swaps_so x (le_z a b) (le_z b a) e) (λ e. refl)

  pub mirrored_range : (a : ℤ) → in_range (mirrored x) (ahead x a) ≡ in_range x a
  mirrored_range a = by_kind (λ y t. in_range y (t a) ≡ in_range x a)
      (λ e. ap₂ ◌&&◌ (negated_order x.high a) (negated_order a x.low) ∙ and_swap (le_z a x.high) (le_z x.low a)) (λ e. refl)
    where
      and_swap : (p q : Bool) → (p && q) ≡ (q && p)
      and_swap true q = sym (and-true q)
      and_swap false q = sym (and-false q)

  pub mirrored_start : start (mirrored x) ≡ ahead x (start x)
  unfolding start
  mirrored_start = by_kind (λ y t. start y ≡ t (start x))
      (λ e. sym (swaps_not other (neg_ℤ x.high) (neg_ℤ x.low) refl) ∙ ap neg_ℤ (swaps_so x x.low x.high e)) (λ e. refl)

  pub mirrored_given : (g : Option ℤ) (b : ℤ) → no_more (mirrored x) (turned_given x g) (ahead x b) ≡ no_more x g b
  mirrored_given None b = refl
  mirrored_given (Some a) b = mirrored_order a b

-- ---- models

module _ (𝒮 : System) where
  open 𝒮 use {variable, Rule, In, head, gives}

  abbrev turn : Valuation → Valuation
  turn = turned_all 𝒮

  turn_back : (m : Valuation) → turn (turn m) ≡ m
  turn_back m = λ i v. turned_back (variable v) (m v) i

  order_iff : (v : ℕ) (a b : ℤ) → T (not_past (variable v) a b) ≡ T (not_past (mirrored (variable v)) (ahead (variable v) a) (ahead (variable v) b))
  order_iff v a b = ap T (sym (mirrored_order (variable v) a b))

  -- what a rule gives in the one program and in the other
  met_iff : (r : Rule) (m θ : Valuation) (b : ℤ)
      → GivenNoMore (mirror 𝒮) (head r) ((mirror 𝒮).gives r (turn m) (turn θ)) (ahead (variable (head r)) b) ≡ GivenNoMore 𝒮 (head r) (gives r m θ) b
  met_iff r m θ b =
      ap₂ (λ (k η : Valuation). T (no_more (mirrored (variable (head r))) (turned_given (variable (head r)) (gives r k η)) (ahead (variable (head r)) b)))
      (turn_back m) (turn_back θ)
      ∙ ap T (mirrored_given (variable (head r)) (gives r m θ) b)

  module _ {θ : Valuation} where
    pub model_mirror : {m : Valuation} → Model 𝒮 θ m → Model (mirror 𝒮) (turn θ) (turn m)
    model_mirror {m} k = record {
      standard = λ v n. ap (ahead (variable v)) (k.standard v (subst (λ (b : Bool). T (not b)) (mirrored_founded (variable v)) n));
      within = record { inside = λ v. subst T (sym (mirrored_range (variable v) (m v))) (k.within.inside v) };
      rules = λ r i. subst (λ A. A) (sym (met_iff r m θ (m (head r)))) (k.rules r i);
    }

    pub mirror_model : {m : Valuation} → Model (mirror 𝒮) (turn θ) (turn m) → Model 𝒮 θ m
    mirror_model {m} k = record {
      standard = λ v n. sym (turned_back (variable v) (m v)) ∙ ap (ahead (variable v)) (k.standard v (subst (λ (b : Bool). T (not b)) (sym (mirrored_founded (variable v))) n))
          ∙ turned_back (variable v) (θ v);
      within = record { inside = λ v. subst T (mirrored_range (variable v) (m v)) (k.within.inside v) };
      rules = λ r i. subst (λ A. A) (met_iff r m θ (m (head r))) (k.rules r i);
    }

    -- the least model of the reduct is that of the modified program's
    pub least_mirror : {m : Valuation} → Least 𝒮 θ m ↔ Least (mirror 𝒮) (turn θ) (turn m)
    least_mirror {m} = (
      λ l. record {
        model = model_mirror l.model;
        floor = record {
          under = λ m' k v.
              let back = mirror_model {m = turn m'} (subst (Model (mirror 𝒮) (turn θ)) (sym (turn_back m')) k) in
              record {
                le = subst (λ a. T (not_past (mirrored (variable v)) (ahead (variable v) (m v)) a)) (turned_back (variable v) (m' v))
                    (subst (λ A. A) (order_iff v (m v) (turn m' v)) (l.floor.under (turn m') back v).le);
              };
        };
      },
      λ l. record {
        model = mirror_model l.model;
        floor = record { under = λ m' k v. record { le = subst (λ A. A) (sym (order_iff v (m v) (m' v))) (l.floor.under (turn m') (model_mirror k) v).le } };
      },
    )

  -- and so are its unfounded sets, with the bounds turned
  module _ (θ : Valuation) (dom : ℕ → Bool) (bound : Valuation) where
    turned_over : turn (over dom bound θ) ≡ over dom (turn bound) (turn θ)
    turned_over = λ i v. cases (dom v) (λ b. ahead (variable v) (cond b (bound v) (θ v)) ≡ cond b (ahead (variable v) (bound v)) (ahead (variable v) (θ v)))
        (λ t. refl) (λ t. refl) i

    set_met_iff : (r : Rule)
        → GivenNoMore (mirror 𝒮) (head r) ((mirror 𝒮).gives r (over dom (turn bound) (turn θ)) (turn θ)) (turn bound (head r))
        ≡ GivenNoMore 𝒮 (head r) (gives r (over dom bound θ) θ) (bound (head r))
    set_met_iff r =
        ap (λ (k : Valuation). GivenNoMore (mirror 𝒮) (head r) ((mirror 𝒮).gives r k (turn θ)) (turn bound (head r))) (sym turned_over)
        ∙ met_iff r (over dom bound θ) θ (bound (head r))

    start_iff : (v : ℕ) → T (not_past (variable v) (start (variable v)) (bound v)) ≡ T (not_past (mirrored (variable v)) (start (mirrored (variable v))) (turn bound v))
    start_iff v = order_iff v (start (variable v)) (bound v)
        ∙ ap (λ (a : ℤ). T (not_past (mirrored (variable v)) a (turn bound v))) (sym (mirrored_start (variable v)))

    before_iff : (v : ℕ) → T (not (not_past (variable v) (θ v) (bound v))) ≡ T (not (not_past (mirrored (variable v)) (turn θ v) (turn bound v)))
    before_iff v = ap (λ (b : Bool). T (not b)) (sym (mirrored_order (variable v) (θ v) (bound v)))

    pub unfounded_mirror : Unfounded 𝒮 θ dom bound ↔ Unfounded (mirror 𝒮) (turn θ) dom (turn bound)
    unfounded_mirror = (
      λ u. record {
        some = u.some;
        are = λ v t. subst T (sym (mirrored_founded (variable v))) (u.are v t);
        from_start = λ v t. record { le = subst (λ A. A) (start_iff v) (u.from_start v t).le };
        before = λ v t. record { lt = subst (λ A. A) (before_iff v) (u.before v t).lt };
        rules = λ r i t. subst (λ A. A) (sym (set_met_iff r)) (u.rules r i t);
      },
      λ u. record {
        some = u.some;
        are = λ v t. subst T (mirrored_founded (variable v)) (u.are v t);
        from_start = λ v t. record { le = subst (λ A. A) (sym (start_iff v)) (u.from_start v t).le };
        before = λ v t. record { lt = subst (λ A. A) (sym (before_iff v)) (u.before v t).lt };
        rules = λ r i t. subst (λ A. A) (set_met_iff r) (u.rules r i t);
      },
    )

-- a stable assignment, by the modified program
pub stable_mirror : (P : Program) {θ : Valuation} → Stable P θ ↔ (Meets P θ × Least (mirror (system P)) (turned_all (system P) θ) (turned_all (system P) θ))
stable_mirror P {θ} = (
  λ s. (s.meets, (least_mirror (system P)).0 s.least),
  λ e. record { meets = e.0; least = (least_mirror (system P)).1 e.1 },
)
