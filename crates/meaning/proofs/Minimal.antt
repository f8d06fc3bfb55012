-- The least model is 003's minimal solution, in any system; and 000's, in a system with its laws, since the lesser of two models is a model.
use Prim.Native.Nat.{ℕ}
use mathlib.Core.Path.{◌≡◌, subst}
use mathlib.Core.Logic.{◌↔◌}
use mathlib.Core.List.{List}
use mathlib.Core.Bool.{cond}
use lib.Dec.{T_not}
use Rattle.program.specs.Program.{Program}
use Rattle.program.specs.Reading.{Accepts}
use Rattle.program.proofs.Promises.{accepts_promises}
use Rattle.meaning.specs.Founded.{System, AtOrBefore, Within, Model, Least, Minimal, MinimalEverywhere}
use Rattle.meaning.proofs.Laws.{Laws, at_antisym, at_trans, from_start, to_far_is, within_ends}
use Rattle.meaning.proofs.Lesser.{lesser, lesser_left, lesser_right, lesser_of, lesser_given}
use Rattle.meaning.proofs.Theory.{Earlier, met_before}
use Rattle.meaning.proofs.Monotone.{laws}
use Rattle.meaning.specs.Reduct.{system}
use Rattle.meaning.specs.Stable.{Meets, Stable}
use Rattle.program.specs.Readings.{Valuation}
use Rattle.program.proofs.Tests.{cases}
use Rattle.program.specs.Variables.{not_past, start}

pub least_minimal : {𝒮 : System} {θ m : Valuation} → Least 𝒮 θ m → Minimal 𝒮 θ m
least_minimal {𝒮} {θ} {m} l = record {
  model = l.model;
  none_before = λ m' k v s. T_not (not_past (𝒮.variable v) (m v) (m' v)) s.lt (l.floor.under m' k v).le;
}

pub minimal_least : {𝒮 : System} {θ m : Valuation} → Minimal 𝒮 θ m → Least 𝒮 θ m
minimal_least {𝒮} {θ} {m} l = record {
  model = l.model;
  floor = record {
    under = λ m' k v. cases (not_past (𝒮.variable v) (m v) (m' v)) (λ b. AtOrBefore 𝒮 v (m v) (m' v)) (λ t. record { le = t })
        (λ n. absurd (l.none_before m' k v (record { lt = n })));
  };
}

-- ---- 000's

pub least_everywhere : {𝒮 : System} {θ m : Valuation} → Least 𝒮 θ m → MinimalEverywhere 𝒮 θ m
least_everywhere l = record { model = l.model; no_other = λ m' k under v. at_antisym (under v) (l.floor.under m' k v) }

module _ {𝒮 : System} (L : Laws 𝒮) {θ : Valuation} (wθ : Within 𝒮 θ) where
  open 𝒮 use {variable, head, gives}

  pub lesser_model : {m m' : Valuation} → Model 𝒮 θ m → Model 𝒮 θ m' → Model 𝒮 θ (lesser 𝒮 m m')
  lesser_model {m} {m'} k l = record {
    standard = λ v n. cases (not_past (variable v) (m v) (m' v)) (λ b. cond b (m v) (m' v) ≡ θ v) (λ t. k.standard v n) (λ t. l.standard v n);
    within = inside;
    rules = λ r i. lesser_given 𝒮 m m' (head r) (gives r (lesser 𝒮 m m') θ) (met_before L left r i (m (head r)) (k.rules r i))
        (met_before L right r i (m' (head r)) (l.rules r i));
  }
    where
      inside : Within 𝒮 (lesser 𝒮 m m')
      inside = within_ends (λ v. lesser_of 𝒮 m m' v (start (variable v)) (from_start k.within v) (from_start l.within v))
          (λ v. at_trans (lesser_left 𝒮 m m' v) (to_far_is k.within v))

      left : Earlier 𝒮 θ (lesser 𝒮 m m') m
      left = record { assigned = wθ; earlier = inside; later = k.within; under = λ x f. lesser_left 𝒮 m m' x }

      right : Earlier 𝒮 θ (lesser 𝒮 m m') m'
      right = record { assigned = wθ; earlier = inside; later = l.within; under = λ x f. lesser_right 𝒮 m m' x }

  pub everywhere_least : {m : Valuation} → MinimalEverywhere 𝒮 θ m → Least 𝒮 θ m
  everywhere_least {m} e = record {
    model = e.model;
    floor = record {
      under = λ m' k v.
          let same = e.no_other (lesser 𝒮 m m') (lesser_model e.model k) (lesser_left 𝒮 m m') v in
          subst (λ a. AtOrBefore 𝒮 v a (m' v)) same (lesser_right 𝒮 m m' v);
    };
  }

-- ---- a stable assignment of an accepted file, in the words of each paper

module _ {s : List ℕ} {P : Program} (accepts : Accepts s P) {θ : Valuation} where
  pub stable_000 : Stable P θ ↔ (Meets P θ × MinimalEverywhere (system P) θ θ)
  stable_000 = (
    λ st. (st.meets, least_everywhere st.least),
    λ e. record { meets = e.0; least = everywhere_least (laws (accepts_promises accepts)) e.0.ranges e.1 },
  )

  pub stable_003 : Stable P θ ↔ (Meets P θ × Minimal (system P) θ θ)
  stable_003 = (λ st. (st.meets, least_minimal st.least), λ e. record { meets = e.0; least = minimal_least e.1 })
