-- Small systems, and wrong statements of targets, each refuted by one of them.
use Rattle.std.specs.Prelude.{Option, Some}
use Prim.Native.Nat.{ℕ, zero, suc, ◌+◌, ◌*◌, ◌/◌, ◌≤◌}
use mathlib.Core.Path.{◌≡◌, refl}
use mathlib.Core.Logic.{◌⊎◌, inl, inr}
use native.Mathlib.Omega.{arith}
use native.Mathlib.Nat.{mul-le-mul}
use lib.Dec.{T}
use lib.IntN.{ℤ, pos, negsuc, nat_abs, ◌+ℤ◌}
use lib.Signed.{◌≤ℤ◌, le_z_yes}
use Rattle.format.proofs.Int.{int, sum_is}
use Rattle.program.specs.Variables.{ahead, in_range}
use Rattle.program.specs.Readings.{Valuation}
use Rattle.program.specs.declared.Variable.{Variable}
use Rattle.program.proofs.Examples.{computes}
use Rattle.program.proofs.Variables.{low_in_is, high_in_is, start_first}
use Rattle.meaning.specs.Founded.{System, AtOrBefore, Within, Model, Floor}
use Rattle.meaning.proofs.Theory.{Progress}
use Rattle.steady.specs.Short.{ShortBy}
use Rattle.targets.specs.Targets.{AllShort, From, Drawn, Justified}
use Rattle.targets.proofs.TargetLaws.{justified_start, target_floor}

-- every variable is founded, from 0 to 10
abbrev ranged : Variable
ranged = record { kind = 1; low = pos 0; high = pos 10 }

abbrev everywhere : ℤ → Valuation
everywhere a v = a

-- a rule for each variable
abbrev system : (ℕ → Valuation → Option ℤ) → System
system gives = record { variable = λ v. ranged; Rule = ℕ; In = λ r. Unit {0}; head = λ r. r; occurs = λ r v d. ⊥; gives = λ r M θ. gives r M }

module _ (gives : ℕ → Valuation → Option ℤ) where
  within : (a : ℤ) → T (in_range ranged a) → Within (system gives) (everywhere a)
  within a t = record { inside = λ v. t }

  from_zero : (a : ℤ) → T (in_range ranged a) → From (system gives) (everywhere (pos 0)) (everywhere (pos 0)) (everywhere a)
  unfolding computes
  from_zero a t = record { standard = λ v n. absurd n; within = within a t; after = λ v. record { le = start_first ranged a t } }

  -- at 0 nothing is passed over
  start : Progress (system gives) (everywhere (pos 0)) (everywhere (pos 0))
  unfolding computes
  start = record {
    standard = λ v n. refl;
    within = within (pos 0) tt;
    floor = record { under = λ M k v. record { le = start_first ranged (M v) (k.within.inside v) } };
  }

  -- a model is at most 10 steps short of what lies in the ranges
  module _ (stride : ℕ → ℕ) (one : (v : ℕ) → 1 ≤ stride v) where
    ten_short : (v : ℕ) (a b : ℤ) → a ≤ℤ pos 10 → T (in_range ranged b) → ShortBy (10 * stride v) ranged a b
    unfolding computes ahead
    ten_short v a b l t =
        let h = low_in_is ranged b t in
        omega (int, l, h, sum_is b (pos (10 * stride v)), mul-le-mul {n₁ = 10} {m₁ = 1} {n₂ = 10} {m₂ = stride v} (omega arith) (one v))

    all_ten : (A : Valuation) → ((v : ℕ) → A v ≤ℤ pos 10) → (M : Valuation) → Model (system gives) (everywhere (pos 0)) M → AllShort (system gives) stride 10 M A
    all_ten A l M k = record { by = λ v. ten_short v (A v) (M v) (l v) (k.within.inside v) }

-- ---- a circle that gains nothing

abbrev partner : ℕ → ℕ
partner zero = 1
partner (suc zero) = 0
partner (suc (suc v)) = suc (suc v)

-- x0 ≥ x1 and x1 ≥ x0
abbrev circle : ℕ → Valuation → Option ℤ
circle r M = Some (M (partner r))

circle_at_zero : Model (system circle) (everywhere (pos 0)) (everywhere (pos 0))
unfolding computes
circle_at_zero = record { standard = λ v n. refl; within = within circle (pos 0) tt; rules = λ r i. tt }

-- whatever the strides, no targets but 0 are shown
pub circle_not_leapt : (stride : ℕ → ℕ) → ((v : ℕ) → 1 ≤ stride v) → (T' A₀ : Valuation) → Drawn (system circle) stride (everywhere (pos 0)) T' A₀
    → Justified (system circle) stride (everywhere (pos 0)) (everywhere (pos 0)) A₀ T' → (v : ℕ) → AtOrBefore (system circle) v (T' v) (pos 0)
unfolding computes ahead
circle_not_leapt stride one T' A₀ d j v =
    (target_floor (start circle) d j 10 (all_ten circle stride one A₀ (λ u. few u (d.drawn u)))).under (everywhere (pos 0)) circle_at_zero v
  where
    few : (u : ℕ) → (A₀ u ≡ pos 0) ⊎ (ahead ranged (T' u) ≡ (ahead ranged (A₀ u) +ℤ pos (stride u))) → A₀ u ≤ℤ pos 10
    few u (inl q) = rw q (le_z_yes tt)
    few u (inr q) = let h = high_in_is ranged (T' u) (j.from.within.inside u) in omega (int, q, h, sum_is (A₀ u) (pos (stride u)))

-- ---- not drawn back, or not by the stride

abbrev Undrawn : Type 1
Undrawn = (𝒮 : System) (stride : ℕ → ℕ) (θ m T' A₀ : Valuation) → Progress 𝒮 θ m → Justified 𝒮 stride θ m A₀ T' → (N : ℕ)
    → ((M : Valuation) → Model 𝒮 θ M → AllShort 𝒮 stride N M A₀) → Floor 𝒮 θ T'

-- the circle shows any target from itself
pub not_undrawn : Undrawn → ⊥
unfolding computes
not_undrawn law =
    ((law (system circle) (λ v. 1) (everywhere (pos 0)) (everywhere (pos 0)) (everywhere (pos 5)) (everywhere (pos 5)) (start circle)
    (justified_start (start circle) (from_zero circle (pos 5) tt)) 10 (all_ten circle (λ v. 1) (λ v. omega arith) (everywhere (pos 5)) (λ v. le_z_yes tt))
    ).under (everywhere (pos 0)) circle_at_zero 0).le

-- strides of 2, and targets that are drawn back by 1
abbrev DrawnByOne : Type 1
DrawnByOne = (𝒮 : System) (θ m T' A₀ : Valuation) → Progress 𝒮 θ m → Drawn 𝒮 (λ v. 1) m T' A₀ → Justified 𝒮 (λ v. 2) θ m A₀ T' → (N : ℕ)
    → ((M : Valuation) → Model 𝒮 θ M → AllShort 𝒮 (λ v. 2) N M A₀) → Floor 𝒮 θ T'

-- the next even number
abbrev even : ℕ → Valuation → Option ℤ
even r M = Some (pos (2 * ((nat_abs (M r) + 1) / 2)))

even_at_zero : Model (system even) (everywhere (pos 0)) (everywhere (pos 0))
unfolding computes
even_at_zero = record { standard = λ v n. refl; within = within even (pos 0) tt; rules = λ r i. tt }

-- where every model is even, one that lacks an odd number of steps of 4 lacks no more strides of 2 than of 3
even_justified : Justified (system even) (λ v. 2) (everywhere (pos 0)) (everywhere (pos 0)) (everywhere (pos 3)) (everywhere (pos 4))
unfolding computes ahead
even_justified = record {
  from = from_zero even (pos 4) tt;
  short = λ M k n s. record { by = λ v. go n (M v) (low_in_is ranged (M v) (k.within.inside v)) (le_z_yes (k.rules v tt)) (s.by v) };
}
  where
    go : (n : ℕ) (a : ℤ) → pos 0 ≤ℤ a → pos (2 * ((nat_abs a + 1) / 2)) ≤ℤ a → pos 3 ≤ℤ (a +ℤ pos (n * 2)) → pos 4 ≤ℤ (a +ℤ pos (n * 2))
    go n (pos a) l e h = omega int
    go n (negsuc a) l e h = absurd l.le

pub not_drawn_by_one : DrawnByOne → ⊥
unfolding computes ahead
not_drawn_by_one law =
    ((law (system even) (everywhere (pos 0)) (everywhere (pos 0)) (everywhere (pos 4)) (everywhere (pos 3)) (start even) (record { drawn = λ v. inr refl }) even_justified 10
    (all_ten even (λ v. 2) (λ v. omega arith) (everywhere (pos 3)) (λ v. le_z_yes tt))
    ).under (everywhere (pos 0)) even_at_zero 0).le
