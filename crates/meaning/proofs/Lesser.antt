-- The lesser of two valuations, by each variable's order: it is one of the two there, so it is the last that is at or before both.
use Rattle.std.specs.Prelude.{Option, Some, None}
use mathlib.Core.Bool.{cond}
use Prim.Native.Nat.{ℕ}
use lib.IntN.{ℤ}
use Rattle.program.specs.Readings.{Valuation}
use Rattle.program.specs.Variables.{not_past}
use Rattle.program.proofs.Tests.{cases}
use Rattle.meaning.specs.Founded.{System, AtOrBefore, GivenNoMore}
use Rattle.meaning.proofs.Laws.{at_refl, before_at}

module _ (𝒮 : System) (m m' : Valuation) where
  open 𝒮 use {variable}

  abbrev pub lesser : Valuation
  lesser v = cond (not_past (variable v) (m v) (m' v)) (m v) (m' v)

  pub lesser_left : (v : ℕ) → AtOrBefore 𝒮 v (lesser v) (m v)
  lesser_left v = cases (not_past (variable v) (m v) (m' v)) (λ b. AtOrBefore 𝒮 v (cond b (m v) (m' v)) (m v)) (λ t. at_refl v (m v))
      (λ t. before_at (record { lt = t }))

  pub lesser_right : (v : ℕ) → AtOrBefore 𝒮 v (lesser v) (m' v)
  lesser_right v = cases (not_past (variable v) (m v) (m' v)) (λ b. AtOrBefore 𝒮 v (cond b (m v) (m' v)) (m' v)) (λ t. record { le = t })
      (λ t. at_refl v (m' v))

  pub lesser_of : (v : ℕ) (a : ℤ) → AtOrBefore 𝒮 v a (m v) → AtOrBefore 𝒮 v a (m' v) → AtOrBefore 𝒮 v a (lesser v)
  lesser_of v a h k = cases (not_past (variable v) (m v) (m' v)) (λ b. AtOrBefore 𝒮 v a (cond b (m v) (m' v))) (λ t. h) (λ t. k)

  pub lesser_given : (v : ℕ) (g : Option ℤ) → GivenNoMore 𝒮 v g (m v) → GivenNoMore 𝒮 v g (m' v) → GivenNoMore 𝒮 v g (lesser v)
  lesser_given v None h k = tt
  lesser_given v (Some a) h k = (lesser_of v a (record { le = h }) (record { le = k })).le
