-- A stable assignment inside the ranges keeps its founded variables within the bounds: its own single ranges are narrower, and it is their bounds. So
-- drawing in each founded far end to its bound loses none.
use Prim.Native.Nat.{ℕ, ◌<◌}
use mathlib.Core.Path.{refl, subst}
use mathlib.Core.Logic.{◌↔◌}
use mathlib.Core.Bool.{Bool, true, false, cond, ◌&&◌, ◌||◌}
use lib.Dec.{T, eqb}
use lib.IntN.{ℤ}
use lib.ListN.{length}
use lib.Signed.{le_z, lt_z, le_z_yes, ◌≤ℤ◌}
use Rattle.format.proofs.Int.{int}
use Rattle.program.specs.Program.{Program, variable_in}
use Rattle.program.specs.Variables.{is_founded, from_above, swaps, not_past}
use Rattle.program.specs.Readings.{Valuation}
use Rattle.program.specs.declared.Variable.{Variable}
use Rattle.program.proofs.Promises.{Promises}
use Rattle.program.proofs.Tests.{and_left, and_right, and_both}
use Rattle.meaning.specs.Founded.{AtOrBefore}
use Rattle.meaning.specs.Reduct.{system}
use Rattle.meaning.specs.Stable.{Stable}
use Rattle.meaning.proofs.Laws.{to_far_is}
use Rattle.lent.specs.Ranges.{InsideRanges, drawn_low, drawn_high}
use Rattle.lent.specs.Lent.{Bounds}
use Rattle.lent.specs.Sentences.{Founded}
use Rattle.lent.proofs.Fits.{Fitting, single_fitting, lent_far, lent_before}
use Rattle.lent.proofs.Narrowing.{narrower_bounds}
use Rattle.lent.proofs.Single.{single_bounds}

module _ {P : Program} {low high : Valuation} (f : Fitting P low high) {m : Valuation} (bounds : Bounds P low high m) where
  -- no bound is past its range's far end
  pub bound_end : (v : ℕ) → AtOrBefore (system P) v (m v) (swaps (variable_in P.variables v) (high v) (low v))
  bound_end v = subst (λ a. AtOrBefore (system P) v (m v) a) (lent_far (variable_in P.variables v) (low v) (high v)) (lent_before f (to_far_is bounds.model.within v))

  pub stable_inside : Promises P → {θ : Valuation} → Stable P θ → InsideRanges P low high θ → (v : ℕ) → Founded P v → AtOrBefore (system P) v (θ v) (m v)
  stable_inside p s i =
      let own = single_fitting P s.meets.ranges in
      narrower_bounds p f own i bounds (single_bounds p own (λ v. refl) (λ v. refl) s.meets.rules s.least)

-- ---- the far ends drawn in

-- a range from low to high, its far end drawn in to b
module _ (x : Variable) (low high a b : ℤ) where
  abbrev inside : Type 0
  inside = T (le_z low a && le_z a high)

  abbrev drawn : Type 0
  drawn = T (le_z (swaps x low b) a && le_z a (cond (is_founded x) (swaps x b high) high))

  draw : inside → (T (is_founded x) → T (not_past x a b)) → drawn
  unfolding swaps not_past
  draw i = go (eqb x.kind 1) (from_above x)
    where
      go : (one two : Bool) → (T (one || two) → T (cond two (le_z b a) (le_z a b))) → T (le_z (cond two b low) a && le_z a (cond (one || two) (cond two high b) high))
      go true true h = and_both (le_z b a) (le_z a high) (h tt) (and_right (le_z low a) (le_z a high) i)
      go true false h = and_both (le_z low a) (le_z a b) (and_left (le_z low a) (le_z a high) i) (h tt)
      go false true h = and_both (le_z b a) (le_z a high) (h tt) (and_right (le_z low a) (le_z a high) i)
      go false false h = i

  undraw : drawn → (T (is_founded x) → T (not_past x b (swaps x high low))) → inside
  unfolding swaps not_past
  undraw = go (eqb x.kind 1) (from_above x)
    where
      from : T (le_z b a && le_z a high) → T (le_z low b) → inside
      from d h =
          let k : b ≤ℤ a = le_z_yes (and_left (le_z b a) (le_z a high) d) in
          and_both (le_z low a) (le_z a high) (omega int) (and_right (le_z b a) (le_z a high) d)

      to : T (le_z low a && le_z a b) → T (le_z b high) → inside
      to d h =
          let k : a ≤ℤ b = le_z_yes (and_right (le_z low a) (le_z a b) d) in
          and_both (le_z low a) (le_z a high) (and_left (le_z low a) (le_z a b) d) (omega int)

      go : (one two : Bool) → T (le_z (cond two b low) a && le_z a (cond (one || two) (cond two high b) high))
          → (T (one || two) → T (cond two (le_z (cond two low high) b) (le_z b (cond two low high)))) → inside
      go true true d h = from d (h tt)
      go true false d h = to d (h tt)
      go false true d h = from d (h tt)
      go false false d h = d

module _ (P : Program) (low high b θ : Valuation) where
  -- where b lies in the ranges, and the assignment within b
  pub drawn_same : ((v : ℕ) → Founded P v → AtOrBefore (system P) v (b v) (swaps (variable_in P.variables v) (high v) (low v)))
      → (InsideRanges P low high θ → (v : ℕ) → Founded P v → AtOrBefore (system P) v (θ v) (b v))
      → InsideRanges P low high θ ↔ InsideRanges P (drawn_low P b low) (drawn_high P b high) θ
  drawn_same end under = (
    λ i v h. draw (variable_in P.variables v) (low v) (high v) (θ v) (b v) (i v h) (λ t. (under i v t).le),
    λ d v h. undraw (variable_in P.variables v) (low v) (high v) (θ v) (b v) (d v h) (λ t. (end v t).le),
  )

-- nothing lies in an empty range
pub none_inside : (P : Program) (low high θ : Valuation) (v : ℕ) → v < length P.variables → T (lt_z (high v) (low v)) → InsideRanges P low high θ → ⊥
none_inside P low high θ v h e i =
    let a : low v ≤ℤ θ v = le_z_yes (and_left (le_z (low v) (θ v)) (le_z (θ v) (high v)) (i v h)) in
    let b : θ v ≤ℤ high v = le_z_yes (and_right (le_z (low v) (θ v)) (le_z (θ v) (high v)) (i v h)) in
    omega int
