-- The call bounds has one answer for every file, ranges and lent buffer, leaves the buffer in one way, and keeps the first demand.
use Prim.Native.Nat.{ℕ, ◌*◌, ◌<◌, ◌≤◌}
use mathlib.Core.Path.{◌≡◌, refl, subst}
use mathlib.Core.Logic.{◌⊎◌, inl, inr}
use mathlib.Core.Bool.{true}
use mathlib.Core.List.{List, ◌++◌}
use native.Mathlib.Omega.{arith}
use lib.ListN.{length, drop, length-append, length-drop}
use lib.Seq.{drop_at}
use Rattle.program.specs.Program.{Program, variable_in}
use Rattle.program.specs.Reading.{Accepts}
use Rattle.program.specs.Readings.{Valuation}
use Rattle.program.proofs.Conditions.{never}
use Rattle.program.proofs.Promises.{accepts_promises}
use Rattle.program.proofs.Tests.{First, first_or_all, is_it, not_it}
use Rattle.program.proofs.Unique.{accepts_unique}
use Rattle.meaning.specs.Calls.{Refuses, Called}
use Rattle.meaning.specs.LeastCall.{written, least_bytes}
use Rattle.meaning.proofs.Denials.{Every, Fixed, Told, under_fixed, under_told, exact_told, room_told, exact, room, is_exact, has_room, same_refusal, refused_or_called, Begun, begun}
use Rattle.meaning.proofs.Determined.{same_bytes}
use Rattle.meaning.proofs.Written.{written_length}
use Rattle.lent.specs.Ranges.{low_in, high_in, fits, AllFit}
use Rattle.lent.specs.Lent.{lent}
use Rattle.lent.specs.BoundsCall.{Answer, refusal, bounded, range_bytes, SomeUnfit, turned, BoundsCall, turned_down, within_bounds}
use Rattle.lent.specs.BoundsDemands.{BoundsDemands}
use Rattle.lent.proofs.Fits.{Fitting, ranges_fitting}
use Rattle.lent.proofs.BoundsExist.{bounds_exist}

-- ---- refusal 20: some range does not fit, or all do

module _ (P : Program) (low high : Valuation) where
  pub unfit_or : SomeUnfit P low high ⊎ AllFit P low high
  unfit_or = go (first_or_all fit (λ v. is_it (fits (variable_in P.variables v) (low v) (high v))) (length P.variables))
    where
      fit : ℕ → Type 0
      fit v = fits (variable_in P.variables v) (low v) (high v) ≡ true

      go : ((v : ℕ) × (v < length P.variables) × First fit v) ⊎ AllFit P low high → SomeUnfit P low high ⊎ AllFit P low high
      go (inl f) = let v = f.0 in inl (record { variable = v; declared = f.1; unfit = not_it (fits (variable_in P.variables v) (low v) (high v)) f.2.0 })
      go (inr all) = inr all

  pub all_fit_is : AllFit P low high → SomeUnfit P low high → ⊥
  all_fit_is all u = never (all u.variable u.declared) u.unfit

  unfit_told : Dec (SomeUnfit P low high)
  unfit_told = go unfit_or
    where
      go : SomeUnfit P low high ⊎ AllFit P low high → Dec (SomeUnfit P low high)
      go (inl u) = yes u
      go (inr all) = no (all_fit_is all)

  pub fit_of : (SomeUnfit P low high → ⊥) → AllFit P low high
  fit_of n = go unfit_or
    where
      go : SomeUnfit P low high ⊎ AllFit P low high → AllFit P low high
      go (inl u) = absurd (n u)
      go (inr all) = all

-- ---- the call's refusals

module _ (g b : List ℕ) where
  pub turned_fixed : (P : Program) → Every Fixed (turned g b P)
  turned_fixed P = (under_fixed 14 _, (under_fixed 20 _, (under_fixed 15 _, tt)))

  pub turned_told : (P : Program) → Every Told (turned g b P)
  turned_told P = (exact_told range_bytes g P, (under_told 20 _ (unfit_told P (low_in g) (high_in g)), (room_told least_bytes b P, tt)))

  module _ {s : List ℕ} {P : Program} where
    -- what a call that is not turned down says of the ranges and the buffer
    pub called_long : Called (turned g b) s P → length g ≡ 4 * length P.variables
    called_long c = exact range_bytes g P c.passes.0

    pub called_fits : Called (turned g b) s P → AllFit P (low_in g) (high_in g)
    called_fits c = fit_of P (low_in g) (high_in g) (λ u. c.passes.1.0 0 (u, refl))

    pub called_room : Called (turned g b) s P → 2 * length P.variables ≤ length b
    called_room c = room least_bytes b P c.passes.1.1.0

    pub called_fitting : Called (turned g b) s P → Fitting P (low_in g) (high_in g)
    called_fitting c = ranges_fitting P g (called_long c) (called_fits c)

    -- and when it is none
    pub lent_called : Accepts s P → length g ≡ 4 * length P.variables → AllFit P (low_in g) (high_in g) → 2 * length P.variables ≤ length b → Called (turned g b) s P
    lent_called x e all h = record {
      accepts = x;
      passes = (is_exact range_bytes g P e, (λ at u. all_fit_is P (low_in g) (high_in g) all u.0, (has_room least_bytes b P h, tt)));
    }

-- ---- one answer

pub bounds_call_unique : {s g b : List ℕ} {r r' : Answer} {b₁ b₂ : List ℕ} → BoundsCall s g b r b₁ → BoundsCall s g b r' b₂ → (r ≡ r') × (b₁ ≡ b₂)
bounds_call_unique {g = g} {b} (turned_down p) (turned_down q) = let e = same_refusal (turned_fixed g b) p q in (cc, refl)
bounds_call_unique (turned_down p) (within_bounds y d) = absurd (refused_or_called p y)
bounds_call_unique (within_bounds x c) (turned_down q) = absurd (refused_or_called q x)
bounds_call_unique {g = g} {b} (within_bounds x c) (within_bounds y d) = (refl, same_bytes x.accepts y.accepts (λ P. lent P (low_in g) (high_in g)) b c d)

-- an answer, what the buffer then holds, and that they are the call's
abbrev pub Answers : List ℕ → List ℕ → List ℕ → Type 0
Answers s g b = (r : Answer) × (b' : List ℕ) × BoundsCall s g b r b'

pub bounds_call_total : (s g b : List ℕ) → Answers s g b
bounds_call_total s g b = go (begun (turned g b) (turned_told g b) s)
  where
    go : Begun (turned g b) s → Answers s g b
    go (inl r) = (_, _, turned_down r.2)
    go (inr c) = (_, _, within_bounds c.1 (bounds_exist (accepts_promises c.1.accepts) (called_fitting g b c.1)).1)

-- ---- the first demand

module _ {s g b : List ℕ} where
  refused_as : {n at : ℕ} {b' : List ℕ} → BoundsCall s g b (refusal n at) b' → Refuses (turned g b) s n at × (b' ≡ b)
  refused_as (turned_down p) = (p, refl)

  same_length : {r : Answer} {b' : List ℕ} → BoundsCall s g b r b' → length b' ≡ length b
  same_length (turned_down p) = refl
  same_length (within_bounds {P} {m} c d) =
      let n = length P.variables in
      omega (arith, length-append (written m n) (drop (2 * n) b), written_length m n, length-drop (2 * n) b, called_room g b c)

  same_rest : {P : Program} {b' : List ℕ} → BoundsCall s g b bounded b' → Accepts s P → drop (2 * length P.variables) b' ≡ drop (2 * length P.variables) b
  same_rest (within_bounds {P = Q} {m} c d) x =
      subst (λ R. drop (2 * length R.variables) (written m n ++ drop (2 * n) b) ≡ drop (2 * length R.variables) b) (accepts_unique c.accepts x)
      (drop_at (written m n) (drop (2 * n) b) (2 * n) (written_length m n))
    where
      n : ℕ
      n = length Q.variables

  pub bounds_demands : {r : Answer} {b' : List ℕ} → BoundsCall s g b r b' → BoundsDemands s g b r b'
  bounds_demands {r} {b'} c = record {
    turned_down = λ n at. (λ e. (down e).0, λ q. (bounds_call_unique c (turned_down q)).0);
    untouched = λ n at e. (down e).1;
    fits = same_length c;
    rest = λ e. same_rest (subst (λ x. BoundsCall s g b x b') e c);
  }
    where
      down : {n at : ℕ} → r ≡ refusal n at → Refuses (turned g b) s n at × (b' ≡ b)
      down e = refused_as (subst (λ x. BoundsCall s g b x b') e c)
