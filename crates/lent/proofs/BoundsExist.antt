-- The bounds of lent ranges always exist, and there is one of each.
use Prim.Native.Nat.{ℕ}
use mathlib.Core.Path.{◌≡◌}
use mathlib.Core.Logic.{inl, inr}
use Rattle.program.specs.Program.{Program}
use Rattle.program.specs.Readings.{Valuation}
use Rattle.program.proofs.Promises.{Promises}
use Rattle.meaning.proofs.Search.{Solvable, solvable_in}
use Rattle.meaning.proofs.Theory.{least_unique}
use Rattle.lent.specs.Lent.{lent, Bounds}
use Rattle.lent.proofs.Ends.{ended, ends_model}
use Rattle.lent.proofs.Fits.{Fitting, lent_narrows, low_within}
use Rattle.lent.proofs.LentLaws.{lent_laws}

pub bounds_exist : {P : Program} → Promises P → {low high : Valuation} → Fitting P low high → (m : Valuation) × Bounds P low high m
bounds_exist {P} p {low} {high} f = go (solvable_in p (lent_laws p f) (lent_narrows f) (low_within f))
  where
    go : Solvable P (lent P low high) low → (m : Valuation) × Bounds P low high m
    go (inl b) = b
    go (inr n) = absurd (n (ended P low high) (ends_model p f))

pub bounds_alike : (P : Program) (low high : Valuation) {m m' : Valuation} → Bounds P low high m → Bounds P low high m' → (v : ℕ) → m v ≡ m' v
bounds_alike P low high b c = least_unique b c
