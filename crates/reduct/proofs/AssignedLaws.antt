-- An assignment of an accepted file that lies in its ranges.
use Rattle.std.specs.Prelude.{None}
use Prim.Native.Nat.{ℕ, ◌*◌, ◌≤◌}
use mathlib.Core.Path.{◌≡◌, sym, ap, ◌∙◌}
use mathlib.Core.List.{List}
use native.Mathlib.Omega.{arith}
use lib.IntN.{pos}
use lib.ListN.{length}
use Rattle.program.specs.Program.{Program, variables_at}
use Rattle.program.specs.Reading.{AcceptedAs, Accepts}
use Rattle.program.specs.declared.Counts.{Counts}
use Rattle.reader.proofs.Published.{counts_of_is, variables_are}
use Rattle.meaning.specs.Founded.{Within}
use Rattle.meaning.specs.Reduct.{system}
use Rattle.meaning.specs.Stable.{assigned}
use Rattle.meaning.specs.LeastCall.{AllInside}
use Rattle.meaning.proofs.InRanges.{assigned_within, assigned_past}
use Rattle.reduct.specs.Filling.{OutsideIs}
use Rattle.reduct.proofs.Ranges.{all_inside}
use Rattle.program.specs.Readings.{Valuation}

module _ (s : List ℕ) (k : Counts) (r : AcceptedAs s k) (a : List ℕ) where
  pub right_range : (θ : Valuation) → θ ≡ assigned a → OutsideIs (variables_at s k.variables) θ k.variables None
      → (P : Program) → Accepts s P → AllInside P (assigned a)
  right_range θ p o P x = all_inside P s k.variables (assigned a) (variables_are r x) (rw p at o)

  module _ (e : length a ≡ 2 * k.variables) (inside : (P : Program) → Accepts s P → AllInside P (assigned a)) (θ : Valuation) (p : θ ≡ assigned a) where
    pub in_ranges : (P : Program) → Accepts s P → Within (system P) θ
    in_ranges P x = rw p (assigned_within P a (let q = (counts_of_is r x).variables_are in omega arith) (inside P x))

    pub zero_past : (m : Valuation) → ((v : ℕ) → m v ≡ pos 0) → (v : ℕ) → k.variables ≤ v → m v ≡ θ v
    zero_past m z v l = z v ∙ sym (ap (λ (f : Valuation). f v) p ∙ assigned_past a v (omega arith))

-- values that agree everywhere are one valuation
pub one_valuation : (m m' : Valuation) → ((v : ℕ) → m v ≡ m' v) → m ≡ m'
one_valuation m m' e = λ i v. e v i
