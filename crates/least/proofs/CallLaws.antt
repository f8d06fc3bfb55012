-- The call least, from a file that was accepted.
use Rattle.std.specs.Prelude.{Some}
use Prim.Native.Nat.{ℕ, ◌*◌, ◌<◌, ◌≤◌}
use mathlib.Core.Path.{◌≡◌, sym, ap, ◌∙◌, subst}
use mathlib.Core.List.{List, ◌++◌}
use lib.IntN.{ℤ, nat_abs}
use lib.ListN.{length, drop}
use Rattle.format.specs.Limits.{max_number}
use Rattle.program.specs.Program.{Program, variables_at}
use Rattle.program.specs.Reading.{AcceptedAs, Accepts}
use Rattle.program.specs.declared.Counts.{Counts}
use Rattle.program.proofs.Promises.{accepts_promises}
use Rattle.reader.proofs.Published.{reads_accepts, variables_are}
use Rattle.meaning.specs.Founded.{Model, Least}
use Rattle.meaning.specs.Reduct.{system}
use Rattle.meaning.specs.Stable.{assigned}
use Rattle.meaning.specs.LeastCall.{least_bytes, LeastCall, range, none, found, outside, no_model, least_model, AllInside, written}
use Rattle.meaning.proofs.InRanges.{within_small}
use Rattle.calls.proofs.Turned.{called}
use Rattle.reduct.specs.Filling.{OutsideIs}
use Rattle.reduct.proofs.Ranges.{first_outside}
use Rattle.program.specs.Readings.{Valuation, valued}

module _ (s : List ℕ) (k : Counts) (r : AcceptedAs s k) where
  module _ (a b : List ℕ) (e : length a ≡ 2 * k.variables) (h : 2 * k.variables ≤ length b) where
    pub wrong_range : (v : ℕ) (θ : Valuation) → θ ≡ assigned a → OutsideIs (variables_at s k.variables) θ k.variables (Some v) → LeastCall s a b (range v) b
    wrong_range v θ p o =
        let x = reads_accepts r in
        outside (called s k r a b least_bytes e h) (first_outside x.meant s k.variables (assigned a) (variables_are r x.accepts) (rw p at o))

    module _ (inside : (P : Program) → Accepts s P → AllInside P (assigned a)) (θ : Valuation) (p : θ ≡ assigned a) where
      pub model_small : (m : List ℤ) → Least (system (reads_accepts r).meant) θ (valued m) → (v : ℕ) → v < k.variables → nat_abs (valued m v) ≤ max_number
      model_small m x v l = within_small (accepts_promises (reads_accepts r).accepts) m x.model.within v

      pub a_model : (m : Valuation) (b' : List ℕ) → Least (system (reads_accepts r).meant) θ m → b' ≡ written m k.variables ++ drop (2 * k.variables) b
          → LeastCall s a b found b'
      a_model m b' x q =
          subst (LeastCall s a b found) (sym (q ∙ ap (λ (n : ℕ). written m n ++ drop (2 * n) b) (sym (reads_accepts r).variables_are)))
          (least_model (called s k r a b least_bytes e h) (inside (reads_accepts r).meant (reads_accepts r).accepts) (rw p at x))

      pub a_none : ((m : Valuation) → Model (system (reads_accepts r).meant) θ m → ⊥) → LeastCall s a b none b
      a_none x = no_model (called s k r a b least_bytes e h) (inside (reads_accepts r).meant (reads_accepts r).accepts) (rw p at x)
