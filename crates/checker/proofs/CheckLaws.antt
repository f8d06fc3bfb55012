-- The call check, from a file that was accepted.
use Rattle.std.specs.Prelude.{Some, None}
use Prim.Native.Nat.{ℕ, ◌*◌, ◌≤◌}
use mathlib.Core.Path.{◌≡◌, subst}
use mathlib.Core.List.{List}
use native.Mathlib.Omega.{arith}
use lib.IntN.{ℤ}
use lib.ListN.{length}
use Rattle.program.specs.Program.{Program, variables_at}
use Rattle.program.specs.Reading.{AcceptedAs, Accepts}
use Rattle.program.specs.declared.Counts.{Counts}
use Rattle.program.proofs.Promises.{accepts_promises}
use Rattle.meaning.specs.Founded.{Within}
use Rattle.meaning.specs.Reduct.{system}
use Rattle.meaning.specs.Stable.{assigned}
use Rattle.reduct.specs.Filling.{OutsideIs}
use Rattle.reader.proofs.Published.{reads_accepts, variables_are}
use Rattle.calls.proofs.Turned.{called}
use Rattle.reduct.proofs.AssignedLaws.{right_range, in_ranges}
use Rattle.reduct.proofs.Ranges.{first_outside}
use Rattle.meaning.proofs.InRanges.{within_small}
use Rattle.verdict.specs.Checks.{Answer, range, Judged, outside, check_bytes, Checks, judged}
use Rattle.program.specs.Readings.{Valuation, valued}
use Rattle.program.specs.Evaluable.{Small}

module _ (s : List ℕ) (k : Counts) (r : AcceptedAs s k) where
  pub small_in : (θ : List ℤ) → ((P : Program) → Accepts s P → Within (system P) (valued θ)) → Small θ
  small_in θ w = within_small (accepts_promises (reads_accepts r).accepts) θ (w (reads_accepts r).meant (reads_accepts r).accepts)

  -- an assignment of the right length, and a report with room
  module _ (a b : List ℕ) (e : length a ≡ 2 * k.variables) (h : check_bytes * k.variables ≤ length b) (θ : Valuation) (p : θ ≡ assigned a) where
    enough : 2 * k.variables ≤ length b
    enough = omega arith

    pub out_of_range : (v : ℕ) → OutsideIs (variables_at s k.variables) θ k.variables (Some v) → Checks s a b (range v) b
    out_of_range v o =
        let x = reads_accepts r in
        judged (called s k r a b check_bytes e h) (outside (first_outside x.meant s k.variables (assigned a) (variables_are r x.accepts) (rw p at o)))

    pub all_within : OutsideIs (variables_at s k.variables) θ k.variables None → (P : Program) → Accepts s P → Within (system P) θ
    all_within o = in_ranges s k r a e (right_range s k r a θ p o) θ p

    pub checked : {x : Answer} {b' : List ℕ} → ((P : Program) → Accepts s P → Judged P θ b x b') → Checks s a b x b'
    checked {x} {b'} j =
        judged (called s k r a b check_bytes e h)
        (subst (λ (f : Valuation). Judged (reads_accepts r).meant f b x b') p (j (reads_accepts r).meant (reads_accepts r).accepts))
