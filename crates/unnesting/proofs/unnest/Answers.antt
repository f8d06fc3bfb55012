use mathlib.Core.Path.{ap₂, sym}
use Prim.Native.Nat.{ℕ}
use native.Mathlib.Omega.{arith}
use Rattle.verdict.specs.Checks.{refusal}
use Rattle.entries.specs.Text.{answer_line}
use Rattle.text.proofs.OutputLaws.{appends_as}
use Rattle.renewing.proofs.RenewLaws.{lent_length}
use Rattle.unnesting.proofs.UnnestLaws.{unnested_refused, unnested_written}
use Rattle.unnesting.proofs.unnest.Goals as goal

pub slice_bounds-flatten-end-2 : goal.slice_bounds-flatten-end-2
slice_bounds-flatten-end-2 c = sym (lent_length _ c.args.output.now (omega (arith, c.requires)))

pub returns-in-Err : goal.returns-in-Err
returns-in-Err c = let e = ap₂ (λ (n at : ℕ). answer_line (refusal n at)) c.denial_number.ensures c.denial_place.ensures in
    unnested_refused c.args.input.now c.args.output.now c.requires (rw c.in-Err.is at c.flatten.ensures) (appends_as e c.put_refusal.ensures.appends) c.put_refusal.ensures.upper_bound

pub returns-in-Ok : goal.returns-in-Ok
returns-in-Ok c = unnested_written c.args.input.now c.args.output.now c.requires (rw c.in-Ok.is at c.flatten.ensures)
