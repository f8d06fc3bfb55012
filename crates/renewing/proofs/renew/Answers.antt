use mathlib.Core.Path.{ap₂, sym}
use Prim.Native.Nat.{ℕ}
use Rattle.verdict.specs.Checks.{refusal}
use Rattle.entries.specs.Text.{answer_line}
use Rattle.text.proofs.OutputLaws.{appends_as}
use Rattle.renewing.proofs.RenewLaws.{renewed_refused, renewed_written}
use lib.ListN.{length}
use lib.Seq.{length-take-le}
use borrow.Author.Rules.{rules}
use Rattle.renewing.proofs.renew.Goals as goal

pub slice_bounds-normalize-end-2 : goal.slice_bounds-normalize-end-2
slice_bounds-normalize-end-2 c = sym (length-take-le (length c.args.input.now) c.args.output.now c.requires.1)

pub returns-in-Err : goal.returns-in-Err
returns-in-Err c = let e = ap₂ (λ (n at : ℕ). answer_line (refusal n at)) c.denial_number.ensures c.denial_place.ensures in
    renewed_refused c.args.input.now c.args.output.now c.requires.1 c.requires.0 (rw c.in-Err.is at c.normalize.ensures) (appends_as e c.put_refusal.ensures.appends) c.put_refusal.ensures.upper_bound

pub returns-in-Ok : goal.returns-in-Ok
returns-in-Ok c = renewed_written c.args.input.now c.args.output.now c.requires.1 (rw c.in-Ok.is at c.normalize.ensures) (search rules)
