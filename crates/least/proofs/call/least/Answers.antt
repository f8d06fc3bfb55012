-- A call that is turned down answers the refusal and writes nothing; any other is solved.
use Rattle.std.proofs.lemmas.Result.{err_from_is_err_and}
use Rattle.std.specs.Prelude.{Result}
use mathlib.Core.Path.{refl, subst}
use Rattle.meaning.specs.Calls.{Opened}
use Rattle.meaning.specs.LeastCall.{least_bytes, turned_down}
use Rattle.least.proofs.call.least.Goals as goal
use Rattle.program.specs.declared.Counts.{Counts}
use Rattle.meaning.specs.declared.Denied.{Denied}

pub solve_in_ranges-requires : goal.solve_in_ranges-requires
solve_in_ranges-requires c = let o = subst (λ (q : Result Counts Denied). Opened least_bytes c.args.file.now c.args.assignment.now c.args.buffer.now q)
    c.in_ok-counts.was (c.open.ensures _ refl) in
    record { accepted_as = o.0; assignment_len = (o.1, o.2) }

pub returns-in_err-counts : goal.returns-in_err-counts
returns-in_err-counts c = let p = err_from_is_err_and c.from_residual.result c.from_residual.ensures.1 in rw (p.1, p.2) (turned_down (subst (λ (q : Result Counts Denied). Opened least_bytes c.args.file.now c.args.assignment.now c.args.buffer.now q) c.in_err-counts.was
    (c.open.ensures _ refl)))
