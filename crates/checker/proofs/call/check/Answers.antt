-- A call that is turned down answers the refusal; of any other the next step says what `Checks` asks, and the demands follow from that.
use Rattle.std.proofs.lemmas.Result.{err_from_is_err_and}
use Rattle.std.specs.Prelude.{Result}
use mathlib.Core.Path.{refl, subst}
use Rattle.meaning.specs.Calls.{Opened}
use Rattle.verdict.specs.Checks.{check_bytes, turned_down}
use Rattle.verdict.proofs.Demanded.{checks_demands}
use Rattle.checker.proofs.call.check.Goals as goal
use Rattle.program.specs.declared.Counts.{Counts}
use Rattle.meaning.specs.declared.Denied.{Denied}

pub check_ranges-requires : goal.check_ranges-requires
check_ranges-requires c = let o = subst (λ (q : Result Counts Denied). Opened check_bytes c.args.file.now c.args.assignment.now c.args.report.now q)
    c.in_ok-counts.was (c.open.ensures _ refl) in
    record { accepted_as = o.0; assignment_len = (o.1, o.2) }

pub returns-in_err-counts : goal.returns-in_err-counts
returns-in_err-counts c = let o = subst (λ (q : Result Counts Denied). Opened check_bytes c.args.file.now c.args.assignment.now c.args.report.now q) c.in_err-counts.was
    (c.open.ensures _ refl) in
    let k = turned_down o in
    let p = err_from_is_err_and c.from_residual.result c.from_residual.ensures.1 in rw (p.1, p.2) (record { checks = k; demands = checks_demands k })

pub returns : goal.returns
returns c = record { checks = c.check_ranges.ensures; demands = checks_demands c.check_ranges.ensures }
