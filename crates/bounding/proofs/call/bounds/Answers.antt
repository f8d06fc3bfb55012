-- A refused file is turned down as it was read; an accepted one by its ranges and the buffer.
use Rattle.std.proofs.lemmas.Result.{err_from_is_err_and}
use Rattle.std.specs.Prelude.{Result}
use mathlib.Core.Path.{subst}
use Rattle.program.specs.Reading.{Reads, answer_of}
use Rattle.meaning.specs.Calls.{bad_file}
use Rattle.lent.specs.BoundsCall.{turned_down}
use Rattle.bounding.proofs.call.bounds.Goals as goal
use Rattle.program.specs.declared.Rejection.{Rejection}
use Rattle.program.specs.declared.Counts.{Counts}

pub bound_file-requires : goal.bound_file-requires
bound_file-requires c = subst (λ (q : Result Counts Rejection). Reads c.args.file.now (answer_of q)) c.in_ok-counts.was c.read.ensures

pub returns-in_err-counts : goal.returns-in_err-counts
returns-in_err-counts c = let p = err_from_is_err_and c.from_residual.result c.from_residual.ensures.1 in rw (p.1, p.2) (turned_down (bad_file (subst (λ (q : Result Counts Rejection). Reads c.args.file.now (answer_of q)) c.in_err-counts.was c.read.ensures)))
