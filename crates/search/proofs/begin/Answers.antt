-- The fields are read first: their refusal is the answer, else the edges are drawn.
use Rattle.std.proofs.lemmas.Result.{err_from_is_err_and}
use Rattle.fields.proofs.ScanLaws.{scanned_whole, scanned_stopped}
use Rattle.search.proofs.BeginLaws.{stopped}
use Rattle.search.proofs.begin.Goals as goal

pub draw-requires : goal.draw-requires
draw-requires c = scanned_whole _ _ c.pass.ensures _ c.in_ok-counts.was

pub returns-in_err-counts : goal.returns-in_err-counts
returns-in_err-counts c = let p = err_from_is_err_and c.from_residual.result c.from_residual.ensures.1 in rw (p.1, p.2) (stopped _ (scanned_stopped _ _ c.pass.ensures _ _ c.in_err-counts.was))
