-- The plain part is scanned as a plain file.
use Rattle.std.proofs.lemmas.Result.{err_from_is_err_and}
use mathlib.Core.Path.{sym}
use native.Mathlib.Omega.{arith}
use lib.Seq.{length-take-le}
use Rattle.fields.proofs.ScanLaws.{scanned_whole, scanned_stopped}
use Rattle.nested.specs.NestedReading.{too_long}
use Rattle.plainpart.proofs.PlainLaws.{first_inside, first_stopped, first_counted}
use Rattle.plainpart.proofs.read_plain.Goals as goal

pub returns-then-file-gt-MAX_FILE : goal.returns-then-file-gt-MAX_FILE
returns-then-file-gt-MAX_FILE c = too_long (omega arith)

pub slice_bounds-scan-end : goal.slice_bounds-scan-end
slice_bounds-scan-end c = sym (length-take-le _ _ (first_inside c.first_tree-from.ensures))

pub returns : goal.returns
returns c = first_counted (omega arith) c.first_tree-from.ensures (scanned_whole _ _ c.scan.ensures _ c.in_ok-counts.was)

pub returns-in_err-counts : goal.returns-in_err-counts
returns-in_err-counts c = let p = err_from_is_err_and c.from_residual.result c.from_residual.ensures.1 in rw (p.1, p.2) (first_stopped (omega arith) c.first_tree-from.ensures (scanned_stopped _ _ c.scan.ensures _ _ c.in_err-counts.was))
