-- The plain part is read first: its refusal is the answer.
use Rattle.std.proofs.lemmas.Result.{err_from_is_err_and}
use mathlib.Core.Path.{subst}
use Rattle.nested.specs.FlattenCall.{turned_down, bad_file}
use Rattle.plainpart.specs.PlainPart.{Plains}
use Rattle.flattening.proofs.flatten.Goals as goal

pub flatten_plain-requires : goal.flatten_plain-requires
flatten_plain-requires c = subst (Plains _) c.in_ok-counts.was c.read_plain.ensures

pub returns-in_err-counts : goal.returns-in_err-counts
returns-in_err-counts c = let p = err_from_is_err_and c.from_residual.result c.from_residual.ensures.1 in rw (p.1, p.2) (turned_down (bad_file (subst (Plains _) c.in_err-counts.was c.read_plain.ensures)))
