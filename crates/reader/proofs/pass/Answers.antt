-- The fields are scanned first: their refusal is the answer, else the rules are judged where this is asked.
use Rattle.std.proofs.lemmas.Result.{err_from_is_err_and}
use mathlib.Core.Path.{sym, subst}
use Rattle.fields.proofs.ScanLaws.{scanned_whole, scanned_stopped}
use Rattle.reader.specs.Passing.{Passes}
use Rattle.reader.proofs.ReadLaws.{fields_whole, fields_stopped}
use Rattle.reader.proofs.pass.Goals as goal

pub judge_rules-requires : goal.judge_rules-requires
judge_rules-requires c = scanned_whole _ _ c.scan.ensures _ c.in_ok-counts.was

pub returns-then-judged : goal.returns-then-judged
returns-then-judged c = subst (λ b. Passes c.args.file.now b c.judge_rules.result) (sym c.if-judged.true) c.judge_rules.ensures

pub returns : goal.returns
returns c = fields_whole _ _ (scanned_whole _ _ c.scan.ensures _ c.in_ok-counts.was) c.if-judged.false

pub returns-in_err-counts : goal.returns-in_err-counts
returns-in_err-counts c = let p = err_from_is_err_and c.from_residual.result c.from_residual.ensures.1 in rw (p.1, p.2) (fields_stopped _ _ _ (scanned_stopped _ _ c.scan.ensures _ _ c.in_err-counts.was) c.args.judged)
