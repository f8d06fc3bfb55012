use Rattle.std.specs.Prelude.{Result}
use Rattle.std.proofs.lemmas.Result.{err_from_is_err_and}
use mathlib.Core.Path.{refl, subst}
use mathlib.Core.Logic.{inl}
use Rattle.program.specs.Reading.{Reads, answer_of}
use Rattle.program.proofs.Unique.{reads_accepts}
use Rattle.meaning.specs.Calls.{bad_file, bad_call}
use Rattle.normal.specs.Normalizes.{turned_down}
use Rattle.rewriting.proofs.call.normalize.Goals as goal
use Rattle.program.specs.declared.Rejection.{Rejection}
use Rattle.program.specs.declared.Counts.{Counts}

pub returns-then-buffer-file : goal.returns-then-buffer-file
returns-then-buffer-file c = let r = subst (λ (q : Result Counts Rejection). Reads c.args.file.now (answer_of q)) c.in_ok-counts.was c.read.ensures in
    turned_down (bad_call (reads_accepts r).accepts (inl (refl, (c.if-buffer-file.true, refl))))

pub normalize_accepted-requires : goal.normalize_accepted-requires
normalize_accepted-requires c = let r = subst (λ (q : Result Counts Rejection). Reads c.args.file.now (answer_of q)) c.in_ok-counts.was c.read.ensures in
    (r, c.if-buffer-file.false)

pub returns-in_err-counts : goal.returns-in_err-counts
returns-in_err-counts c = let r = subst (λ (q : Result Counts Rejection). Reads c.args.file.now (answer_of q)) c.in_err-counts.was c.read.ensures in
    let p = err_from_is_err_and c.from_residual.result c.from_residual.ensures.1 in rw (p.1, p.2) (turned_down (bad_file r))
