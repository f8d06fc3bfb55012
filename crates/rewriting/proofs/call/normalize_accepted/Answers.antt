use Rattle.program.proofs.Unique.{reads_accepts}
use Rattle.rewriting.proofs.Forms.{rewritten_call}
use Rattle.rewriting.proofs.call.normalize_accepted.Goals as goal

pub returns : goal.returns
returns c = let y = reads_accepts c.requires.0 in
    rewritten_call c.requires.1 y.accepts (c.rewrite.ensures y.meant y.accepts)
