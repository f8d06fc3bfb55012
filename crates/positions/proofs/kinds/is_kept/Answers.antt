-- By the kind that is kept at the term.
use Rattle.positions.proofs.KindLaws.{kept_by_lem}
use Rattle.positions.proofs.kinds.is_kept.Goals as goal

pub returns : goal.returns
returns c = kept_by_lem c.args.kinds.up c.args.kinds.down c.args.x c.args.t c.kind_of.ensures c.keeps.ensures
