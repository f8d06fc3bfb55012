-- Both tests go by the kind that is kept at the term.
use Rattle.edges.proofs.PositionLaws.{draws_tests}
use Rattle.edges.proofs.draws_by.Goals as goal

pub returns : goal.returns
returns c = draws_tests c.args.kinds.up c.args.kinds.down c.args.x c.args.t c.kind_of-kind.ensures c.keeps-kept.ensures c.is_mixed-mixed.ensures
