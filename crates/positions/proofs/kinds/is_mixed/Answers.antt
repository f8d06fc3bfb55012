-- Both tests are those of the definition.
use Rattle.positions.proofs.KindLaws.{mixed_by}
use Rattle.positions.proofs.kinds.is_mixed.Goals as goal

pub returns : goal.returns
returns c = mixed_by c.args.kind
