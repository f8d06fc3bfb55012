-- What follows the header is the body.
use Rattle.parts.proofs.Bytes.{handed}
use Rattle.parts.proofs.constraints.body.Goals as goal

pub returns : goal.returns
returns c = handed 3 c.args.value.now c.requires
