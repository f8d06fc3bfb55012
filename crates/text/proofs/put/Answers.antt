-- The byte is written where there is room, and counted in any case.
use Rattle.text.proofs.OutputLaws.{put_here, put_past}
use Rattle.text.proofs.put.Goals as goal

pub returns-then-at-output : goal.returns-then-at-output
returns-then-at-output c = put_here _ _ _ c.if-at-output.true

pub returns : goal.returns
returns c = put_past _ _ _ c.if-at-output.false
