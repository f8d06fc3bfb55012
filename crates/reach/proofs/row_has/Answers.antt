-- The bit of v in its row's word.
-- src/lib.rt:33:18
use mathlib.Core.Path.{refl}
use Rattle.words.specs.Bit.{bit}
use Rattle.reach.specs.Rows.{row_has}
use Rattle.reach.proofs.row_has.Goals as goal

-- src/lib.rt:33:18

-- src/lib.rt:33:13

-- src/lib.rt:33:13

-- src/lib.rt:34:6

-- src/lib.rt:28:1

pub returns : goal.returns
unfolding bit row_has
returns c = refl
