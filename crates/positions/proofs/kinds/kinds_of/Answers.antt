-- Form by form.
use mathlib.Core.Path.{refl}
use Rattle.positions.proofs.KindLaws.{kinds_are}
use Rattle.positions.proofs.kinds.kinds_of.Goals as goal

pub returns : goal.returns
returns c = let k = kinds_are c.args.h c.args.form c.is_from_above-above.ensures c.chosen.ensures
    c.chosen-up.ensures c.chosen-2.ensures c.chosen-3.ensures in
    rw (k.0, k.1) refl
