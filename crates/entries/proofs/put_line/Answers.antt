-- The parts are appended one after the other.
use mir.Facts.{to_z-of_z}
use mathlib.Core.Path.{ap}
use Rattle.text.specs.Decimal.{decimal, number}
use Rattle.text.proofs.OutputLaws.{appends_as, appends_both}
use Rattle.entries.proofs.put_line.Goals as goal

pub returns : goal.returns
returns c = let d = appends_as (ap decimal c.wide.ensures.0) c.put_decimal-next.ensures.appends in
    let e = appends_as (ap number (to_z-of_z c.ranges.z)) c.put_number-next.ensures.appends in
    appends_both (appends_both (appends_both (appends_both c.put_word-next.ensures d) c.put_word-next-2.ensures) e) c.put.ensures
