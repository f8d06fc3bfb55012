-- By cases on whether the set has v.
use mathlib.Core.Path.{sym, ap, ◌∙◌}
use native.Mathlib.Omega.{arith}
use lib.IntN.{nat_abs}
use mir.Facts.{to_z-of_z}
use Rattle.report.specs.Report.{entry}
use Rattle.report.proofs.WritingLaws.{room_here, wrote_here, wrote_absent}
use Rattle.report.proofs.writing.write_member.Goals as goal

pub write_entry-requires : goal.write_entry-requires
write_entry-requires c = let e = to_z-of_z c.ranges.number in record { i_in_bounds = room_here (entry c.args.v c.args.mark c.args.number) c.args.i (sym c.contains.ensures ∙ c.if-contains.true) c.requires.number_in_bounds; number_bound = omega (arith, ap nat_abs e, c.requires.number_bound) }

pub returns-then-contains : goal.returns-then-contains
returns-then-contains c = wrote_here (sym c.contains.ensures ∙ c.if-contains.true) (to_z-of_z c.ranges.number) c.write_entry.ensures

pub returns : goal.returns
returns c = wrote_absent _ _ _ (sym c.contains.ensures ∙ c.if-contains.false)
