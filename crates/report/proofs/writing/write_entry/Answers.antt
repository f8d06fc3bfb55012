-- Four bytes at 4 i; all others stay.
use mathlib.Core.Path.{ap, ◌∙◌}
use Prim.Native.Nat.{◌/◌, ◌%◌}
use native.Mathlib.Omega.{arith}
use lib.IntN.{ℤ, nat_abs}
use lib.ListN.{length-set}
use mir.Syntax.{w16}
use mir.Val.{of_z}
use mir.Facts.{to_z-of_z}
use Rattle.report.proofs.WritingLaws.{wrote_one}
use Rattle.report.proofs.writing.write_entry.Goals as goal

pub high_byte-high-requires : goal.high_byte-high-requires
high_byte-high-requires c = omega (arith, ap nat_abs (to_z-of_z c.ranges.number), c.requires.number_bound)

pub low_byte-low-requires : goal.low_byte-low-requires
low_byte-low-requires c = omega (arith, ap nat_abs (to_z-of_z c.ranges.number), c.requires.number_bound)

pub bounds-report-i-2 : goal.bounds-report-i-2
bounds-report-i-2 c = simp length-set (omega arith)

pub bounds-report-i-3 : goal.bounds-report-i-3
bounds-report-i-3 c = simp length-set (omega arith)

pub bounds-report-i-4 : goal.bounds-report-i-4
bounds-report-i-4 c = simp length-set (omega arith)

pub returns : goal.returns
returns c = let e = to_z-of_z c.ranges.number in
    wrote_one c.args.report.now c.args.i c.args.v c.args.mark c.args.number c.requires.i_in_bounds
    (c.high_byte-high.ensures ∙ ap (λ (z : ℤ). of_z w16 z / 256) e)
    (c.low_byte-low.ensures ∙ ap (λ (z : ℤ). of_z w16 z % 256) e)
