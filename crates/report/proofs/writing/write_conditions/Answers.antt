-- Marked entries of the two sets.
use native.Mathlib.Omega.{arith}
use Rattle.words.specs.Bit.{has}
use Rattle.program.specs.Readings.{valued}
use Rattle.report.specs.Report.{at_most, at_least}
use Rattle.report.proofs.Entries.{marked_count}
use Rattle.report.proofs.WritingLaws.{marked_begun}
use Rattle.report.proofs.writing.write_conditions.Goals as goal

pub write_marked-requires : goal.write_marked-requires
write_marked-requires c = record { values_in_bounds = rw marked_count (omega (arith, c.requires.max_variables_in_bounds)); small = c.requires.small }

pub returns : goal.returns
returns c = marked_begun (has c.args.most.words) (has c.args.least.words) at_most at_least (valued c.args.values.now) c.args.report.now c.write_marked.new.report c.write_marked.ensures
