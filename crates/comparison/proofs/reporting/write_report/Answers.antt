-- The bounds take the first entries, the conditions are written into the rest, and together they are the report's bytes.
use Rattle.format.specs.Limits.{max_variables}
use Rattle.words.specs.Bit.{has}
use Rattle.report.specs.Report.{bound, bound_above, at_most, at_least}
use Rattle.report.specs.Written.{marked}
use Rattle.report.proofs.Entries.{marked_count}
use Rattle.comparison.proofs.ReportLaws.{report_bytes_is}
use Rattle.program.specs.Readings.{valued}
use Rattle.comparison.proofs.reporting.write_report.Goals as goal

pub returns : goal.returns
returns c = let p = has c.args.parts.below.words in
    let o = has c.args.parts.above.words in
    let q = has c.args.asked.most.words in
    let r = has c.args.asked.least.words in
    let m = valued c.args.model.now in
    let θ = valued c.args.assigned.now in
    rw (c.count-below.ensures, c.count-above.ensures)
    (report_bytes_is (marked p bound o bound_above m) (marked q at_most r at_least θ) c.args.report.now _ _
    (marked_count p o bound bound_above m max_variables) (marked_count q r at_most at_least θ max_variables) c.requires.words_in_bounds
    c.write_bounds.new.report c.write_conditions.new.report c.write_bounds.ensures (rw (c.count-below.ensures, c.count-above.ensures) at c.write_conditions.ensures))
