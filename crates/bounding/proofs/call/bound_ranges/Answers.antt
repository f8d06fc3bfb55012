-- The ranges are loaded and tested, then the buffer's length; what is written are the bounds.
use mathlib.Core.Path.{refl}
use mathlib.Core.Bool.{true, false}
use native.Mathlib.Omega.{arith}
use Rattle.format.specs.Limits.{max_variables}
use Rattle.program.specs.Program.{variables_at}
use Rattle.lent.specs.BoundsCall.{turned_down}
use Rattle.reader.proofs.Published.{limited}
use Rattle.reduct.proofs.Fills.{zeros}
use Rattle.bounding.proofs.CallLaws.{lows_are, highs_are, fit_as, fits_file, fits_lists, written_lists, wrong_ranges, wrong_buffer, right_call}
use Rattle.bounding.proofs.call.bound_ranges.Goals as goal

pub load-requires : goal.load-requires
load-requires c = (omega (arith, c.requires.ranges_len, (limited c.requires.accepted_as).few_variables), refl, refl)

pub all_fit-requires : goal.all_fit-requires
all_fit-requires c = let l = limited c.requires.accepted_as in (l.inside, l.few_variables)

pub returns-then-not-all_fit : goal.returns-then-not-all_fit
returns-then-not-all_fit c = let p = lows_are c.args.ranges.now c.args.counts.variables c.requires.ranges_len c.load.new.lows (zeros max_variables) c.load.ensures.filled in
    let q = highs_are c.args.ranges.now c.args.counts.variables c.requires.ranges_len c.load.new.highs (zeros max_variables) c.load.ensures.filled_2 in
    let f = fit_as (variables_at c.args.file.now c.args.counts.variables) c.args.counts.variables false p q c.if-not-all_fit.true c.all_fit.ensures in
    turned_down (wrong_ranges c.requires.accepted_as c.args.ranges.now c.args.buffer.now c.requires.ranges_len f)

pub returns-then-buffer-n : goal.returns-then-buffer-n
returns-then-buffer-n c = let p = lows_are c.args.ranges.now c.args.counts.variables c.requires.ranges_len c.load.new.lows (zeros max_variables) c.load.ensures.filled in
    let q = highs_are c.args.ranges.now c.args.counts.variables c.requires.ranges_len c.load.new.highs (zeros max_variables) c.load.ensures.filled_2 in
    let f = fit_as (variables_at c.args.file.now c.args.counts.variables) c.args.counts.variables true p q c.if-not-all_fit.false c.all_fit.ensures in
    turned_down (wrong_buffer c.requires.accepted_as c.args.ranges.now c.args.buffer.now c.requires.ranges_len f c.if-buffer-n.true)

pub bound-requires : goal.bound-requires
bound-requires c = let p = lows_are c.args.ranges.now c.args.counts.variables c.requires.ranges_len c.load.new.lows (zeros max_variables) c.load.ensures.filled in
    let q = highs_are c.args.ranges.now c.args.counts.variables c.requires.ranges_len c.load.new.highs (zeros max_variables) c.load.ensures.filled_2 in
    let f = fit_as (variables_at c.args.file.now c.args.counts.variables) c.args.counts.variables true p q c.if-not-all_fit.false c.all_fit.ensures in
    record { accepted_as = c.requires.accepted_as; fits_ranges = fits_lists p q (fits_file c.requires.accepted_as c.args.ranges.now c.args.buffer.now c.requires.ranges_len f); variables_in_bounds = omega arith }

pub returns : goal.returns
returns c = let p = lows_are c.args.ranges.now c.args.counts.variables c.requires.ranges_len c.load.new.lows (zeros max_variables) c.load.ensures.filled in
    let q = highs_are c.args.ranges.now c.args.counts.variables c.requires.ranges_len c.load.new.highs (zeros max_variables) c.load.ensures.filled_2 in
    let f = fit_as (variables_at c.args.file.now c.args.counts.variables) c.args.counts.variables true p q c.if-not-all_fit.false c.all_fit.ensures in
    right_call c.requires.accepted_as c.args.ranges.now c.args.buffer.now c.requires.ranges_len f (omega arith) _ (written_lists p q c.bound.ensures)
