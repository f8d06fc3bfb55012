-- Invariant: the entries of all variables below `from` are written; the next variable is the least that either set has.
use mathlib.Core.Path.{◌≡◌, refl, ◌∙◌}
use mathlib.Core.List.{[], List}
use Prim.Native.Nat.{ℕ, ◌-◌, ◌≤◌, ◌<◌}
use native.Mathlib.Omega.{arith}
use Rattle.format.specs.Limits.{max_variables}
use Rattle.words.specs.Bit.{has, NoneIn, LeastFrom}
use Rattle.words.proofs.Nexts.{next_at_is, next_none}
use Rattle.report.specs.Report.{Entry}
use Rattle.report.specs.Written.{marked_of}
use Rattle.report.proofs.WritingLaws.{wrote_start, wrote_room, wrote_next, wrote_end, neither}
use Rattle.program.specs.Readings.{valued}
use Rattle.report.proofs.writing.write_marked.Goals as goal

pub loop-v-init : goal.loop-v-init
loop-v-init c = (omega arith, refl, wrote_start (marked_of (has c.args.first.words) c.args.mark (has c.args.second.words) c.args.other (valued c.args.values.now)) c.args.report.now)

pub returns-in_default : goal.returns-in_default
returns-in_default c = let e = has c.union-either.result.words in
    let n = next_none e c.loop-v.from max_variables c.next.ensures c.in_default.is in
    wrote_end (marked_of (has c.args.first.words) c.args.mark (has c.args.second.words) c.args.other (valued c.args.values.now)) c.loop-v.from max_variables (neither (has c.args.first.words) (has c.args.second.words) c.args.mark c.args.other (valued c.args.values.now) c.union-either.ensures n) c.loop-v.invariant.0 c.loop-v.invariant.2

pub overflow_cast-v : goal.overflow_cast-v
overflow_cast-v c = omega (arith, ((let it : LeastFrom (has c.union-either.result.words) c.loop-v.from max_variables c.in-Some.v = next_at_is (has c.union-either.result.words) c.loop-v.from max_variables c.next.ensures c.in-Some.is in it)).below)

pub write_variable-i-requires : goal.write_variable-i-requires
write_variable-i-requires c = let f = (let it : LeastFrom (has c.union-either.result.words) c.loop-v.from max_variables c.in-Some.v = next_at_is (has c.union-either.result.words) c.loop-v.from max_variables c.next.ensures c.in-Some.is in it) in record {
  v_in_bounds = wrote_room (marked_of (has c.args.first.words) c.args.mark (has c.args.second.words) c.args.other (valued c.args.values.now)) c.loop-v.from c.in-Some.v max_variables (neither (has c.args.first.words) (has c.args.second.words) c.args.mark c.args.other (valued c.args.values.now) c.union-either.ensures f.first) f.above f.below c.loop-v.invariant.2
      c.requires.values_in_bounds c.loop-v.invariant.1;
  small = c.requires.small;
}

pub overflow_add-from : goal.overflow_add-from
overflow_add-from c = omega (arith, ((let it : LeastFrom (has c.union-either.result.words) c.loop-v.from max_variables c.in-Some.v = next_at_is (has c.union-either.result.words) c.loop-v.from max_variables c.next.ensures c.in-Some.is in it)).below)

pub loop-v-smaller : goal.loop-v-smaller
loop-v-smaller c = let f = (let it : LeastFrom (has c.union-either.result.words) c.loop-v.from max_variables c.in-Some.v = next_at_is (has c.union-either.result.words) c.loop-v.from max_variables c.next.ensures c.in-Some.is in it) in omega (arith, f.above, f.below)

pub loop-v-preserved : goal.loop-v-preserved
loop-v-preserved c = let f = (let it : LeastFrom (has c.union-either.result.words) c.loop-v.from max_variables c.in-Some.v = next_at_is (has c.union-either.result.words) c.loop-v.from max_variables c.next.ensures c.in-Some.is in it) in (
  omega (arith, f.below),
  c.write_variable-i.auto.report ∙ c.loop-v.invariant.1,
  wrote_next (marked_of (has c.args.first.words) c.args.mark (has c.args.second.words) c.args.other (valued c.args.values.now)) c.loop-v.from c.in-Some.v (neither (has c.args.first.words) (has c.args.second.words) c.args.mark c.args.other (valued c.args.values.now) c.union-either.ensures f.first) f.above c.loop-v.invariant.2 c.write_variable-i.ensures,
)
