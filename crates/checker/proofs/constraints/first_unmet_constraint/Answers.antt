-- One constraint more is met at each turn, for every program that the file means; there is one, since it is accepted.
use native.Mathlib.Omega.{arith}
use Rattle.reader.proofs.Published.{reads_accepts}
use Rattle.checker.proofs.MetLaws.{next_place, lies, constraint_unmet_at, constraint_met_at, constraints_met}
use Rattle.program.specs.Readings.{valued}
use Rattle.checker.proofs.constraints.first_unmet_constraint.Goals as goal

pub loop-i-init : goal.loop-i-init
loop-i-init c = (omega arith, λ P x. (c.requires.start_value P x, λ j h. let f : ⊥ = omega arith in absurd f))

pub value_at-requires : goal.value_at-requires
value_at-requires c = let a = reads_accepts c.requires.accepted_as in
    (lies c.requires.accepted_as a.accepts c.loop-i-test.true (c.loop-i.invariant.1 a.meant a.accepts).0).inside

pub satisfied-requires : goal.satisfied-requires
satisfied-requires c = let a = reads_accepts c.requires.accepted_as in
    let w = lies c.requires.accepted_as a.accepts c.loop-i-test.true (c.loop-i.invariant.1 a.meant a.accepts).0 in
    record { satisfiable = rw c.value_at.ensures w.satisfiable; constraint_header_in_bounds = rw c.value_at.ensures w.headed; small = c.requires.small }

pub returns-then-not-satisfied : goal.returns-then-not-satisfied
returns-then-not-satisfied c = λ P x.
    let i = c.loop-i.invariant.1 P x in
    constraint_unmet_at c.requires.accepted_as x c.loop-i-test.true i.0 c.value_at.ensures c.args.assigned.now c.satisfied.ensures c.if-not-satisfied.true i.1

pub next_at-at-requires : goal.next_at-at-requires
next_at-at-requires c = let a = reads_accepts c.requires.accepted_as in
    (lies c.requires.accepted_as a.accepts c.loop-i-test.true (c.loop-i.invariant.1 a.meant a.accepts).0).inside

pub loop-i-preserved : goal.loop-i-preserved
loop-i-preserved c = (
  omega arith,
  λ P x. let i = c.loop-i.invariant.1 P x in (
    next_place c.requires.accepted_as x c.loop-i-test.true i.0 c.next_at-at.ensures,
    constraint_met_at c.requires.accepted_as x c.loop-i-test.true i.0 c.value_at.ensures c.args.assigned.now c.satisfied.ensures
        c.if-not-satisfied.false i.1,
  ),
)

pub returns : goal.returns
returns c = λ P x. constraints_met c.requires.accepted_as x c.loop-i-test.false (valued c.args.assigned.now) (c.loop-i.invariant.1 P x).1
