-- By the answer: its word and its numbers.
use Rattle.packing.proofs.of_judged.Goals as goal

pub returns-in-Range : goal.returns-in-Range
returns-in-Range c = rw c.in-Range.is c.with_one.ensures

pub returns-in-Rule : goal.returns-in-Rule
returns-in-Rule c = rw c.in-Rule.is c.with_one-in-Rule.ensures

pub returns-in-Constraint : goal.returns-in-Constraint
returns-in-Constraint c = rw c.in-Constraint.is c.with_one-in-Constraint.ensures

pub returns-in-Unfounded : goal.returns-in-Unfounded
returns-in-Unfounded c = rw c.in-Unfounded.is c.with_two.ensures

pub returns-in-Stable : goal.returns-in-Stable
returns-in-Stable c = rw c.in-Stable.is c.alone.ensures
