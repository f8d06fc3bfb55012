-- By the answer: its word and its numbers.
use Rattle.packing.proofs.of_found.Goals as goal

pub returns-in-Range : goal.returns-in-Range
returns-in-Range c = rw c.in-Range.is c.with_one.ensures

pub returns-in-Nothing : goal.returns-in-Nothing
returns-in-Nothing c = rw c.in-Nothing.is c.alone.ensures

pub returns-in-Found : goal.returns-in-Found
returns-in-Found c = rw c.in-Found.is c.alone-in-Found.ensures
