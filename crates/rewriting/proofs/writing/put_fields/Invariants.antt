use Rattle.rewriting.specs.Writing.{PutSoFar}
use Rattle.rewriting.proofs.writing.put_fields.Given as goal

abbrev pub invariant-loop-place : goal.invariant-loop-place
invariant-loop-place l = PutSoFar l.text l.places l.initial.buffer l.at l.place-index l.buffer l.end
