-- The rules are judged, then the room; the plain file is written last.
use native.Mathlib.Omega.{arith}
use Rattle.flattening.proofs.Calls.{call_offending, call_long, call_roomless, call_written}
use Rattle.flattening.proofs.flatten_surveyed.Goals as goal

pub judge-requires : goal.judge-requires
judge-requires c = c.requires.settled

pub returns-in-Some : goal.returns-in-Some
returns-in-Some c = call_offending c.requires _ _ c.judge.ensures c.in-Some.is

pub returns-then-totals-gt-MAX_FILE : goal.returns-then-totals-gt-MAX_FILE
returns-then-totals-gt-MAX_FILE c = call_long c.requires _ _ c.judge.ensures c.in_default.is (omega arith)

pub returns-then-buffer-totals : goal.returns-then-buffer-totals
returns-then-buffer-totals c = call_roomless c.requires _ _ c.judge.ensures c.in_default.is (omega arith)

pub write-requires : goal.write-requires
write-requires c = record { sized = c.requires; bytes_in_bounds = omega arith }

pub returns : goal.returns
returns c = call_written c.requires _ _ c.judge.ensures c.in_default.is (omega arith) (omega arith) c.write.ensures
