use Prim.Native.Nat.{◌*◌}
use mathlib.Core.Path.{sym}
use native.Mathlib.Omega.{arith}
use lib.Seq.{length-take-le}
use Rattle.program.proofs.Unique.{reads_accepts}
use Rattle.reader.proofs.Published.{limited, counts_of_is}
use Rattle.rewriting.proofs.Forms.{room_left, all_written}
use Rattle.rewriting.proofs.call.write.Goals as goal

pub overflow_mul-size : goal.overflow_mul-size
overflow_mul-size c = let l = limited c.requires.accepted_as.0 in omega (arith, l.few_variables)

pub slice_bounds-put-end : goal.slice_bounds-put-end
slice_bounds-put-end c = let l = limited c.requires.accepted_as.0 in
    let o = length-take-le (8 * c.args.counts.variables) c.args.file.now (omega arith) in
    sym o

pub put-start-requires : goal.put-start-requires
put-start-requires c = let l = limited c.requires.accepted_as.0 in
    let o = length-take-le (8 * c.args.counts.variables) c.args.file.now (omega arith) in
    omega arith

pub put_fields-requires : goal.put_fields-requires
put_fields-requires c = let y = reads_accepts c.requires.accepted_as.0 in
    room_left (λ i. omega (arith, c.type_inv.file i))
    y.accepts (c.requires.prepared y.meant y.accepts) c.args.counts.variables y.variables_are c.args.buffer.now _ _ c.requires.accepted_as.1 c.put-start.ensures.0 c.put-start.ensures.1

pub returns : goal.returns
returns c = λ P a. all_written (λ i. omega (arith, c.type_inv.file i)) a (c.requires.prepared P a) c.args.counts.variables (counts_of_is c.requires.accepted_as.0 a).variables_are c.args.buffer.now _ _
    c.requires.accepted_as.1 c.put-start.ensures.0 c.put-start.ensures.1 _ _ c.put_fields.ensures.value c.put_fields.ensures.buffer_after
