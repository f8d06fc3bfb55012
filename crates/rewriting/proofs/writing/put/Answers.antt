use mathlib.Core.Path.{◌≡◌, refl, ◌∙◌}
use Rattle.rewriting.proofs.Puts.{pasted_all}
use Prim.Native.Nat.{◌-◌}
use native.Mathlib.Omega.{arith}
use lib.ListN.{length}
use lib.Seq.{paste-zero}
use Rattle.sorting.proofs.Copies.{copied_length, copied_more}
use Rattle.rewriting.proofs.writing.put.Goals as goal

pub loop-i-init : goal.loop-i-init
loop-i-init c = (refl, paste-zero c.args.buffer.now c.args.at c.args.bytes.now, omega arith)

pub bounds-bytes-i : goal.bounds-bytes-i
bounds-bytes-i c = omega arith

pub overflow_add-buffer : goal.overflow_add-buffer
overflow_add-buffer c = omega arith

pub bounds-buffer-at : goal.bounds-buffer-at
bounds-buffer-at c = let e = copied_length c.args.buffer.now c.args.at c.args.bytes.now c.loop-i.buffer c.loop-i.i c.loop-i.invariant.1 (omega arith) (omega arith) in
    omega arith

pub overflow_step-i : goal.overflow_step-i
overflow_step-i c = omega arith

pub loop-i-smaller : goal.loop-i-smaller
loop-i-smaller c = omega arith

pub loop-i-preserved : goal.loop-i-preserved
loop-i-preserved c = (c.loop-i.invariant.0, copied_more c.args.buffer.now c.args.at c.args.bytes.now c.loop-i.buffer c.loop-i.i c.loop-i.invariant.1 (omega arith) (omega arith), omega arith)

pub overflow_add-result : goal.overflow_add-result
overflow_add-result c = omega arith

pub shape_of-buffer : goal.shape_of-buffer
shape_of-buffer c = copied_length c.args.buffer.now c.args.at c.args.bytes.now c.loop-i.buffer c.loop-i.i c.loop-i.invariant.1 (omega arith) (omega arith)

pub returns : goal.returns
returns c = let e : c.loop-i.i ≡ length c.args.bytes.now = omega arith in
    (refl, rw e at c.loop-i.invariant.1 ∙ pasted_all c.args.buffer.now c.args.at c.args.bytes.now)
