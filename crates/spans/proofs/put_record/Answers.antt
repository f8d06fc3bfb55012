use Prim.Native.Nat.{◌*◌}
use mathlib.Core.Path.{ap, ◌∙◌}
use Rattle.rewriting.specs.Writing.{put_at}
use native.Mathlib.Omega.{arith}
use Rattle.spans.proofs.RecordBytes.{end_is, record_bytes}
use Rattle.spans.proofs.put_record.Goals as goal

pub high_byte-a-requires : goal.high_byte-a-requires
high_byte-a-requires c = rw (end_is c.args.x.low c.requires.low_bound.0) (omega arith)

pub low_byte-b-requires : goal.low_byte-b-requires
low_byte-b-requires c = rw (end_is c.args.x.low c.requires.low_bound.0) (omega arith)

pub high_byte-c-requires : goal.high_byte-c-requires
high_byte-c-requires c = rw (end_is c.args.x.high c.requires.low_bound.1) (omega arith)

pub low_byte-d-requires : goal.low_byte-d-requires
low_byte-d-requires c = rw (end_is c.args.x.high c.requires.low_bound.1) (omega arith)

pub returns : goal.returns
returns c = let low = end_is c.args.x.low c.requires.low_bound.0 in
    let high = end_is c.args.x.high c.requires.low_bound.1 in
    let e =
    record_bytes c.args.x
    (rw low at c.high_byte-a.ensures)
    (rw low at c.low_byte-b.ensures)
    (rw high at c.high_byte-c.ensures)
    (rw high at c.low_byte-d.ensures) in
    c.put.ensures.1 ∙ ap (put_at c.args.records.now (8 * c.args.number)) e
