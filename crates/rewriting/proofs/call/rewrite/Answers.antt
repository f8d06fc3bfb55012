use mathlib.Core.Path.{sym, subst}
use native.Mathlib.Omega.{arith}
use lib.ListN.{length, drop, length-append}
use lib.Seq.{length-take-le, take_at}
use Rattle.program.proofs.Unique.{reads_accepts}
use Rattle.rewriting.specs.Writing.{Prepared}
use Rattle.rewriting.proofs.call.rewrite.Goals as goal

pub slice_bounds-prepare-end : goal.slice_bounds-prepare-end
slice_bounds-prepare-end c = let s = (reads_accepts c.requires.accepted_as.0).accepts.whole.passed.short in
    omega arith

pub slice_bounds-prepare-end-2 : goal.slice_bounds-prepare-end-2
slice_bounds-prepare-end-2 c = let s = (reads_accepts c.requires.accepted_as.0).accepts.whole.passed.short in
    sym (length-take-le (length c.args.file.now) c.args.text.now (omega arith))

pub prepare-left-requires : goal.prepare-left-requires
prepare-left-requires c = let s = (reads_accepts c.requires.accepted_as.0).accepts.whole.passed.short in
    record {
      accepted_as = c.requires.accepted_as.0;
      text_len = (length-take-le (length c.args.file.now) c.args.text.now (omega arith), c.requires.text_len.1, c.requires.text_len.2);
    }

pub slice_bounds-write-end : goal.slice_bounds-write-end
slice_bounds-write-end c = omega (arith, c.prepare-left.ensures.text_len_2, length-append c.prepare-left.new.text (drop (length c.args.file.now) c.args.text.now))

pub slice_bounds-write-end-2 : goal.slice_bounds-write-end-2
slice_bounds-write-end-2 c = sym (length-take-le (length c.args.file.now) _
    (omega (arith, c.prepare-left.ensures.text_len_2, length-append c.prepare-left.new.text (drop (length c.args.file.now) c.args.text.now))))

pub write-requires : goal.write-requires
write-requires c = let q = take_at c.prepare-left.new.text (drop (length c.args.file.now) c.args.text.now) (length c.args.file.now) c.prepare-left.ensures.text_len_2 in
    record { accepted_as = c.requires.accepted_as; prepared = λ P a. subst (λ t. Prepared P t c.prepare-left.new.places c.prepare-left.result) (sym q) (c.prepare-left.ensures.prepared P a) }
