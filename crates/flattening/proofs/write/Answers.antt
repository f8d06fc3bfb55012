-- The four pieces are put in one after the other.
use mathlib.Core.Path.{sym, ap}
use native.Mathlib.Omega.{arith}
use lib.ListN.{length}
use lib.Seq.{length-take-le}
use Rattle.program.specs.Encode.{Bytes}
use Rattle.noderules.proofs.Putting.{puts, puts_same}
use Rattle.nesting.proofs.Surveys.{plain_inside}
use Rattle.flattening.proofs.Pieces.{old_rules, old_constraints, ends_inside, trees_fit, size_room, flat_written}
use Rattle.flattening.proofs.write.Goals as goal

pub overflow_mul-first : goal.overflow_mul-first
overflow_mul-first c = omega (arith, plain_inside c.requires.sized.settled.plain, length-take-le c.args.from c.args.file.now c.requires.sized.settled.plain.inside, c.requires.sized.settled.plain.inside, c.requires.sized.settled.plain.passed.short)

pub slice_bounds-rules_end-end : goal.slice_bounds-rules_end-end
slice_bounds-rules_end-end c = sym (length-take-le _ _ c.requires.sized.settled.plain.inside)

pub rules_end-rules-requires : goal.rules_end-rules-requires
rules_end-rules-requires c = c.requires.sized.settled.plain.counted

pub slice_bounds-put-end : goal.slice_bounds-put-end
slice_bounds-put-end c = sym (length-take-le _ _ c.requires.sized.settled.inside)

pub put-added-requires : goal.put-added-requires
put-added-requires c = omega (arith, ap length c.requires.sized.settled.records_are, size_room c.requires.sized (λ i. omega (arith, c.type_inv.file i)), c.requires.bytes_in_bounds)

pub slice_bounds-put-count : goal.slice_bounds-put-count
slice_bounds-put-count c = let i = ends_inside c.requires.sized (λ i. omega (arith, c.type_inv.file i)) _ c.rules_end-rules.ensures in omega (arith, i.0)

pub slice_bounds-put-start : goal.slice_bounds-put-start
slice_bounds-put-start c = let i = ends_inside c.requires.sized (λ i. omega (arith, c.type_inv.file i)) _ c.rules_end-rules.ensures in omega (arith, i.0)

pub slice_bounds-put-end-2 : goal.slice_bounds-put-end-2
slice_bounds-put-end-2 c = let i = ends_inside c.requires.sized (λ i. omega (arith, c.type_inv.file i)) _ c.rules_end-rules.ensures in omega (arith, i.1, i.2)

pub put-old-requires : goal.put-old-requires
put-old-requires c = let k : Bytes c.args.file.now = λ i. omega (arith, c.type_inv.file i) in
    omega (
      arith,
      c.put-added.ensures.0,
      ap length c.requires.sized.settled.records_are,
      ap length (old_rules c.requires.sized k _ c.rules_end-rules.ensures),
      size_room c.requires.sized k,
      c.requires.bytes_in_bounds,
      c.buffer-1.given,
    )

pub put_trees-all-requires : goal.put_trees-all-requires
put_trees-all-requires c = let k : Bytes c.args.file.now = λ i. omega (arith, c.type_inv.file i) in record {
  settled = c.requires.sized.settled;
  trees_fit = trees_fit c.requires.sized k _ _
      (omega (arith, c.put-old.ensures.0, c.put-added.ensures.0, ap length c.requires.sized.settled.records_are, ap length (old_rules c.requires.sized k _ c.rules_end-rules.ensures)))
      (omega (arith, c.requires.bytes_in_bounds, c.buffer-1.given, c.buffer-2-1.given));
}

pub slice_bounds-put-count-2 : goal.slice_bounds-put-count-2
slice_bounds-put-count-2 c = let i = ends_inside c.requires.sized (λ i. omega (arith, c.type_inv.file i)) _ c.rules_end-rules.ensures in omega (arith, i.1)

pub slice_bounds-put-start-2 : goal.slice_bounds-put-start-2
slice_bounds-put-start-2 c = let i = ends_inside c.requires.sized (λ i. omega (arith, c.type_inv.file i)) _ c.rules_end-rules.ensures in omega (arith, i.1)

pub slice_bounds-put-end-3 : goal.slice_bounds-put-end-3
slice_bounds-put-end-3 c = omega (arith, c.requires.sized.settled.plain.inside)

pub put-requires : goal.put-requires
put-requires c = let k : Bytes c.args.file.now = λ i. omega (arith, c.type_inv.file i) in
    omega (
      arith,
      (c.put_trees-all.ensures.is _ c.requires.sized.settled.whole).ends,
      c.put-old.ensures.0,
      c.put-added.ensures.0,
      ap length c.requires.sized.settled.records_are,
      ap length (old_rules c.requires.sized k _ c.rules_end-rules.ensures),
      ap length (old_constraints c.requires.sized k _ c.rules_end-rules.ensures),
      size_room c.requires.sized k,
      c.requires.bytes_in_bounds,
      c.buffer-1.given,
      c.buffer-2-1.given,
      c.buffer-3-1.given,
    )

pub returns : goal.returns
returns c = let k : Bytes c.args.file.now = λ i. omega (arith, c.type_inv.file i) in
    flat_written c.requires.sized k _ _ _ _ _ _ _ _ _ c.requires.bytes_in_bounds
    (puts_same _ c.requires.sized.settled.records_are (puts c.put-added.ensures))
    (puts_same _ (old_rules c.requires.sized k _ c.rules_end-rules.ensures) (puts c.put-old.ensures))
    c.put_trees-all.ensures
    (puts_same _ (old_constraints c.requires.sized k _ c.rules_end-rules.ensures) (puts c.put.ensures))
