use mathlib.Core.Path.{sym}
use native.Mathlib.Omega.{arith}
use borrow.Author.Rules.{rules}
use lib.Seq.{length-take-le}
use Rattle.program.proofs.Unique.{reads_accepts}
use Rattle.reader.proofs.Published.{limited}
use Rattle.rewriting.proofs.Preparing.{fields_few, fields_inside, prepared, copied}
use Rattle.rewriting.proofs.call.prepare.Goals as goal

pub order_fields-fields-requires : goal.order_fields-fields-requires
order_fields-fields-requires c = let l = limited c.requires.accepted_as in record {
  accepted_as = c.requires.accepted_as;
  text_value = (copied c.args.file.now c.args.text.now c.put.new.buffer c.requires.text_len.0 c.put.ensures.1, omega (arith, l.few_rules, l.few_constraints));
}

pub slice_bounds-sort-end : goal.slice_bounds-sort-end
slice_bounds-sort-end c = let k = fields_few c.requires.accepted_as c.order_fields-fields.ensures.ordered_file in
    omega (arith, c.order_fields-fields.ensures.places_len_unchanged)

pub slice_bounds-sort-end-2 : goal.slice_bounds-sort-end-2
slice_bounds-sort-end-2 c = let k = fields_few c.requires.accepted_as c.order_fields-fields.ensures.ordered_file in
    sym (length-take-le c.order_fields-fields.result c.order_fields-fields.new.places (omega (arith, c.order_fields-fields.ensures.places_len_unchanged)))

pub slice_bounds-sort-end-3 : goal.slice_bounds-sort-end-3
slice_bounds-sort-end-3 c = let k = fields_few c.requires.accepted_as c.order_fields-fields.ensures.ordered_file in
    omega arith

pub slice_bounds-sort-end-4 : goal.slice_bounds-sort-end-4
slice_bounds-sort-end-4 c = let k = fields_few c.requires.accepted_as c.order_fields-fields.ensures.ordered_file in
    sym (length-take-le c.order_fields-fields.result c.args.spare.now (omega arith))

pub sort-left-requires : goal.sort-left-requires
sort-left-requires c = let k = fields_few c.requires.accepted_as c.order_fields-fields.ensures.ordered_file in
    let y = reads_accepts c.requires.accepted_as in
    let a = length-take-le c.order_fields-fields.result c.order_fields-fields.new.places (omega (arith, c.order_fields-fields.ensures.places_len_unchanged)) in
    let b = length-take-le c.order_fields-fields.result c.args.spare.now (omega arith) in
    record { spare_len = omega arith; all_inside = fields_inside y.accepts (c.order_fields-fields.ensures.ordered_file y.meant y.accepts) (omega (arith, c.order_fields-fields.ensures.places_len_unchanged)) }

pub returns : goal.returns
returns c = let k = fields_few c.requires.accepted_as c.order_fields-fields.ensures.ordered_file in
    let y = reads_accepts c.requires.accepted_as in
    let a = length-take-le c.order_fields-fields.result c.order_fields-fields.new.places (omega (arith, c.order_fields-fields.ensures.places_len_unchanged)) in record {
      text_len_2 = (c.order_fields-fields.ensures.ordered_file y.meant y.accepts).length_is;
      prepared = λ P x. prepared x (c.order_fields-fields.ensures.ordered_file P x) (omega (arith, c.order_fields-fields.ensures.places_len_unchanged))
          (λ i. search rules) c.sort-left.new.places
          c.sort-left.result (omega (arith, c.sort-left.ensures.places_len_unchanged.0))
          (omega (arith, c.sort-left.ensures.places_len_unchanged.2)) c.sort-left.ensures.sorts;
    }
