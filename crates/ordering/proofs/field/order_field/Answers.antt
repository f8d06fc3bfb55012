-- The text has the ordered terms in the place of those that stood there.
use Rattle.ordering.proofs.FieldLaws.{form_inside, start_before, body_orderable, part_same, field_ordered}
use Rattle.ordering.proofs.field.order_field.Goals as goal

pub bounds-file-at-2 : goal.bounds-file-at-2
bounds-file-at-2 c = form_inside c.requires.field_here

pub slice_bounds-order_body-count : goal.slice_bounds-order_body-count
slice_bounds-order_body-count c = start_before c.requires.field_here c.ordered_from.ensures.0 c.next_at-next.ensures

pub slice_bounds-order_body-start : goal.slice_bounds-order_body-start
slice_bounds-order_body-start c = start_before c.requires.field_here c.ordered_from.ensures.0 c.next_at-next.ensures

pub slice_bounds-order_body-count-2 : goal.slice_bounds-order_body-count-2
slice_bounds-order_body-count-2 c = start_before c.requires.field_here c.ordered_from.ensures.0 c.next_at-next.ensures

pub slice_bounds-order_body-start-2 : goal.slice_bounds-order_body-start-2
slice_bounds-order_body-start-2 c = start_before c.requires.field_here c.ordered_from.ensures.0 c.next_at-next.ensures

pub order_body-requires : goal.order_body-requires
order_body-requires c = (body_orderable c.requires.field_here c.ordered_from.ensures.0 c.next_at-next.ensures, part_same c.requires.field_here c.ordered_from.ensures.0 c.next_at-next.ensures _ c.requires.text_len.0 c.requires.text_len.1)

pub returns : goal.returns
returns c = field_ordered c.requires.field_here c.ordered_from.ensures.0 c.next_at-next.ensures _ c.requires.text_len.0 c.requires.text_len.1 _ c.order_body.ensures
