-- Invariant: the fields before the cursor pass, and what is known is that of their nested program; what is left of the file grows less.
use Rattle.std.proofs.lemmas.Result.{err_from_is_err_and}
use mathlib.Core.Path.{sym, subst₂, ◌∙◌}
use native.Mathlib.Omega.{arith}
use lib.Seq.{length-take-le}
use Rattle.fields.proofs.ScanLaws.{field_ended, field_cut, field_stands, not_whole}
use Rattle.nested.specs.NestedReading.{NestedRefuses}
use Rattle.nesting.specs.Surveying.{passed, refused}
use Rattle.nesting.proofs.Surveys.{plain_inside, reach_start, stretch_value, stretch-length, so_far}
use Rattle.nesting.proofs.Surveys.{survey_ended, survey_cut, survey_stray, survey_refused, survey_more}
use Rattle.nesting.proofs.survey_trees.Goals as goal

pub slice_bounds-plain-end : goal.slice_bounds-plain-end
slice_bounds-plain-end c = sym (length-take-le _ _ c.requires.plain_counted.inside)

pub loop-tag-init : goal.loop-tag-init
loop-tag-init c = reach_start c.requires.plain_counted (λ i. omega (arith, c.type_inv.file i)) c.requires.tabled

pub returns-in-End : goal.returns-in-End
returns-in-End c = passed (survey_ended c.loop-tag.invariant (field_ended _ _ (sym c.in-End.is ∙ c.field-field.ensures)))

pub returns-in_default-field : goal.returns-in_default-field
returns-in_default-field c = let e = field_cut _ _ (sym (not_whole _ c.in_default.not-End c.in_default-field.not-Whole) ∙ c.field-field.ensures) in
    refused (survey_cut c.loop-tag.invariant e.0 e.1)

pub returns-then-tag-ne-TREE : goal.returns-then-tag-ne-TREE
returns-then-tag-ne-TREE c = refused (subst₂ (NestedRefuses c.args.file.now) (sym c.stray.ensures.0) (sym c.stray.ensures.1) (survey_stray c.loop-tag.invariant (field_stands _ _ _ _ _ _ (sym c.in-Whole.is ∙ c.field-field.ensures)) (λ e. omega arith)))

pub overflow_add-value : goal.overflow_add-value
overflow_add-value c = let w = field_stands _ _ _ _ _ _ (sym c.in-Whole.is ∙ c.field-field.ensures) in omega arith

pub slice_bounds-value-end : goal.slice_bounds-value-end
slice_bounds-value-end c = let w = field_stands _ _ _ _ _ _ (sym c.in-Whole.is ∙ c.field-field.ensures) in omega arith

pub take_in-requires : goal.take_in-requires
take_in-requires c = let w = field_stands _ _ _ _ _ _ (sym c.in-Whole.is ∙ c.field-field.ensures) in
    let v = stretch-length w in
    record { n_in_bounds = (plain_inside c.requires.plain_counted, omega (arith, v, w.fits, w.len_is, c.loop-tag.invariant.passed.short), omega (arith, c.loop-tag.invariant.bounded, c.loop-tag.invariant.inside, c.loop-tag.invariant.passed.short)); so_far = so_far c.loop-tag.invariant }

pub returns-in_err-totals : goal.returns-in_err-totals
returns-in_err-totals c = let w = field_stands _ _ _ _ _ _ (sym c.in-Whole.is ∙ c.field-field.ensures) in
    let p = err_from_is_err_and c.from_residual.result c.from_residual.ensures.1 in rw (p.1, p.2) (refused (survey_refused c.loop-tag.invariant w (omega arith) (stretch_value w) (c.take_in.ensures (so_far c.loop-tag.invariant)) c.in_err-totals.was))

pub loop-tag-smaller : goal.loop-tag-smaller
loop-tag-smaller c = let w = field_stands _ _ _ _ _ _ (sym c.in-Whole.is ∙ c.field-field.ensures) in omega (arith, w.more, w.next_is)

pub loop-tag-preserved : goal.loop-tag-preserved
loop-tag-preserved c = let w = field_stands _ _ _ _ _ _ (sym c.in-Whole.is ∙ c.field-field.ensures) in
    survey_more c.loop-tag.invariant w (omega arith) (stretch_value w) (c.take_in.ensures (so_far c.loop-tag.invariant)) c.in_ok-totals.was
