-- Invariant: the fields before the cursor meet no refusal and are counted; what is left of the file grows less.
use mathlib.Core.Path.{sym, ◌∙◌}
use native.Mathlib.Omega.{arith}
use Rattle.fields.proofs.ScanLaws.{scan_long, scan_start, scan_ended, scan_cut, scan_bad, scan_more, field_stands, not_whole}
use Rattle.fields.proofs.scan.scan.Goals as goal

pub returns-then-file-gt-MAX_FILE : goal.returns-then-file-gt-MAX_FILE
returns-then-file-gt-MAX_FILE c = scan_long _ (omega arith)

pub loop-tag-init : goal.loop-tag-init
loop-tag-init c = rw (c.new-cursor.ensures, c.empty-counts.ensures) (scan_start _ (omega arith))

pub returns-in-End : goal.returns-in-End
returns-in-End c = scan_ended _ _ _ _ c.loop-tag.invariant (sym c.in-End.is ∙ c.field-field.ensures)

pub returns-in_default-field : goal.returns-in_default-field
returns-in_default-field c = scan_cut _ _ _ _ c.loop-tag.invariant (sym (not_whole _ c.in_default.not-End c.in_default-field.not-Whole) ∙ c.field-field.ensures)

pub overflow_add-value : goal.overflow_add-value
overflow_add-value c = let w = field_stands _ _ _ _ _ _ (sym c.in-Whole.is ∙ c.field-field.ensures) in omega arith

pub slice_bounds-value-end : goal.slice_bounds-value-end
slice_bounds-value-end c = let w = field_stands _ _ _ _ _ _ (sym c.in-Whole.is ∙ c.field-field.ensures) in omega arith

pub loop-tag-smaller : goal.loop-tag-smaller
loop-tag-smaller c = let w = field_stands _ _ _ _ _ _ (sym c.in-Whole.is ∙ c.field-field.ensures) in omega arith

pub loop-tag-preserved : goal.loop-tag-preserved
loop-tag-preserved c = scan_more _ _ _ _ c.loop-tag.invariant _ _ _ _
    (field_stands _ _ _ _ _ _ (sym c.in-Whole.is ∙ c.field-field.ensures)) _ c.check_field.ensures _ c.in_default-check_field.is c.with-counts.ensures

pub returns-in-Err : goal.returns-in-Err
returns-in-Err c = scan_bad _ _ _ _ c.loop-tag.invariant _ _ _ _
    (field_stands _ _ _ _ _ _ (sym c.in-Whole.is ∙ c.field-field.ensures)) _ c.check_field.ensures _ c.in-Err.is
