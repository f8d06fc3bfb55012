-- At the file's end there is none; else its header and its value fit, or it is cut short.
use native.Mathlib.Omega.{arith}
use Rattle.fields.proofs.FieldLaws.{field_end, field_no_header, field_no_value, field_whole}
use Rattle.fields.proofs.cursor.Cursor.field.Goals as goal

pub returns-then-file-at : goal.returns-then-file-at
returns-then-file-at c = field_end _ _ (omega arith)

pub returns-then-file-at-lt-HEADER : goal.returns-then-file-at-lt-HEADER
returns-then-file-at-lt-HEADER c = field_no_header _ _ (omega arith) (omega arith)

pub returns-then-file-start : goal.returns-then-file-start
returns-then-file-start c = field_no_value _ _ _ c.unsigned_at-len.ensures.0 (omega arith) (omega arith)

pub returns : goal.returns
returns c = field_whole _ _ _ c.unsigned_at-len.ensures.0 (omega arith)
