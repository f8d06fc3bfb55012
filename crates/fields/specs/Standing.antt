-- What stands at an offset of a file: nothing, a field that is cut short, or a whole field.
use Rattle.std.specs.Prelude.{ℕ, ◌+◌, List, cond, length, leb}
use Rattle.program.specs.Fields.{tag_at, length_at, next_at}
use Rattle.program.specs.Refusals.{cut_short}
use Rattle.fields.specs.declared.cursor.Field.{Field}
use Rattle.fields.specs.declared.cursor.Field.TheVariants.{Whole, Short, End}

unfoldable pub field_at : List ℕ → ℕ → Field
field_at s at =
    cond (leb (length s) at) End
    (cond (cut_short s at) Short (Whole (tag_at s at) (at + 3) (length_at s at) (record { at = next_at s at })))
