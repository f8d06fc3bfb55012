-- Invariant: the fields before the cursor are whole, and none of them is a tree; what is left of the file grows less.
use Prim.Native.Nat.{◌-◌}
use mathlib.Core.Path.{sym, ◌∙◌}
use native.Mathlib.Omega.{arith}
use Rattle.fields.proofs.ScanLaws.{Stands, field_stands}
use Rattle.plainpart.proofs.PlainLaws.{seek_start, no_field, seek_stopped, seek_found, seek_more}
use Rattle.plainpart.proofs.first_tree.Goals as goal

pub loop-tag-init : goal.loop-tag-init
loop-tag-init c = rw c.new-cursor.ensures (seek_start _)

pub returns-in_default : goal.returns-in_default
returns-in_default c = seek_stopped c.loop-tag.invariant (no_field _ _ _ c.field.ensures c.in_default.not-Whole)

pub returns-then-tag-eq-TREE : goal.returns-then-tag-eq-TREE
returns-then-tag-eq-TREE c = seek_found c.loop-tag.invariant ((let it : Stands c.args.file.now c.loop-tag.cursor.at
    c.in-Whole.tag c.in-Whole.start c.in-Whole.len c.in-Whole.next.at = field_stands _ _ _ _ _ _ (sym c.in-Whole.is ∙ c.field.ensures) in it)) (omega arith)

pub loop-tag-smaller : goal.loop-tag-smaller
loop-tag-smaller c = let w = (let it : Stands c.args.file.now c.loop-tag.cursor.at
    c.in-Whole.tag c.in-Whole.start c.in-Whole.len c.in-Whole.next.at = field_stands _ _ _ _ _ _ (sym c.in-Whole.is ∙ c.field.ensures) in it) in omega (arith, w.more, w.next_is)

pub loop-tag-preserved : goal.loop-tag-preserved
loop-tag-preserved c = seek_more c.loop-tag.invariant ((let it : Stands c.args.file.now c.loop-tag.cursor.at
    c.in-Whole.tag c.in-Whole.start c.in-Whole.len c.in-Whole.next.at = field_stands _ _ _ _ _ _ (sym c.in-Whole.is ∙ c.field.ensures) in it)) (λ e. omega arith)
