-- Each way of the test is a case of the definition.
use mathlib.Core.Path.{◌≡◌, sym, ◌∙◌}
use mir.Syntax.{w64}
use mir.Val.{to_z, of_z}
use mir.Facts.{to_z-of_z}
use borrow.Author.Rules.{rules}
use Rattle.program.proofs.Variables.{started_founded, started_standard}
use Rattle.program.proofs.Variable.started.Goals as goal

pub returns-then-is_founded : goal.returns-then-is_founded
returns-then-is_founded c = let z : to_z w64 (of_z w64 c.start-start.result) ≡ c.start-start.result = search rules in
    started_founded c.args.self _ (sym c.is_founded.ensures ∙ c.if-is_founded.true) (z ∙ c.start-start.ensures)

pub returns-else-is_founded : goal.returns-else-is_founded
returns-else-is_founded c = started_standard c.args.self _ (sym c.is_founded.ensures ∙ c.if-is_founded.false)
    (to_z-of_z c.ranges.assigned)
