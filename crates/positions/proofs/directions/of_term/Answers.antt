-- Each arm is a row of the table.
use mathlib.Core.Path.{◌≡◌, ◌∙◌, ap}
use lib.IntN.{ℤ}
use mir.Syntax.{w64}
use mir.Val.{to_z, of_z}
use Rattle.program.specs.Program.{term_form}
use Rattle.program.specs.Directions.{plain_direction, away}
use native.Mathlib.Omega.{arith}
use Rattle.program.proofs.Pushes.{term_plain, term_least, term_below, term_unknown}
use borrow.Author.Rules.{rules}
use Rattle.positions.proofs.directions.of_term.Goals as goal

pub returns-in-0 : goal.returns-in-0
returns-in-0 c = let z : to_z w64 (of_z w64 c.args.t.number) ≡ c.args.t.number = search rules in
    c.plain.ensures ∙ ap (λ (k : ℤ). away c.args.h (plain_direction (term_form c.args.form) c.args.x k)) z ∙ term_plain _ _ _ c.args.t (omega arith)

pub returns-in-1 : goal.returns-in-1
returns-in-1 c = term_least _ _ _ _ (omega arith)

pub returns-in-2 : goal.returns-in-2
returns-in-2 c = term_below _ _ _ _ (omega arith)

pub returns-in-3-to-255 : goal.returns-in-3-to-255
returns-in-3-to-255 c = term_unknown _ _ _ _ (omega arith)
