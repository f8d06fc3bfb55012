-- Each way of the two tests is a case of the definition.
use mathlib.Core.Path.{◌≡◌, sym, ◌∙◌}
use mir.Syntax.{w64}
use mir.Val.{to_z, of_z}
use borrow.Author.Rules.{rules}
use borrow.Author.Tests.{not-true, not-false}
use Rattle.program.specs.Variables.{not_past}
use Rattle.ascent.proofs.looking.no_further.Goals as goal
use Rattle.ascent.proofs.looking.no_further.Goals.{else-full-via-then-full+else-is_before, else-full-via-else-full}

pub returns-then-is_before : goal.returns-then-is_before
returns-then-is_before c = let y : to_z w64 (of_z w64 c.args.stop) ≡ c.args.stop = search rules in
    let z : to_z w64 (of_z w64 c.args.a) ≡ c.args.a = search rules in
    let e = simp (y, z) at c.is_before.ensures in
    rw (c.if-full.true, not-true (not_past c.args.x c.args.a c.args.stop) (sym e ∙ c.if-is_before.true)) y

pub returns : goal.returns
returns c = let y : to_z w64 (of_z w64 c.args.stop) ≡ c.args.stop = search rules in
    let z : to_z w64 (of_z w64 c.args.a) ≡ c.args.a = search rules in
    elim c.else-full.branch [
      | else-full-via-then-full+else-is_before w ↦
          let e = simp (y, z) at w.is_before.ensures in
          rw (w.if-full.true, not-false (not_past c.args.x c.args.a c.args.stop) (sym e ∙ w.if-is_before.false)) z
      | else-full-via-else-full w ↦ rw w.if-full.false z
    ]
