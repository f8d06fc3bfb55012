-- Each test is one of the definition.
use mathlib.Core.Path.{◌≡◌, ◌∙◌}
use mir.Syntax.{w64}
use mir.Val.{to_z, of_z}
use borrow.Author.Rules.{rules}
use Rattle.targets.proofs.AimLaws.{open_as}
use Rattle.targets.proofs.aims.is_open.Goals as goal

pub returns : goal.returns
returns c = let z : to_z w64 (of_z w64 c.far.result) ≡ c.far.result = search rules in
    let v : to_z w64 (of_z w64 c.args.value) ≡ c.args.value = search rules in
    let t : to_z w64 (of_z w64 c.args.target) ≡ c.args.target = search rules in
    let w : to_z w64 (of_z w64 c.args.stop) ≡ c.args.stop = search rules in
    open_as c.args.x c.args.cut c.args.stop c.args.value c.args.target c.is_founded-founded.ensures
    (simp (v, t) at c.is_before-after.ensures) (simp (z ∙ c.far.ensures, t) at c.is_before-past.ensures) (simp (w, t) at c.is_before-stopped.ensures)
