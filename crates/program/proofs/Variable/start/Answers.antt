-- By its definition.
use mathlib.Core.Path.{◌≡◌, ◌∙◌}
use mir.Syntax.{w64}
use mir.Val.{to_z, of_z}
use borrow.Author.Rules.{rules}
use Rattle.program.specs.Variables.{start}
use Rattle.program.proofs.Variable.start.Goals as goal

pub returns : goal.returns
unfolding start
returns c = let l : to_z w64 (of_z w64 c.args.self.low) ≡ c.args.self.low = search rules in
    let h : to_z w64 (of_z w64 c.args.self.high) ≡ c.args.self.high = search rules in
    let z : to_z w64 (of_z w64 c.swaps.result) ≡ c.swaps.result = search rules in
    z ∙ simp (l, h) at c.swaps.ensures
