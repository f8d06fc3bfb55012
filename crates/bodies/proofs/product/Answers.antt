-- Both factors are small, so the product fits.
use mathlib.Core.Path.{◌≡◌, ap₂, ◌∙◌}
use lib.IntN.{◌*ℤ◌}
use mir.Syntax.{w64}
use mir.Val.{to_z, of_z}
use Rattle.program.specs.Program.{terms_of}
use Rattle.bodies.proofs.Loops.{product_fit}
use borrow.Author.Rules.{rules}
use Rattle.bodies.proofs.product.Goals as goal

pub times-requires : goal.times-requires
times-requires c = let x : to_z w64 (of_z w64 c.read_position.result) ≡ c.read_position.result = search rules in
    let y : to_z w64 (of_z w64 c.read_position-2.result) ≡ c.read_position-2.result = search rules in
    product_fit c.args.readings.kept c.args.readings.first.now c.args.readings.second.now (terms_of c.args.body.now) 0 1 (x ∙ c.read_position.ensures) (y ∙ c.read_position-2.ensures) c.requires.small.0 c.requires.small.1

pub returns : goal.returns
returns c = let x : to_z w64 (of_z w64 c.read_position.result) ≡ c.read_position.result = search rules in
    let y : to_z w64 (of_z w64 c.read_position-2.result) ≡ c.read_position-2.result = search rules in
    let z : to_z w64 (of_z w64 c.times.result) ≡ c.times.result = search rules in
    z ∙ c.times.ensures ∙ ap₂ ◌*ℤ◌ (x ∙ c.read_position.ensures) (y ∙ c.read_position-2.ensures)
