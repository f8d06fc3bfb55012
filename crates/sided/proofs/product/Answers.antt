-- Both factors are small, so the product fits.
use mathlib.Core.Path.{◌≡◌, ap₂, ◌∙◌}
use native.Mathlib.Omega.{arith}
use lib.IntN.{◌*ℤ◌}
use mir.Syntax.{w64}
use mir.Val.{to_z, of_z}
use Rattle.program.specs.Program.{terms_of}
use Rattle.program.proofs.Bodies.{terms_length}
use Rattle.sided.proofs.Sided.{product_fit}
use borrow.Author.Rules.{rules}
use Rattle.sided.proofs.product.Goals as goal

pub read_plain-requires : goal.read_plain-requires
read_plain-requires c = record { i_in_bounds = omega arith; i_value = c.requires.plain 0 (omega (arith, terms_length c.args.body.now)) }

pub read_plain-requires-2 : goal.read_plain-requires-2
read_plain-requires-2 c = record { i_in_bounds = omega arith; i_value = c.requires.plain 1 (omega (arith, terms_length c.args.body.now)) }

pub times-requires : goal.times-requires
times-requires c = let x : to_z w64 (of_z w64 c.read_plain.result) ≡ c.read_plain.result = search rules in
    let y : to_z w64 (of_z w64 c.read_plain-2.result) ≡ c.read_plain-2.result = search rules in
    product_fit c.args.sides.now 0 c.args.side (terms_of c.args.body.now) c.requires.small 0 1 (x ∙ c.read_plain.ensures) (y ∙ c.read_plain-2.ensures)

pub returns : goal.returns
returns c = let x : to_z w64 (of_z w64 c.read_plain.result) ≡ c.read_plain.result = search rules in
    let y : to_z w64 (of_z w64 c.read_plain-2.result) ≡ c.read_plain-2.result = search rules in
    let z : to_z w64 (of_z w64 c.times.result) ≡ c.times.result = search rules in
    z ∙ c.times.ensures ∙ ap₂ ◌*ℤ◌ (x ∙ c.read_plain.ensures) (y ∙ c.read_plain-2.ensures)
