-- Invariant: the largest, or the smallest, of the first i values; a turn takes the larger, or the smaller, of it and the next.
use mathlib.Core.Path.{◌≡◌, refl, ap, ap₂, ◌∙◌}
use Prim.Native.Nat.{ℕ, ◌-◌}
use native.Mathlib.Omega.{arith}
use lib.ListN.{length}
use Rattle.program.specs.Program.{terms_of}
use Rattle.program.specs.Evaluate.{pick_to}
use Rattle.program.proofs.Bodies.{terms_length}
use Rattle.bodies.specs.Readings.{extreme}
use mir.Syntax.{w64}
use mir.Val.{to_z, of_z}
use Rattle.bodies.proofs.Loops.{pick_one, pick_more}
use Rattle.sided.specs.Sides.{sided_reading}
use borrow.Author.Rules.{rules}
use Rattle.sided.proofs.extreme.Goals as goal

pub read_plain-found-requires : goal.read_plain-found-requires
read_plain-found-requires c = record { i_in_bounds = omega arith; i_value = c.requires.plain 0 (omega (arith, terms_length c.args.body.now)) }

pub loop-i-init : goal.loop-i-init
loop-i-init c = let r : to_z w64 (of_z w64 c.read_plain-found.result) ≡ c.read_plain-found.result = search rules in
    (omega arith, omega arith, refl, r ∙ c.read_plain-found.ensures ∙ pick_one _ _)

pub read_plain-requires : goal.read_plain-requires
read_plain-requires c = record { i_in_bounds = omega arith; i_value = c.requires.plain c.loop-i.i (omega (arith, terms_length c.args.body.now)) }

pub loop-i-preserved : goal.loop-i-preserved
loop-i-preserved c = let r : to_z w64 (of_z w64 c.extreme-found.result) ≡ c.extreme-found.result = search rules in
    let v : to_z w64 (of_z w64 c.read_plain.result) ≡ c.read_plain.result = search rules in
    (omega arith, omega arith, refl, r ∙ c.extreme-found.ensures ∙ ap₂ (extreme c.args.most) c.loop-i.invariant.3 (v ∙ c.read_plain.ensures) ∙ pick_more _ _ c.loop-i.i c.loop-i.invariant.0)

pub returns : goal.returns
returns c = let e : c.loop-i.i ≡ length (terms_of c.args.body.now) = omega (arith, terms_length c.args.body.now) in
    c.loop-i.invariant.3 ∙ ap (λ (n : ℕ). pick_to (extreme c.args.most) (sided_reading c.args.sides.now 0 c.args.side (terms_of c.args.body.now)) (n - 1)) e
