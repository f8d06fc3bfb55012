-- Invariant: the largest, or the smallest, of the first i values; a turn takes the larger, or the smaller, of it and the next.
use mathlib.Core.Path.{◌≡◌, refl, ap, ap₂, ◌∙◌}
use Prim.Native.Nat.{ℕ, ◌-◌}
use native.Mathlib.Omega.{arith}
use lib.ListN.{length}
use Rattle.program.specs.Program.{terms_of}
use Rattle.program.specs.Evaluate.{pick_to}
use Rattle.program.proofs.Bodies.{terms_length}
use Rattle.bodies.specs.Readings.{reading_of, extreme}
use mir.Syntax.{w64}
use mir.Val.{to_z, of_z}
use Rattle.bodies.proofs.Loops.{pick_one, pick_more}
use borrow.Author.Rules.{rules}
use Rattle.bodies.proofs.extreme.Goals as goal

pub read_position-found-requires : goal.read_position-found-requires
read_position-found-requires c = (omega arith, omega arith)

pub loop-i-init : goal.loop-i-init
loop-i-init c = let r : to_z w64 (of_z w64 c.read_position-found.result) ≡ c.read_position-found.result = search rules in
    (omega arith, omega arith, refl, r ∙ c.read_position-found.ensures ∙ pick_one _ _)

pub read_position-requires : goal.read_position-requires
read_position-requires c = (omega arith, omega arith)

pub loop-i-preserved : goal.loop-i-preserved
loop-i-preserved c = let r : to_z w64 (of_z w64 c.extreme-found.result) ≡ c.extreme-found.result = search rules in
    let v : to_z w64 (of_z w64 c.read_position.result) ≡ c.read_position.result = search rules in
    (omega arith, omega arith, refl, r ∙ c.extreme-found.ensures ∙ ap₂ (extreme c.args.most) c.loop-i.invariant.3 (v ∙ c.read_position.ensures) ∙ pick_more _ _ c.loop-i.i c.loop-i.invariant.0)

pub returns : goal.returns
returns c = let e : c.loop-i.i ≡ length (terms_of c.args.body.now) = omega (arith, terms_length c.args.body.now) in
    c.loop-i.invariant.3 ∙ ap (λ (n : ℕ). pick_to (extreme c.args.most) (reading_of c.args.readings.kept c.args.readings.first.now c.args.readings.second.now (terms_of c.args.body.now)) (n - 1)) e
