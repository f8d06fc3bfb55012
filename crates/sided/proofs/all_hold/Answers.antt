-- Invariant: every literal before position i holds.
use mathlib.Core.Path.{◌≡◌, refl, sym, ap, ap₂, ◌∙◌}
use mathlib.Core.Bool.{◌&&◌}
use Prim.Native.Nat.{◌<◌}
use native.Mathlib.Omega.{arith}
use lib.ListN.{length}
use Rattle.program.specs.Program.{terms_of}
use Rattle.program.specs.Evaluate.{all_hold}
use Rattle.program.proofs.Bodies.{terms_length}
use Rattle.bodies.proofs.Loops.{hold_none, hold_more, hold_fails}
use Rattle.sided.proofs.all_hold.Goals as goal

pub loop-i-init : goal.loop-i-init
loop-i-init c = (omega arith, refl, λ form side. hold_none _ _)

pub returns-then-not-is_met : goal.returns-then-not-is_met
returns-then-not-is_met c form side = let l : c.loop-i.i < length (terms_of c.args.body.now) = omega (arith, terms_length c.args.body.now) in
    sym (hold_fails _ _ c.loop-i.i _ l (sym (c.is_met.ensures form side) ∙ c.if-not-is_met.true))

pub loop-i-preserved : goal.loop-i-preserved
loop-i-preserved c = (omega arith, refl, λ form side. ap₂ ◌&&◌ (c.loop-i.invariant.2 form side) (sym c.if-not-is_met.false ∙ c.is_met.ensures form side) ∙ hold_more _ _ _)

pub returns : goal.returns
returns c form side = let e : c.loop-i.i ≡ length (terms_of c.args.body.now) = omega (arith, terms_length c.args.body.now) in
    c.loop-i.invariant.2 form side ∙ ap (all_hold _ _) e
