-- Invariant: no literal before position i holds.
use mathlib.Core.Path.{◌≡◌, refl, sym, ◌∙◌}
use mathlib.Core.Bool.{false}
use Prim.Native.Nat.{◌<◌, ◌-◌}
use native.Mathlib.Omega.{arith}
use lib.ListN.{length}
use Rattle.program.specs.Program.{terms_of}
use Rattle.program.proofs.Bodies.{terms_length}
use Rattle.program.proofs.Conditions.{any_none, any_more, below_some}
use Rattle.bodies.proofs.any_holds.Goals as goal

pub loop-i-init : goal.loop-i-init
loop-i-init c = (omega arith, refl, any_none _)

pub is_met-requires : goal.is_met-requires
is_met-requires c = (omega arith, omega arith)

pub returns-then-is_met : goal.returns-then-is_met
returns-then-is_met c = let l : c.loop-i.i < length (terms_of c.args.body.now) = omega (arith, terms_length c.args.body.now) in
    sym (below_some _ _ c.loop-i.i l (sym c.is_met.ensures ∙ c.if-is_met.true))

pub loop-i-preserved : goal.loop-i-preserved
loop-i-preserved c = (omega arith, refl, any_more _ _ _ _ c.loop-i.invariant.2 (sym c.if-is_met.false ∙ c.is_met.ensures))

pub returns : goal.returns
returns c = let e : c.loop-i.i ≡ length (terms_of c.args.body.now) = omega (arith, terms_length c.args.body.now) in
    rw e at c.loop-i.invariant.2
