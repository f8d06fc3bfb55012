-- Each arm asks what its form says of the body.
use mathlib.Core.Path.{◌≡◌, sym, ap, ◌∙◌}
use native.Mathlib.Omega.{arith}
use lib.IntN.{ℤ, pos}
use lib.Signed.{le_z}
use mir.Syntax.{w64}
use mir.Val.{to_z, of_z}
use Rattle.evaluation.proofs.Asks.{handed_weights, asks_sum, asks_literal}
use borrow.Author.Rules.{rules}
use Rattle.evaluation.proofs.constraints.satisfied.Goals as goal

pub sum-requires : goal.sum-requires
sum-requires c = let z : to_z w64 (of_z w64 c.header-header.result.c) ≡ c.header-header.result.c = search rules in record { c_bound = (rw (z ∙ c.header-header.ensures.1) c.requires.satisfiable.near, omega (arith, c.requires.satisfiable.few, c.body-body.ensures.many)); coefficients = handed_weights c.args.value.now c.body-body.ensures (sym c.header-header.ensures.0 ∙ c.in-1.is) c.requires.satisfiable; small = (c.requires.small, c.requires.small) }

pub any_holds-requires : goal.any_holds-requires
any_holds-requires c = omega (arith, c.requires.satisfiable.few, c.body-body.ensures.many)

pub returns-in-1 : goal.returns-in-1
returns-in-1 c = let z : to_z w64 (of_z w64 c.header-header.result.c) ≡ c.header-header.result.c = search rules in
    let r : to_z w64 (of_z w64 c.sum.result) ≡ c.sum.result = search rules in
    ap (λ (x : ℤ). le_z x (pos 0)) (r ∙ c.sum.ensures)
    ∙ asks_sum c.args.value.now c.body-body.ensures 0 c.args.values.now (sym c.header-header.ensures.0 ∙ c.in-1.is) (z ∙ c.header-header.ensures.1)

pub returns-in-2 : goal.returns-in-2
returns-in-2 c = c.any_holds.ensures
    ∙ asks_literal c.args.value.now c.body-body.ensures 0 c.args.values.now (sym c.header-header.ensures.0 ∙ c.in-2.is)

pub returns-in-0 : goal.returns-in-0
returns-in-0 c = absurd (omega (arith, c.requires.satisfiable.from, c.header-header.ensures.0))

pub returns-in-0-2 : goal.returns-in-0-2
returns-in-0-2 c = absurd (omega (arith, c.requires.satisfiable.from, c.requires.satisfiable.to, c.header-header.ensures.0))
