-- A position without steps takes nothing; else the smaller of its number's size and of how often its stride goes into the room.
use mathlib.Core.Path.{◌≡◌, sym, ap, ap₂, ◌∙◌}
use native.Mathlib.Omega.{arith}
use lib.IntN.{ℤ, pos, nat_abs}
use lib.Signed.{quot_z}
use mir.Syntax.{w64}
use mir.Val.{SFits, to_z, of_z}
use mir.Facts.{to_z-of_z}
use Rattle.program.specs.Evaluate.{smaller}
use Rattle.evaluation.proofs.Rounding.{quotient_fits, divisor_bits}
use Rattle.steady.proofs.Machine.{weight_none, weight_some}
use borrow.Author.Rules.{rules}
use Rattle.steady.proofs.steps.weight.Goals as goal

quotient_is : (room stride : ℤ) → SFits w64 room → SFits w64 stride → SFits w64 (quot_z room stride)
    → to_z w64 (of_z w64 (quot_z (to_z w64 (of_z w64 room)) (to_z w64 (of_z w64 stride)))) ≡ quot_z room stride
quotient_is room stride r s q = rw (to_z-of_z r, to_z-of_z s) (to_z-of_z q)

pub returns-then-steps-eq0 : goal.returns-then-steps-eq0
returns-then-steps-eq0 c = weight_none _ _ _ c.args.steps (sym (to_z-of_z c.ranges.steps) ∙ ap (to_z w64) c.if-steps-eq0.true)

pub nonzero_div-room : goal.nonzero_div-room
nonzero_div-room c = rw (to_z-of_z c.ranges.room, to_z-of_z c.ranges.stride) (divisor_bits c.args.stride c.requires.2, quotient_fits c.args.room c.args.stride (omega (arith, c.requires.1)) c.requires.2)

pub size-requires : goal.size-requires
size-requires c = rw (to_z-of_z c.ranges.number) (omega (arith, c.requires.1))

pub returns : goal.returns
returns c = let q = quotient_fits c.args.room c.args.stride (omega (arith, c.requires.1)) c.requires.2 in
    let z : to_z w64 (of_z w64 c.extreme.result) ≡ c.extreme.result = search rules in
    let v : to_z w64 (of_z w64 c.size.result) ≡ c.size.result = search rules in
    z ∙ c.extreme.ensures ∙ ap₂ smaller (quotient_is c.args.room c.args.stride c.ranges.room c.ranges.stride q) (v ∙ c.size.ensures ∙ ap (λ (k : ℤ). pos (nat_abs k)) (to_z-of_z c.ranges.number))
    ∙ weight_some c.args.room c.args.number c.args.stride c.args.steps c.requires.0 c.requires.2 c.if-steps-eq0.false
