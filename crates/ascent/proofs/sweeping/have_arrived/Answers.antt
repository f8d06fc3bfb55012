-- Invariant: of the variables before v those that are founded have their stops.
use Prim.Native.Nat.{◌<◌}
use mathlib.Core.Path.{◌≡◌, sym, ap, ◌∙◌}
use mathlib.Core.Bool.{true≢false}
use native.Mathlib.Omega.{arith}
use lib.IntN.{ℤ, pos}
use lib.ListN.{take, get_or}
use lib.Seq.{length-take-le, get_or-take}
use mir.Syntax.{w64}
use mir.Val.{to_z, of_z}
use borrow.Author.Rules.{rules}
use Rattle.program.specs.Program.{variables_at}
use Rattle.program.specs.Variables.{is_founded}
use Rattle.program.proofs.Tests.{is_true}
use Rattle.ascent.proofs.ClimbLaws.{arrived_more}
use Rattle.ascent.proofs.sweeping.have_arrived.Goals as goal
use Rattle.ascent.proofs.sweeping.have_arrived.Goals.{else-has-stop-via-then-has-stop+else-is_founded, else-has-stop-via-else-has-stop}

pub loop-v-init : goal.loop-v-init
loop-v-init c = λ w l. absurd (omega arith)

pub returns-then-is_founded : goal.returns-then-is_founded
returns-then-is_founded c = λ t. absurd (true≢false (sym t))

pub loop-v-preserved : goal.loop-v-preserved
loop-v-preserved c = let b : ℤ = get_or (take c.args.n c.args.stops.now) c.loop-v.v (pos 0) in
    let h : c.loop-v.v < c.args.n = omega (arith, length-take-le c.args.n c.args.stops.now) in
    let r : to_z w64 (of_z w64 c.read-has.result) ≡ c.read-has.result = search rules in
    let y : to_z w64 (of_z w64 b) ≡ b = search rules in
    arrived_more (variables_at c.args.file.now c.args.n) c.args.stops.now c.args.sides.now c.loop-v.invariant (c.variable-x.ensures c.args.n h) c.is_from_above.ensures c.read-has.ensures
    (get_or-take c.args.n c.args.stops.now c.loop-v.v (pos 0) h)
    (elim c.else-has-stop.branch [
      | else-has-stop-via-then-has-stop+else-is_founded w ↦ λ t. absurd (true≢false (sym (w.is_founded.ensures ∙ is_true (is_founded c.variable-x.result) t) ∙ w.if-is_founded.false))
      | else-has-stop-via-else-has-stop w ↦ λ t. sym r ∙ ap (to_z w64) w.if-has-stop.false ∙ y
    ])

pub returns : goal.returns
returns c = λ t v l. c.loop-v.invariant v (omega (arith, l, c.loop-v-test.false, length-take-le c.args.n c.args.stops.now))
