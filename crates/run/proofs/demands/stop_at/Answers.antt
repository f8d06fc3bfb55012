-- Nothing stops; or the mask's bit says that the stop is given; or what is given is cut off.
use mathlib.Core.Path.{◌≡◌, ap, ◌∙◌}
use lib.IntN.{ℤ}
use mir.Syntax.{w64}
use mir.Val.{to_z, of_z}
use borrow.Author.Tests.{eq-eqb, ne_eqb}
use Rattle.words.specs.Bit.{bit}
use Rattle.program.specs.Variables.{cut_off}
use Rattle.run.proofs.RunLaws.{never_stops, stops_free, stops_cut}
use borrow.Author.Rules.{rules}
use Rattle.run.proofs.demands.stop_at.Goals as goal

pub returns-then-not-cut : goal.returns-then-not-cut
returns-then-not-cut c = never_stops c.args.x c.args.given c.args.stop c.args.mask c.if-not-cut.true

pub returns-then-mask-eq1 : goal.returns-then-mask-eq1
unfolding bit
returns-then-mask-eq1 c = let y : to_z w64 (of_z w64 c.args.stop) ≡ c.args.stop = search rules in
    rw y (stops_free c.args.x c.args.given c.args.stop c.args.mask c.if-not-cut.false (eq-eqb _ 1 c.if-mask-eq1.true))

pub returns : goal.returns
unfolding bit
returns c = let y : to_z w64 (of_z w64 c.args.stop) ≡ c.args.stop = search rules in
    stops_cut c.args.x c.args.given c.args.stop c.args.mask c.if-not-cut.false (ne_eqb _ 1 c.if-mask-eq1.false)
    (c.cut_off.ensures ∙ ap (λ (z : ℤ). cut_off c.args.x z c.args.given) y)
