-- What the rule gives past its head's value, in the values on their sides, is what it demands; a head that has its stop needs no look.
use Rattle.std.specs.Prelude.{Some}
use mathlib.Core.Path.{◌≡◌, sym, ap, ◌∙◌}
use mathlib.Core.Bool.{true≢false}
use lib.IntN.{ℤ, pos}
use lib.ListN.{get_or}
use mir.Syntax.{w64}
use mir.Val.{to_z, of_z}
use borrow.Author.Rules.{rules}
use Rattle.program.specs.Readings.{valued}
use Rattle.run.proofs.RunLaws.{head_lies, here_head, here_evaluable, here_headed, head_field, head_variable}
use Rattle.ascent.proofs.LookLaws.{some_standing, look_full, look_more, look_enough}
use Rattle.ascent.proofs.looking.look.Goals as goal
use Rattle.ascent.proofs.looking.look.Goals.{else-full-via-then-full+else-has-stop, else-full-via-else-full}

pub value_at-value-requires : goal.value_at-value-requires
value_at-value-requires c = (head_lies c.requires.some_rule.here).0

pub head_at-head-requires : goal.head_at-head-requires
head_at-head-requires c = head_lies c.requires.some_rule.here

pub variable-x-requires : goal.variable-x-requires
variable-x-requires c = head_field c.requires.some_rule.here c.head_at-head.ensures

pub returns-then-has-stop : goal.returns-then-has-stop
returns-then-has-stop c = let b : ℤ = get_or c.args.stops.now c.wide.result (pos 0) in
    let r : to_z w64 (of_z w64 c.read-has.result) ≡ c.read-has.result = search rules in
    let y : to_z w64 (of_z w64 b) ≡ b = search rules in
    λ P R θ i h o.
    look_full h (head_variable h c.head_at-head.ensures c.variable-x.ensures) o (here_head h c.head_at-head.ensures) c.is_from_above.ensures c.read-has.ensures
    (ap (valued c.args.stops.now) c.wide.ensures.0) c.if-full.true (sym r ∙ ap (to_z w64) c.if-has-stop.true ∙ y)

pub plain_side-side-requires : goal.plain_side-side-requires
plain_side-side-requires c = record { some_standing = some_standing c.requires.some_rule.here c.value_at-value.ensures; evaluable = here_evaluable c.requires.some_rule.here c.value_at-value.ensures }

pub gives_past-past-requires : goal.gives_past-past-requires
gives_past-past-requires c = record { evaluable = here_evaluable c.requires.some_rule.here c.value_at-value.ensures; rule_header_in_bounds = here_headed c.requires.some_rule.here c.value_at-value.ensures; small = c.requires.small }

pub returns-in-Some : goal.returns-in-Some
returns-in-Some c = let b : ℤ = get_or c.args.stops.now c.wide.result (pos 0) in
    let r : to_z w64 (of_z w64 c.read-has.result) ≡ c.read-has.result = search rules in
    let y : to_z w64 (of_z w64 b) ≡ b = search rules in
    let t : to_z w64 (of_z w64 c.in-Some.a) ≡ c.in-Some.a = search rules in
    let q : to_z w64 (of_z w64 c.no_further.result) ≡ c.no_further.result = search rules in
    λ P R θ i h o.
    look_more h (head_variable h c.head_at-head.ensures c.variable-x.ensures) c.value_at-value.ensures o (here_head h c.head_at-head.ensures) c.is_from_above.ensures (r ∙ c.read-has.ensures)
    (y ∙ ap (valued c.args.stops.now) c.wide.ensures.0)
    (elim c.else-full.branch [
      | else-full-via-then-full+else-has-stop w ↦ λ e d. w.if-has-stop.false (ap (of_z w64) (sym r ∙ d ∙ y))
      | else-full-via-else-full w ↦ λ e d. true≢false (sym e ∙ w.if-full.false)
    ])
    c.plain_side-side.ensures c.gives_past-past.ensures (c.in-Some.is ∙ ap Some (sym t)) (q ∙ c.no_further.ensures)

pub returns-in-None : goal.returns-in-None
returns-in-None c = let b : ℤ = get_or c.args.stops.now c.wide.result (pos 0) in
    let r : to_z w64 (of_z w64 c.read-has.result) ≡ c.read-has.result = search rules in
    let y : to_z w64 (of_z w64 b) ≡ b = search rules in
    λ P R θ i h o.
    look_enough h (head_variable h c.head_at-head.ensures c.variable-x.ensures) c.value_at-value.ensures o (here_head h c.head_at-head.ensures) c.is_from_above.ensures (r ∙ c.read-has.ensures)
    (y ∙ ap (valued c.args.stops.now) c.wide.ensures.0)
    (elim c.else-full.branch [
      | else-full-via-then-full+else-has-stop w ↦ λ e d. w.if-has-stop.false (ap (of_z w64) (sym r ∙ d ∙ y))
      | else-full-via-else-full w ↦ λ e d. true≢false (sym e ∙ w.if-full.false)
    ])
    c.plain_side-side.ensures c.gives_past-past.ensures c.in-None.is
