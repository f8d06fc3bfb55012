-- Where the target is not open the aim stays; else it is lifted to what the rule is estimated to give.
use Prim.Native.Nat.{ℕ}
use mathlib.Core.Path.{◌≡◌, sym, ap, ◌∙◌}
use mir.Syntax.{w64}
use mir.Val.{to_z, of_z}
use lib.IntN.{pos}
use lib.ListN.{get_or}
use borrow.Author.Rules.{rules}
use Rattle.run.specs.Running.{head_of}
use Rattle.run.proofs.RunLaws.{head_lies, here_head, head_field, head_variable, here_evaluable, here_headed}
use Rattle.targets.proofs.LiftLaws.{closed_next, open_next, estimate_here}
use Rattle.targets.proofs.lifting.next_aim.Goals as goal

pub head_at-head-requires : goal.head_at-head-requires
head_at-head-requires c = head_lies c.requires.some_rule.here

pub variable-x-requires : goal.variable-x-requires
variable-x-requires c = head_field c.requires.some_rule.here c.head_at-head.ensures

pub returns-then-not-is_open : goal.returns-then-not-is_open
returns-then-not-is_open c = let v : ℕ = c.wide-v.result in
    let z : to_z w64 (of_z w64 (get_or c.args.aims.now v (pos 0))) ≡ get_or c.args.aims.now v (pos 0) = search rules in
    let y : to_z w64 (of_z w64 (get_or c.args.source.now.stops.now v (pos 0))) ≡ get_or c.args.source.now.stops.now v (pos 0) = search rules in
    let t : to_z w64 (of_z w64 (get_or c.args.target.now v (pos 0))) ≡ get_or c.args.target.now v (pos 0) = search rules in
    λ P i h.
    let e : v ≡ head_of P i = c.wide-v.ensures.0 ∙ here_head h c.head_at-head.ensures in
    closed_next P c.args.mask c.args.source.now.cut c.args.strides.now c.args.source.now.stops.now c.args.source.now.others.now c.args.model.now c.args.target.now c.args.aims.now i
    (head_variable h c.head_at-head.ensures c.variable-x.ensures)
    (y ∙ ap (λ (k : ℕ). get_or c.args.source.now.stops.now k (pos 0)) e)
    (z ∙ ap (λ (k : ℕ). get_or c.args.aims.now k (pos 0)) e)
    (t ∙ ap (λ (k : ℕ). get_or c.args.target.now k (pos 0)) e)
    (sym c.is_open.ensures ∙ c.if-not-is_open.true)

pub value_at-requires : goal.value_at-requires
value_at-requires c = (head_lies c.requires.some_rule.here).0

pub estimate-given-requires : goal.estimate-given-requires
estimate-given-requires c = record { evaluable = here_evaluable c.requires.some_rule.here c.value_at.ensures; rule_header_in_bounds = here_headed c.requires.some_rule.here c.value_at.ensures; small = c.requires.small }

pub returns : goal.returns
returns c = let v : ℕ = c.wide-v.result in
    let z : to_z w64 (of_z w64 (get_or c.args.aims.now v (pos 0))) ≡ get_or c.args.aims.now v (pos 0) = search rules in
    let y : to_z w64 (of_z w64 (get_or c.args.source.now.stops.now v (pos 0))) ≡ get_or c.args.source.now.stops.now v (pos 0) = search rules in
    let t : to_z w64 (of_z w64 (get_or c.args.target.now v (pos 0))) ≡ get_or c.args.target.now v (pos 0) = search rules in
    let r : to_z w64 (of_z w64 c.lift_to.result) ≡ c.lift_to.result = search rules in
    λ P i h.
    let e : v ≡ head_of P i = c.wide-v.ensures.0 ∙ here_head h c.head_at-head.ensures in
    r ∙ open_next P c.args.mask c.args.source.now.cut c.args.strides.now c.args.source.now.stops.now c.args.source.now.others.now c.args.model.now c.args.target.now c.args.aims.now i
    (head_variable h c.head_at-head.ensures c.variable-x.ensures)
    (y ∙ ap (λ (k : ℕ). get_or c.args.source.now.stops.now k (pos 0)) e)
    (z ∙ ap (λ (k : ℕ). get_or c.args.aims.now k (pos 0)) e)
    (t ∙ ap (λ (k : ℕ). get_or c.args.target.now k (pos 0)) e)
    (sym c.is_open.ensures ∙ c.if-not-is_open.false)
    c.lift_to.ensures c.stop_at.ensures
    (estimate_here h c.value_at.ensures _ c.args.mask c.args.strides.now c.args.model.now c.args.aims.now c.args.source.now.others.now (here_head h c.head_at-head.ensures)
    c.estimate-given.ensures)
