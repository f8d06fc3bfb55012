-- What the rule gives is held against its head's value, in the order of the head's variable; where lifts stop, it is stopped there before.
use Prim.Native.Nat.{ℕ}
use mathlib.Core.Path.{◌≡◌, ap, ◌∙◌}
use lib.IntN.{ℤ, pos}
use lib.ListN.{get_or}
use mir.Syntax.{w64}
use mir.Val.{to_z, of_z}
use Rattle.run.specs.Running.{head_of}
use Rattle.run.proofs.RunLaws.{head_lies, here_head, head_field, head_variable, looked}
use Rattle.run.proofs.PastLaws.{looked_past}
use borrow.Author.Rules.{rules}
use Rattle.run.proofs.demands.look_at.Goals as goal

pub head_at-head-requires : goal.head_at-head-requires
head_at-head-requires c = head_lies c.requires.some_rule.here

pub variable-x-requires : goal.variable-x-requires
variable-x-requires c = head_field c.requires.some_rule.here c.head_at-head.ensures

pub returns-then-not-source : goal.returns-then-not-source
returns-then-not-source c = let v : ℤ = get_or c.args.model.now c.wide-v.result (pos 0) in
    let z : to_z w64 (of_z w64 v) ≡ v = search rules in
    λ P i g.
    looked_past P _ c.args.source.now.stops.now c.args.source.now.others.now c.args.model.now i c.exceeds.ensures (c.demand_past-past.ensures P i g)
    (head_variable g c.head_at-head.ensures c.variable-x.ensures)
    (z ∙ ap (λ (k : ℕ). get_or c.args.model.now k (pos 0)) (c.wide-v.ensures.0 ∙ here_head g c.head_at-head.ensures))
    c.if-not-source.true

pub returns : goal.returns
returns c = let v : ℤ = get_or c.args.model.now c.wide-v.result (pos 0) in
    let w : ℤ = get_or c.args.source.now.stops.now c.wide-v.result (pos 0) in
    let z : to_z w64 (of_z w64 v) ≡ v = search rules in
    let y : to_z w64 (of_z w64 w) ≡ w = search rules in
    λ P i g.
    let e : c.wide-v.result ≡ head_of P i = c.wide-v.ensures.0 ∙ here_head g c.head_at-head.ensures in
    looked P _ c.args.source.now.cut c.args.source.now.stops.now c.args.source.now.others.now c.args.model.now i c.exceeds-2.ensures c.stop_at.ensures
    (head_variable g c.head_at-head.ensures c.variable-x.ensures) (c.demand-given.ensures P i g)
    (z ∙ ap (λ (k : ℕ). get_or c.args.model.now k (pos 0)) e)
    (y ∙ ap (λ (k : ℕ). get_or c.args.source.now.stops.now k (pos 0)) e)
