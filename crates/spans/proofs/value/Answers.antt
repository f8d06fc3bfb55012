use Prim.Native.Nat.{ℕ}
use mathlib.Core.Path.{◌≡◌, ◌∙◌}
use mir.Syntax.{w64}
use mir.Val.{to_z, of_z}
use borrow.Author.Rules.{rules}
use native.Mathlib.Omega.{arith}
use Rattle.noderules.proofs.Putting.{puts_length}
use Rattle.noderules.proofs.Rules.{node_size}
use Rattle.spans.proofs.NodeValues.{value_evaluable, value_headed, value_given}
use Rattle.spans.proofs.value.Goals as goal

pub slice_bounds-gives-end : goal.slice_bounds-gives-end
slice_bounds-gives-end c = omega (arith, c.put_node-end.ensures.ends, puts_length c.put_node-end.ensures (omega (arith, node_size c.args.s.now c.args.node)), node_size c.args.s.now c.args.node)

pub gives-requires : goal.gives-requires
gives-requires c = record {
  evaluable = value_evaluable _ _ c.requires.writable.0 c.requires.writable.1 c.requires.writable.2 c.requires.writable.3 c.put_node-end.ensures;
  rule_header_in_bounds = value_headed _ _ c.requires.writable.0 c.requires.writable.1 c.requires.writable.2 c.requires.writable.3 c.put_node-end.ensures;
  small = (c.requires.small, c.requires.small);
}

pub returns-in-Some : goal.returns-in-Some
returns-in-Some c = let v = value_given _ _ c.requires.writable.0 c.requires.writable.1 c.requires.writable.2 c.requires.writable.3 c.put_node-end.ensures c.args.table.now c.gives.ensures in
    let z : to_z w64 (of_z w64 c.in-Some.a) ≡ c.in-Some.a = search rules in
    z ∙ cc (c.in-Some.is, v)

pub returns-in-None : goal.returns-in-None
returns-in-None c = let v = value_given _ _ c.requires.writable.0 c.requires.writable.1 c.requires.writable.2 c.requires.writable.3 c.put_node-end.ensures c.args.table.now c.gives.ensures in
    let z : ◌≡◌ {A = ℕ} 0 1 = cc v in
    absurd (omega arith)
