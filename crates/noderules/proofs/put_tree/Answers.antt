use native.Mathlib.Omega.{arith}
use Rattle.noderules.proofs.Putting.{puts_same, puts_length, puts_more}
use Rattle.noderules.proofs.Lefts.{left_begun}
use Rattle.noderules.proofs.Rules.{node_size, flat_bytes, root_room}
use Rattle.noderules.proofs.put_tree.Goals as goal

pub put_node-end-requires : goal.put_node-end-requires
put_node-end-requires c = (c.root.ensures.writable.0, omega (arith, root_room c.args.head c.args.next c.args.s.now c.root.result c.args.at _ c.root.ensures.n_value c.requires.s_in_bounds))

pub put_inner-requires : goal.put_inner-requires
put_inner-requires c = let room = root_room c.args.head c.args.next c.args.s.now c.root.result c.args.at _ c.root.ensures.n_value c.requires.s_in_bounds in
    let l = node_size c.args.s.now c.root.result in
    (left_begun c.requires.one_tree.0 _ c.requires.one_tree.1, omega (arith, c.put_node-end.ensures.ends, puts_length c.put_node-end.ensures (omega arith)))

pub returns : goal.returns
returns c = let room = root_room c.args.head c.args.next c.args.s.now c.root.result c.args.at _ c.root.ensures.n_value c.requires.s_in_bounds in
    let l = node_size c.args.s.now c.root.result in
    puts_same _ (flat_bytes c.args.head c.args.next c.args.s.now c.root.result c.root.ensures.writable.1) (puts_more c.put_node-end.ensures (omega arith) c.put_inner.ensures)
