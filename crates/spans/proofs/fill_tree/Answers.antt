-- From the last node to the first after the root.
use Prim.Native.Nat.{ℕ, ◌+◌, ◌-◌, ◌*◌}
use mathlib.Core.Path.{◌≡◌, ap, ◌∙◌}
use mathlib.Core.Bool.{not}
use native.Mathlib.Omega.{arith}
use Rattle.noderules.proofs.Lefts.{tree_least, left_free, left_bytes, left_writable}
use Rattle.spans.proofs.FilledTrees.{inners_after, filling_begun, filling_tables, filling_back, filling_apart, filling_near, filling_tabled}
use Rattle.spans.proofs.FilledTrees.{filling_two, filling_leaf, filling_some, filling_left, filling_goes, filling_stops}
use Rattle.spans.proofs.fill_tree.Goals as goal

pub slice_bounds-inners-count : goal.slice_bounds-inners-count
slice_bounds-inners-count c = tree_least c.requires.one_tree.0

pub slice_bounds-inners-start : goal.slice_bounds-inners-start
slice_bounds-inners-start c = tree_least c.requires.one_tree.0

pub overflow_add-number : goal.overflow_add-number
overflow_add-number c = omega (arith, c.requires.one_tree.1, c.inners.ensures.0, inners_after c.args.s.now)

pub loop-i-init : goal.loop-i-init
loop-i-init c = let e = ap (λ (m : ℕ). c.args.next + m) (c.inners.ensures.0 ∙ inners_after c.args.s.now) in
    filling_begun c.args.kind c.requires.one_tree.0 c.requires.tables.0 c.requires.tables.1 _ e

pub overflow_sub-number : goal.overflow_sub-number
overflow_sub-number c = omega (arith, filling_some (2 * (c.loop-i.i - 1)) (omega arith) c.loop-i.number (filling_back c.loop-i.invariant (omega arith)) c.if-s-at-ne0.true)

pub inner_at-requires : goal.inner_at-requires
inner_at-requires c = let k = filling_apart c.loop-i.invariant (omega arith) c.if-s-at-ne0.true in
    let two = filling_two (2 * (c.loop-i.i - 1)) (omega arith) (c.loop-i.number - 1 + 1) k in
    (two, left_free (filling_left (2 * (c.loop-i.i - 1)) (omega arith) (c.loop-i.number - 1) c.if-s-at-ne0.true k c.requires.one_tree.0 c.requires.one_tree.1) two c.if-s-at-ne0.true)

pub fill_node-requires : goal.fill_node-requires
fill_node-requires c = let k = filling_apart c.loop-i.invariant (omega arith) c.if-s-at-ne0.true in
    let two = filling_two (2 * (c.loop-i.i - 1)) (omega arith) (c.loop-i.number - 1 + 1) k in
    let left = filling_left (2 * (c.loop-i.i - 1)) (omega arith) (c.loop-i.number - 1) c.if-s-at-ne0.true k c.requires.one_tree.0 c.requires.one_tree.1 in
    let b = left_bytes left two c.if-s-at-ne0.true in
    record {
      writable = rw c.inner_at.ensures (left_writable left two c.if-s-at-ne0.true, b.form_least, b.form_most, b.children_least);
      tables = (filling_tables c.loop-i.invariant, c.loop-i.invariant.fielded.many);
    }

pub returns-then-not-fill_node : goal.returns-then-not-fill_node
returns-then-not-fill_node c =
    let k = filling_apart c.loop-i.invariant (omega arith) c.if-s-at-ne0.true in
    let x = filling_stops (2 * (c.loop-i.i - 1)) (omega arith) (c.loop-i.number - 1) c.if-s-at-ne0.true k c.requires.one_tree.0 c.requires.one_tree.1 c.requires.all
    c.inner_at.ensures _ c.fill_node.result c.fill_node.ensures (ap not c.if-not-fill_node.true) in
    record { value = x.0; tables_2 = x.1; tabled = λ vs e t z. let y : ◌≡◌ {A = ℕ} 0 1 = cc in absurd (omega arith) }

pub loop-i-preserved-else-not-fill_node : goal.loop-i-preserved-else-not-fill_node
loop-i-preserved-else-not-fill_node c = let k = filling_apart c.loop-i.invariant (omega arith) c.if-s-at-ne0.true in
    filling_goes (2 * (c.loop-i.i - 1)) (omega arith) (c.loop-i.number - 1) c.if-s-at-ne0.true k c.requires.one_tree.0 c.requires.one_tree.1 c.requires.all
    c.inner_at.ensures _ c.fill_node.result c.fill_node.ensures (ap not c.if-not-fill_node.false)

pub loop-i-preserved : goal.loop-i-preserved
loop-i-preserved c = filling_leaf (2 * (c.loop-i.i - 1)) (omega arith) c.loop-i.number (filling_back c.loop-i.invariant (omega arith)) c.if-s-at-ne0.false

pub returns : goal.returns
returns c = record { value = filling_near c.loop-i.invariant (omega arith); tables_2 = (filling_tables c.loop-i.invariant, c.loop-i.invariant.fielded.many); tabled = λ vs e t z. filling_tabled c.loop-i.invariant (omega arith) c.requires.one_tree.1 vs e t }
