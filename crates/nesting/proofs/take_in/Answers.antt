-- The tree is checked, its variables are entered, and the totals grow.
use Rattle.std.proofs.lemmas.Result.{err_from_is_err_and}
use Rattle.std.specs.Prelude.{Result, Ok}
use mathlib.Core.Path.{◌≡◌, refl, ap, subst}
use mathlib.Core.Bool.{not}
use mathlib.Core.List.{List}
use Prim.Native.Nat.{ℕ}
use native.Mathlib.Omega.{arith}
use Rattle.treechecks.specs.Checking.{Sound, Checks}
use Rattle.nested.specs.Nested.{Nested}
use Rattle.treechecks.proofs.TreeValues.{value_long, part_rest}
use Rattle.nesting.specs.Surveying.{taken, turned_down}
use Rattle.nesting.proofs.Taking.{so_far_sizes, so_far_few, declared_many, sound_head, fill_asked, more_asked, fill_refused, fill_taken}
use Rattle.nesting.proofs.take_in.Goals as goal
use Rattle.meaning.specs.declared.Denied.{Denied}

-- what the check of the tree says
sound : {N : Nested} {value : List ℕ} (at : ℕ) {added : ℕ} {r : Result ℕ Denied} → Checks N value at r → r ≡ Ok added → Sound N value added
sound {N = N} {value = value} at x e = subst (Checks N value at) e x

pub check_tree-requires : goal.check_tree-requires
check_tree-requires c = let f = so_far_few c.requires.so_far in
    record { n_in_bounds = (c.requires.n_in_bounds.0, c.requires.n_in_bounds.1); variables_le_max_variables = (f.0, f.1) }

pub bounds-value-0 : goal.bounds-value-0
bounds-value-0 c = let l = value_long _ _ (sound _ (c.check_tree.ensures c.requires.so_far.program c.requires.so_far.declared (so_far_sizes c.requires.so_far)) c.in_ok-added.was).means in omega arith

pub variable-head-requires : goal.variable-head-requires
variable-head-requires c = let h = sound_head c.requires.so_far (sound _ (c.check_tree.ensures c.requires.so_far.program c.requires.so_far.declared (so_far_sizes c.requires.so_far)) c.in_ok-added.was) in let d = declared_many c.requires.so_far in omega arith

pub slice_bounds-tree-count : goal.slice_bounds-tree-count
slice_bounds-tree-count c = let l = value_long _ _ (sound _ (c.check_tree.ensures c.requires.so_far.program c.requires.so_far.declared (so_far_sizes c.requires.so_far)) c.in_ok-added.was).means in omega arith

pub slice_bounds-tree-start : goal.slice_bounds-tree-start
slice_bounds-tree-start c = let l = value_long _ _ (sound _ (c.check_tree.ensures c.requires.so_far.program c.requires.so_far.declared (so_far_sizes c.requires.so_far)) c.in_ok-added.was).means in omega arith

pub fill_tree-requires : goal.fill_tree-requires
fill_tree-requires c =
    let a = fill_asked c.requires.so_far (sound _ (c.check_tree.ensures c.requires.so_far.program c.requires.so_far.declared (so_far_sizes c.requires.so_far)) c.in_ok-added.was) _ (part_rest 1 c.args.value.now) in
    record { one_tree = a.0; all = a.1.0; tables = a.1.1 }

pub returns-then-not-fill_tree : goal.returns-then-not-fill_tree
returns-then-not-fill_tree c = λ x. turned_down (fill_refused x (sound _ (c.check_tree.ensures x.program x.declared (so_far_sizes x)) c.in_ok-added.was) _ (part_rest 1 c.args.value.now) _ c.fill_tree.ensures.value (ap not c.if-not-fill_tree.true)) refl

pub more-requires : goal.more-requires
more-requires c =
    let a = more_asked c.requires.so_far (sound _ (c.check_tree.ensures c.requires.so_far.program c.requires.so_far.declared (so_far_sizes c.requires.so_far)) c.in_ok-added.was) _ (part_rest 1 c.args.value.now) c.requires.n_in_bounds.2 c.requires.n_in_bounds.1 in
    record { variables_le_max_file = a.0; one_tree = a.1 }

pub returns-in_err-added : goal.returns-in_err-added
returns-in_err-added c = λ x. let e = subst (Checks x.program c.args.value.now c.args.at) c.in_err-added.was (c.check_tree.ensures x.program x.declared (so_far_sizes x)) in
    let p = err_from_is_err_and c.from_residual.result c.from_residual.ensures.1 in rw (p.1, p.2) (turned_down e.0 e.1)

pub returns : goal.returns
returns c = λ x. taken (fill_taken x (sound _ (c.check_tree.ensures x.program x.declared (so_far_sizes x)) c.in_ok-added.was) _ (part_rest 1 c.args.value.now) _ c.fill_tree.ensures.value (ap not c.if-not-fill_tree.false) _ c.variable-head.ensures c.fill_tree.ensures.tabled _ c.more.ensures)
