-- Worked examples of flatten, computed from the bytes of their files.
use mathlib.Core.Path.{refl}
use mathlib.Core.List.{[]}
use lib.Dec.{lit<, lit≤}
use Rattle.program.specs.Reading.{bad_field}
use Rattle.program.proofs.Places.{passed_none, passed_more}
use Rattle.program.proofs.Decide.{whole_by, refused_by}
use Rattle.nested.specs.NestedReading.{too_long}
use Rattle.nested.specs.FlattenCall.{bad_file, turned_down}
use Rattle.normalized.specs.Samples.{ordered}
use Rattle.nestedplans.specs.Samples.{Samples, Counted, delayed, early, two_trees, leaf_root, own_leaf, deep, brought_back, large_root, closing, closing-flat}
use Rattle.nestedplans.proofs.Reading.{computes, refused_at, accepted_by, written_by, offending}

pub counted : Counted
unfolding computes
counted = record {
  variables_256 = refl;
  variables_257 = refl;
  declared_256 = refl;
  trees_256 = refl;
  trees_257 = refl;
  rules_2048 = refl;
  rules_2049 = refl;
  tree_rules_2048 = refl;
  tree_rules_2049 = refl;
}

pub samples : Samples
unfolding computes
samples = record {
  worked_example = written_by (accepted_by delayed 5 (lit≤ tt) refl (lit≤ tt) refl) refl refl (lit≤ tt);
  from_above_is = written_by (accepted_by early 5 (lit≤ tt) refl (lit≤ tt) refl) refl refl (lit≤ tt);
  in_order_is = written_by (accepted_by two_trees 10 (lit≤ tt) refl (lit≤ tt) refl) refl refl (lit≤ tt);
  leaf_alone = written_by (accepted_by leaf_root 3 (lit≤ tt) refl (lit≤ tt) refl) refl refl (lit≤ tt);
  head_as_leaf = written_by (accepted_by own_leaf 3 (lit≤ tt) refl (lit≤ tt) refl) refl refl (lit≤ tt);
  empty = written_by (accepted_by [] 0 (lit≤ tt) refl (lit≤ tt) refl) refl refl (lit≤ tt);
  no_trees = written_by (accepted_by ordered 5 (lit≤ tt) refl (lit≤ tt) refl) refl refl (lit≤ tt);
  levels_8 = written_by (accepted_by (deep 17 7) 3 (lit≤ tt) refl (lit≤ tt) refl) refl refl (lit≤ tt);
  levels_9 = refused_at _ 2 (lit≤ tt) refl (lit< tt) refl (lit< tt) refl;
  byte_over = refused_at _ 2 (lit≤ tt) refl (lit< tt) refl (lit< tt) refl;
  leaf_over = refused_at _ 2 (lit≤ tt) refl (lit< tt) refl (lit< tt) refl;
  node_byte_4 = refused_at _ 2 (lit≤ tt) refl (lit< tt) refl (lit< tt) refl;
  no_children = refused_at _ 2 (lit≤ tt) refl (lit< tt) refl (lit< tt) refl;
  children_17 = refused_at _ 2 (lit≤ tt) refl (lit< tt) refl (lit< tt) refl;
  child_missing = refused_at _ 2 (lit≤ tt) refl (lit< tt) refl (lit< tt) refl;
  half_a_node = refused_at _ 2 (lit≤ tt) refl (lit< tt) refl (lit< tt) refl;
  no_tree_is = refused_at _ 2 (lit≤ tt) refl (lit< tt) refl (lit< tt) refl;
  no_head = refused_at _ 2 (lit≤ tt) refl (lit< tt) refl (lit< tt) refl;
  malformed_first = refused_at _ 1 (lit≤ tt) refl (lit< tt) refl (lit< tt) refl;
  leaf_undeclared = refused_at _ 2 (lit≤ tt) refl (lit< tt) refl (lit< tt) refl;
  head_standard = refused_at _ 2 (lit≤ tt) refl (lit< tt) refl (lit< tt) refl;
  head_undeclared = refused_at _ 2 (lit≤ tt) refl (lit< tt) refl (lit< tt) refl;
  added_before = refused_at _ 3 (lit≤ tt) refl (lit< tt) refl (lit< tt) refl;
  added_here = refused_at _ 2 (lit≤ tt) refl (lit< tt) refl (lit< tt) refl;
  leaf_twice = refused_at _ 2 (lit≤ tt) refl (lit< tt) refl (lit< tt) refl;
  undeclared_twice = refused_at _ 2 (lit≤ tt) refl (lit< tt) refl (lit< tt) refl;
  range_30000 = written_by (accepted_by (brought_back 0x98) 4 (lit≤ tt) refl (lit≤ tt) refl) refl refl (lit≤ tt);
  range_30001 = refused_at _ 3 (lit≤ tt) refl (lit< tt) refl (lit< tt) refl;
  range_below = refused_at _ 3 (lit≤ tt) refl (lit< tt) refl (lit< tt) refl;
  twice_first = refused_at _ 3 (lit≤ tt) refl (lit< tt) refl (lit< tt) refl;
  root_30001 = written_by (accepted_by large_root 4 (lit≤ tt) refl (lit≤ tt) refl) refl refl (lit≤ tt);
  cut_short_is = refused_at _ 2 (lit≤ tt) refl (lit< tt) refl (lit< tt) refl;
  tag_4_after = refused_at _ 3 (lit≤ tt) refl (lit< tt) refl (lit< tt) refl;
  tag_0_after = refused_at _ 3 (lit≤ tt) refl (lit< tt) refl (lit< tt) refl;
  rule_after = refused_at _ 3 (lit≤ tt) refl (lit< tt) refl (lit< tt) refl;
  constraint_after = refused_at _ 3 (lit≤ tt) refl (lit< tt) refl (lit< tt) refl;
  closed_by_tree = offending (closing 0) 6 4 1 (lit≤ tt) refl (lit≤ tt) (lit< tt) (record { tagged = refl; number = refl }) (lit< tt) refl refl refl;
  plain_place = refused_by (whole_by (closing-flat 0) 8 (lit≤ tt) refl (lit≤ tt)) 1 (lit< tt) refl refl;
  idle_inside = written_by (accepted_by (closing 4) 6 (lit≤ tt) refl (lit≤ tt) refl) refl refl (lit≤ tt);
  plain_reader = bad_field {k = 4}
      (passed_more (passed_more (passed_more (passed_more (passed_none _ (lit≤ tt)) (lit< tt) refl) (lit< tt) refl) (lit< tt) refl) (lit< tt) refl) (lit< tt) (lit< tt);
  too_long = λ s h b. turned_down (bad_file (too_long h));
}
