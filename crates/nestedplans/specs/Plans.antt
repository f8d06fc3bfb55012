-- Document 02, wish 6: "In the nested file a tree is one rule giving its root's value, its leaves plain terms." Plans of nested files, by the bytes of each file
-- and assignment: stable ones, and some that meet every rule and are not.
use Rattle.std.specs.Prelude.{ℕ, ◌*◌, ◌≡◌, List, [], length}
use Rattle.meaning.specs.Stable.{assigned, ConstraintsMet, MeetsAll}
use Rattle.nested.specs.Nested.{Nested}
use Rattle.nested.specs.NestedReading.{NestedAccepts}
use Rattle.nested.specs.Meaning.{nested_system, NestedStable}
use Rattle.plans.specs.Arrivals.{natural, three}
use Rattle.nestedplans.specs.Samples.{tree, leaf, sum, max, min, same}

-- the file is accepted, and the assignment has a value for each of its variables
pub record NestedPlan (s a : List ℕ) (N : Nested) : Type 0 where
  pub accepts : NestedAccepts s N
  pub long : length a ≡ 2 * length N.plain.variables

pub record StableNested (s a : List ℕ) : Type 0 where
  pub means : Nested
  pub plan : NestedPlan s a means
  pub stable : NestedStable means (assigned a)

-- every rule and tree is met, but some value is not founded
pub record UnfoundedNested (s a : List ℕ) : Type 0 where
  pub means : Nested
  pub plan : NestedPlan s a means
  pub meets : MeetsAll (nested_system means) (ConstraintsMet means.plain) (assigned a)
  pub not_stable : NestedStable means (assigned a) → ⊥

-- ---- the files

-- a and b founded, x standard in 0..10; b ≥ a; a ≥ the sum of max(b, x) alone
abbrev pub circle : List ℕ
circle = natural 1 (natural 1 (natural 0 (same 1 0 (tree 9 0 (sum 1 (max 2 (leaf 1 (leaf 2 []))))))))

-- founded from above; b ≤ a; a ≤ the sum of min(b, x) alone
abbrev pub circle_above : List ℕ
circle_above = natural 2 (natural 2 (natural 0 (same 1 0 (tree 9 0 (sum 1 (min 2 (leaf 1 (leaf 2 []))))))))

-- a founded from below, b from above; b ≤ a; a ≥ the sum of max(b, x) alone
abbrev pub crosswise : List ℕ
crosswise = natural 1 (natural 2 (natural 0 (same 1 0 (tree 9 0 (sum 1 (max 2 (leaf 1 (leaf 2 []))))))))

pub record NestedPlans : Type 0 where
  -- a circle through a tree is sound as far as the standard leaf lifts it
  pub circle_stable : StableNested circle (three 3 3 3)
  pub circle_unfounded : UnfoundedNested circle (three 5 5 3)
  -- likewise from above
  pub above_stable : StableNested circle_above (three 4 4 4)
  pub above_unfounded : UnfoundedNested circle_above (three 2 2 4)
  -- a leaf of the other kind is replaced by its value: this circle is sound at every value from x on
  pub crosswise_stable : StableNested crosswise (three 3 3 3)
  pub crosswise_higher : StableNested crosswise (three 5 5 3)
