-- The plain part of a nested file: the fields before its first tree.
use Rattle.std.specs.Prelude.{ℕ, ◌<◌, ◌≤◌, ◌≡◌, ◌≢◌, true, false, List, [], length, take, Result, Ok, Err}
use Rattle.program.specs.Fields.{tag_at, place}
use Rattle.program.specs.Program.{program}
use Rattle.program.specs.Refusals.{cut_short}
use Rattle.program.specs.Reading.{number_of}
use Rattle.program.specs.declared.Counts.{Counts}
use Rattle.fields.specs.Scanning.{Counted}
use Rattle.nested.specs.Nested.{tree_tag, trees}
use Rattle.nested.specs.NestedReading.{NestedPassed, NestedRefuses}
use Rattle.program.specs.declared.Rejection.{Rejection}

-- the first k fields are whole, and none of them is a tree
pub record NoTrees (s : List ℕ) (k : ℕ) : Type 0 where
  pub stands : (j : ℕ) → j < k → place s j < length s
  pub whole : (j : ℕ) → j < k → cut_short s (place s j) ≡ false
  pub other : (j : ℕ) → j < k → tag_at s (place s j) ≢ tree_tag

-- where the plain part ends: at the first tree, or at the file's end where a field is cut short or no field is left
pub data EndsAt (s : List ℕ) (k : ℕ) : ℕ → Type 0 where
  at_tree : place s k < length s → cut_short s (place s k) ≡ false → tag_at s (place s k) ≡ tree_tag → EndsAt s k (place s k)
  at_cut : place s k < length s → cut_short s (place s k) ≡ true → EndsAt s k (length s)
  at_end : length s ≤ place s k → EndsAt s k (length s)

pub record FirstTree (s : List ℕ) (at : ℕ) : Type 0 where
  pub fields : ℕ
  pub before : NoTrees s fields
  pub ends : EndsAt s fields at

-- the plain part is a plain file with these counts, whose fields meet no refusal, and ends at `from`; a tree stands there, or the file ends
pub record PlainCounted (s : List ℕ) (counts : Counts) (from : ℕ) : Type 0 where
  pub fields : ℕ
  pub passed : NestedPassed s fields
  pub placed : place s fields ≡ from
  pub inside : from ≤ length s
  pub counted : Counted (take from s) counts
  pub means : program (take from s) counted.fields ≡ program s fields
  pub no_trees : trees s fields ≡ []
  pub tree : from < length s → tag_at s from ≡ tree_tag

abbrev pub Plains : List ℕ → Result (Counts × ℕ) Rejection → Type 0
Plains s (Ok (counts, from)) = PlainCounted s counts from
Plains s (Err r) = NestedRefuses s (number_of r.why) r.at
