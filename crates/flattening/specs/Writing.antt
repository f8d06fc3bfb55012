-- The plain file of a nested one, put together: the fields of its variables, its old rules, those of the trees, then its constraints.
use Rattle.std.specs.Prelude.{ℕ, ◌+◌, ◌≤◌, ◌≡◌, List, ◌++◌, length, drop}
use Rattle.program.specs.Encode.{each, rule_bytes}
use Rattle.program.specs.declared.Counts.{Counts}
use Rattle.nested.specs.Nested.{trees, nested}
use Rattle.nested.specs.Flatten.{added_rules}
use Rattle.nested.specs.NestedReading.{NestedWhole}
use Rattle.nested.specs.FlattenCall.{flat}
use Rattle.noderules.specs.NodeRules.{PutIn}
use Rattle.linking.specs.Judging.{Settled}

-- the rules of all trees of the file s are put into b from `at` on, n variables being declared
pub record TreesPut (s : List ℕ) (n : ℕ) (b : List ℕ) (at end : ℕ) (b' : List ℕ) : Type 0 where
  pub is : (k : ℕ) → NestedWhole s k → PutIn (each rule_bytes (added_rules n (trees s k))) b at end b'

-- there is room for them
pub record TreesFit (s : List ℕ) (n : ℕ) (b : List ℕ) (at : ℕ) : Type 0 where
  pub fits : (k : ℕ) → NestedWhole s k → at + length (each rule_bytes (added_rules n (trees s k))) ≤ length b

-- the whole plain file stands in b', from the first byte on, and has n bytes
pub record FlatWritten (s b : List ℕ) (n : ℕ) (b' : List ℕ) : Type 0 where
  pub length_is : (k : ℕ) → NestedWhole s k → n ≡ length (flat (nested s k))
  pub bytes : (k : ℕ) → NestedWhole s k → b' ≡ flat (nested s k) ++ drop n b

-- a settled file whose plain file has so many bytes
pub record Sized (s : List ℕ) (counts : Counts) (from variables bytes : ℕ) (records : List ℕ) : Type 0 where
  pub settled : Settled s counts from variables records
  pub size : bytes ≡ length (flat (nested s settled.fields))
