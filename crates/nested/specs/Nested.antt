-- Document 02, wish 6: "Tag 5, after the constraints, holds a head and one tree." The nested program that a file means: a plain file's fields, then
-- fields of tag 5.
use Rattle.std.specs.Prelude.{ℕ, zero, suc, cond, List, [], ◌∷◌, ◌++◌, eqb}
use Rattle.trees.specs.Tree.{Tree, max_levels, Front, nothing, ◌then◌, tree_in}
use Rattle.program.specs.Fields.{tag_at, value_at, place}
use Rattle.program.specs.Program.{Program, program}

abbrev pub tree_tag : ℕ
tree_tag = 5

-- "a head and one tree"
pub record Rooted : Type 0 where
  pub head : ℕ
  pub tree : Tree max_levels

pub record Nested : Type 0 where
  pub plain : Program
  pub trees : List Rooted

-- what the value of a field of tag 5 means: nothing where it is "malformed, too deep or leaves bytes over"
pub data Treed : Type 0 where
  malformed : Treed
  treed : Rooted → Treed

-- the tree goes to the value's last byte
abbrev pub wholly : ℕ → Front (Tree max_levels) → Treed
wholly h nothing = malformed
wholly h (t then []) = treed (record { head = h; tree = t })
wholly h (t then (x ∷ rest)) = malformed

unfoldable pub treed_of : List ℕ → Treed
treed_of [] = malformed
treed_of (h ∷ rest) = wholly h (tree_in max_levels rest)

abbrev pub trees_of : Treed → List Rooted
trees_of malformed = []
trees_of (treed t) = t ∷ []

-- the trees among the first k fields of a file, in their order
unfoldable pub trees : List ℕ → ℕ → List Rooted
trees s zero = []
trees s (suc k) = trees s k ++ cond (eqb (tag_at s (place s k)) tree_tag) (trees_of (treed_of (value_at s (place s k)))) []

-- a field of tag 5 is no part of `program` (item_of, specs/Program.antt of crate program)
abbrev pub nested : List ℕ → ℕ → Nested
nested s k = record { plain = program s k; trees = trees s k }
