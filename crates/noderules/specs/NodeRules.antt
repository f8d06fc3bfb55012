-- The rules of a tree's nodes, as the code writes them.
use Rattle.std.specs.Prelude.{ℕ, ◌+◌, ◌≤◌, ◌≡◌, List, [], length, drop}
use Rattle.format.specs.Limits.{max_variables, max_terms}
use Rattle.program.specs.Program.{Rule}
use Rattle.nested.specs.Flatten.{node_rule}
use Rattle.rewriting.specs.Writing.{put_at}
use Rattle.flat.specs.Flat.{Stand, past, inners_passed, operands_in, inners_in}
use Rattle.noderules.specs.declared.Inner.{Inner}

-- the rule of an inner node of the bytes s, or of a root
abbrev pub rule_at : List ℕ → Inner → Rule
rule_at s r = node_rule r.form r.head (operands_in r.next r.n (drop r.at s))

-- its children stand in the bytes, and their numbers are those of variables
pub record Writable (s : List ℕ) (r : Inner) : Type 0 where
  pub inside : r.at ≤ length s
  pub stands : Stand (drop r.at s) r.n
  pub few : r.n ≤ max_terms
  pub numbered : r.next + inners_passed (drop r.at s) r.n ≤ max_variables

-- the bytes w are put into b from `at` on: they end at `end`, and b becomes b'
pub record PutIn (w b : List ℕ) (at end : ℕ) (b' : List ℕ) : Type 0 where
  pub ends : end ≡ at + length w
  pub bytes : b' ≡ put_at b at w

-- whole trees stand from `at` on, to the end, and their inner nodes are numbered from n on
pub record Left (s : List ℕ) (at n : ℕ) : Type 0 where
  pub many : ℕ
  pub inside : at ≤ length s
  pub stands : Stand (drop at s) many
  pub ends : past (drop at s) many ≡ []
  pub numbered : n + inners_in (drop at s) ≤ max_variables
