-- The edges of the rules of all trees, marked tree by tree.
use Prim.Native.Nat.{ℕ, ◌+◌, ◌<◌, ◌≤◌}
use mathlib.Core.Path.{◌≡◌}
use mathlib.Core.List.{List}
use lib.ListN.{length, drop, get_or}
use Rattle.program.specs.Fields.{value_at, next_at}
use Rattle.program.specs.Program.{variables_at}
use Rattle.program.specs.declared.Counts.{Counts}
use Rattle.nested.specs.Nested.{Rooted, treed, treed_of}
use Rattle.nested.specs.Flatten.{added_by}
use Rattle.flat.specs.Flat.{flat_rules}
use Rattle.linking.specs.Judging.{Settled}
use Rattle.linking.specs.Drawing.{GrownBy, TreesMarked}
use Rattle.linking.proofs.Drawn.{drawn_none, drawn_more, drawn_as}
use Rattle.linking.proofs.TreesSeen.{TreesSeen, seen_begun, seen_none, seen_rules, seen_all, seen_next, seen_more}

-- the rows w have become w' by the rules of the trees before `at`
pub record TreesWalked (s : List ℕ) (variables : ℕ) (records : List ℕ) (n : ℕ) (w w' : List ℕ) (at next : ℕ) : Type 0 where
  pub seen : TreesSeen s variables records n at next
  pub grown : GrownBy w w' (variables_at records variables) (seen_rules seen)

pub walk_begun : {s : List ℕ} {counts : Counts} {from variables : ℕ} {records : List ℕ} (w : List ℕ) (k : Settled s counts from variables records)
    → TreesWalked s variables records counts.variables w w from counts.variables
walk_begun {variables = variables} {records} w k =
    let vs = variables_at records variables in
    record { seen = seen_begun k; grown = drawn_as vs (seen_none k) (drawn_none vs _) }

module _ {s : List ℕ} {variables : ℕ} {records : List ℕ} {n : ℕ} {w w' : List ℕ} {at next : ℕ} (k : TreesWalked s variables records n w w' at next) where
  pub walk_done : length s ≤ at → TreesMarked s n (variables_at records variables) w w'
  walk_done h = record { is = λ m v. drawn_as (variables_at records variables) (seen_all k.seen h m v) k.grown }

  pub walk_more : (h : at < length s) {v : List ℕ} (x : v ≡ value_at s at) {w'' : List ℕ} {added at' : ℕ}
      → GrownBy w' w'' (variables_at records variables) (flat_rules (get_or v 0 0) next (drop 1 v))
      → ((u : Rooted) → treed_of v ≡ treed u → added ≡ added_by u) → at' ≡ next_at s at → TreesWalked s variables records n w w'' at' (next + added)
  walk_more h {v} x g a e =
      let vs = variables_at records variables in
      record {
        seen = seen_next k.seen h x a e;
        grown = drawn_as vs (seen_more k.seen h x a e) (drawn_more vs (seen_rules k.seen) (flat_rules (get_or v 0 0) next (drop 1 v)) k.grown g);
      }
