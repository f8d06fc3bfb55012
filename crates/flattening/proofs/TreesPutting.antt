-- The rules of all trees, put in tree by tree.
use Prim.Native.Nat.{ℕ, ◌+◌, ◌<◌, ◌≤◌}
use mathlib.Core.Path.{◌≡◌, sym, ap, ◌∙◌}
use mathlib.Core.List.{List, ◌++◌}
use native.Mathlib.Omega.{arith}
use lib.ListN.{length, drop, get_or, length-append}
use Rattle.program.specs.Fields.{value_at, next_at}
use Rattle.program.specs.Encode.{each, rule_bytes}
use Rattle.program.specs.declared.Counts.{Counts}
use Rattle.program.proofs.RoundTrip.{each_append}
use Rattle.nested.specs.Nested.{Rooted, treed, treed_of}
use Rattle.nested.specs.Flatten.{added_by}
use Rattle.flat.specs.Flat.{flat_rules, flat_size}
use Rattle.flat.proofs.FlatSizes.{flat_size_lem}
use Rattle.noderules.specs.NodeRules.{PutIn}
use Rattle.noderules.proofs.Putting.{puts_none, puts_same, puts_length, puts_more}
use Rattle.linking.specs.Judging.{Settled}
use Rattle.linking.proofs.TreesSeen.{TreesSeen, seen_begun, seen_none, seen_rules, seen_all, seen_tree, seen_part, seen_next, seen_more}
use Rattle.flattening.specs.Writing.{TreesPut, TreesFit}

-- the rules of the trees before `place` have been put in
pub record TreesPutTo (s : List ℕ) (variables : ℕ) (records : List ℕ) (n : ℕ) (b : List ℕ) (at : ℕ) (b' : List ℕ) (place next end : ℕ) : Type 0 where
  pub seen : TreesSeen s variables records n place next
  pub fit : TreesFit s n b at
  pub put : PutIn (each rule_bytes (seen_rules seen)) b at end b'

pub put_begun : {s : List ℕ} {counts : Counts} {from variables : ℕ} {records b : List ℕ} {at : ℕ} → Settled s counts from variables records → TreesFit s counts.variables b at
    → TreesPutTo s variables records counts.variables b at b from counts.variables at
put_begun {b = b} {at} k f = record { seen = seen_begun k; fit = f; put = puts_same _ (ap (each rule_bytes) (seen_none k)) (puts_none b at) }

module _ {s : List ℕ} {variables : ℕ} {records : List ℕ} {n : ℕ} {b : List ℕ} {at : ℕ} {b' : List ℕ} {place next end : ℕ}
    (k : TreesPutTo s variables records n b at b' place next end) where
  pub put_done : length s ≤ place → TreesPut s n b at end b'
  put_done h = record { is = λ m w. puts_same _ (ap (each rule_bytes) (seen_all k.seen h m w)) k.put }

  pub put_all_length : length s ≤ place → length b' ≡ length b
  put_all_length h =
      let w = k.seen.settled.whole in
      puts_length k.put (omega (arith, k.fit.fits _ w, ap (λ rs. length (each rule_bytes rs)) (seen_all k.seen h _ w)))

  module _ (h : place < length s) {v : List ℕ} (x : v ≡ value_at s place) where
    -- the bytes of the rules so far and of this tree's, and of the rest
    room : at + (length (each rule_bytes (seen_rules k.seen)) + flat_size (drop 1 v)) ≤ length b
    room =
        let p = seen_part k.seen h x in
        let own = flat_rules (get_or v 0 0) next (drop 1 v) in
        omega (
          arith,
          k.fit.fits _ k.seen.settled.whole,
          ap (λ rs. length (each rule_bytes rs)) p.1,
          ap length (each_append rule_bytes (seen_rules k.seen) (own ++ p.0)),
          length-append (each rule_bytes (seen_rules k.seen)) (each rule_bytes (own ++ p.0)),
          ap length (each_append rule_bytes own p.0),
          length-append (each rule_bytes own) (each rule_bytes p.0),
          flat_size_lem (get_or v 0 0) next (drop 1 v) (seen_tree k.seen h x).0.0,
        )

    so_far : length b' ≡ length b
    so_far = let r = room in puts_length k.put (omega arith)

    pub put_room : end + flat_size (drop 1 v) ≤ length b'
    put_room = let r = room in omega (arith, so_far, k.put.ends)

    pub put_more : {b'' : List ℕ} {end' added place' : ℕ} → PutIn (each rule_bytes (flat_rules (get_or v 0 0) next (drop 1 v))) b' end end' b''
        → ((u : Rooted) → treed_of v ≡ treed u → added ≡ added_by u) → place' ≡ next_at s place → TreesPutTo s variables records n b at b'' place' (next + added) end'
    put_more p a e =
        let own = flat_rules (get_or v 0 0) next (drop 1 v) in
        let r = room in
        record {
          seen = seen_next k.seen h x a e;
          fit = k.fit;
          put = puts_same _ (sym (each_append rule_bytes (seen_rules k.seen) own) ∙ ap (each rule_bytes) (seen_more k.seen h x a e)) (puts_more k.put (omega arith) p);
        }
