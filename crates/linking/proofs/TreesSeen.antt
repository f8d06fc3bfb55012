-- A walk over the trees of a nested file, which stand after its plain part.
use Prim.Native.Nat.{ℕ, zero, suc, ◌+◌, ◌-◌, ◌<◌, ◌≤◌}
use mathlib.Core.Path.{◌≡◌, refl, sym, ap, ◌∙◌, subst, subst₂}
use mathlib.Core.List.{List, [], ◌∷◌, ◌++◌, append_assoc, append-nil}
use mathlib.Core.Bool.{cond}
use native.Mathlib.Decide.{dec_lt}
use native.Mathlib.Omega.{arith}
use lib.Dec.{eqb}
use lib.ListN.{length, drop, get_or}
use lib.Seq.{drop-drop}
use Rattle.format.specs.Limits.{max_variables}
use Rattle.trees.specs.Tree.{max_levels, total}
use Rattle.program.specs.Fields.{tag_at, value_at, next_at, place}
use Rattle.program.specs.Program.{Rule}
use Rattle.program.specs.Encode.{All}
use Rattle.program.specs.declared.Counts.{Counts}
use Rattle.program.proofs.Places.{Extends, place_suc}
use Rattle.nested.specs.Nested.{tree_tag, Rooted, treed, trees_of, treed_of, trees}
use Rattle.nested.specs.Flatten.{along, added_by, tree_rules, added_rules}
use Rattle.nested.specs.TreeRefusals.{variables_added}
use Rattle.nested.specs.NestedReading.{NestedWhole}
use Rattle.nested.proofs.Alongs.{all_first, all_second, total_append, along_append}
use Rattle.nested.proofs.NestedReads.{whole_unique}
use Rattle.nested.proofs.TreeFields.{TreeField, one_tree}
use Rattle.flat.specs.Flat.{OneTree, inners_in, flat_rules}
use Rattle.flat.proofs.FlatLaws.{flat_rules_is}
use Rattle.treechecks.proofs.TreeValues.{holds, value_one, value_adds, value_long}
use Rattle.linking.specs.Judging.{Settled}
use Rattle.linking.specs.Drawing.{FineRule, FineRules}
use Rattle.linking.proofs.Settling.{nested_fine, plain_before, tree_stands, plain_many, added_fine}

-- ---- the value of a tree's field

module _ (v : List ℕ) (t : Rooted) (e : treed_of v ≡ treed t) (n : ℕ) where
  value_rules : flat_rules (get_or v 0 0) n (drop 1 v) ≡ tree_rules n t
  value_rules =
      let h = holds v t e in
      ap (λ (x : ℕ). flat_rules x n (drop 1 v)) h.head_is ∙ flat_rules_is max_levels (drop 1 v) t.tree h.tree_is t.head n

  value_numbers : n + inners_in (drop 2 (drop 1 v)) ≡ n + added_by t
  value_numbers = ap (λ (m : ℕ). n + m) (ap inners_in (drop-drop 2 1 v) ∙ value_adds v t e)

-- ---- the trees before a field, and those after

trees_extend : (s : List ℕ) (j d : ℕ) → Extends (trees s j) (trees s (j + d))
unfolding trees
trees_extend s j zero = let e : j + 0 ≡ j = omega arith in record { more = []; are = ap (trees s) e ∙ sym (append-nil (trees s j)) }
trees_extend s j (suc d) =
    let e : j + suc d ≡ suc (j + d) = omega arith in
    let x = trees_extend s j d in
    let last = cond (eqb (tag_at s (place s (j + d))) tree_tag) (trees_of (treed_of (value_at s (place s (j + d))))) [] in
    record {
      more = x.more ++ last;
      are = ap (trees s) e ∙ ap (λ (ts : List Rooted). ts ++ last) x.are ∙ append_assoc (trees s j) x.more last;
    }

-- ---- the loop

-- some trees stand before `at`; n variables are declared, and `next` is the number that is free
pub record TreesSeen (s : List ℕ) (variables : ℕ) (records : List ℕ) (n at next : ℕ) : Type 0 where
  pub counts : Counts
  pub from : ℕ
  pub settled : Settled s counts from variables records
  pub declared : n ≡ counts.variables
  pub field : ℕ
  pub since : settled.plain.fields ≤ field
  pub upto : field ≤ settled.fields
  pub placed : at ≡ place s field
  pub numbered : next ≡ n + variables_added (trees s field)

pub seen_begun : {s : List ℕ} {counts : Counts} {from variables : ℕ} {records : List ℕ} → Settled s counts from variables records
    → TreesSeen s variables records counts.variables from counts.variables
unfolding total
seen_begun {counts = counts} {from} k =
    let none = k.plain.no_trees in
    record {
      counts = counts;
      from = from;
      settled = k;
      declared = refl;
      field = k.plain.fields;
      since = omega arith;
      upto = plain_before k;
      placed = sym k.plain.placed;
      numbered = omega (arith, ap variables_added none);
    }

module _ {s : List ℕ} {variables : ℕ} {records : List ℕ} {n at next : ℕ} (k : TreesSeen s variables records n at next) where
  -- the rules of the trees so far
  abbrev pub seen_rules : List Rule
  seen_rules = added_rules n (trees s k.field)

  -- at the end they are those of all trees
  pub seen_all : length s ≤ at → (m : ℕ) → NestedWhole s m → seen_rules ≡ added_rules n (trees s m)
  seen_all h m v = ap (λ (j : ℕ). added_rules n (trees s j)) (go (dec_lt k.field k.settled.fields))
    where
      go : Dec (k.field < k.settled.fields) → k.field ≡ m
      go (yes l) = absurd (omega (arith, k.settled.whole.passed.stands k.field l, k.placed))
      go (no l) = omega (arith, k.upto, whole_unique k.settled.whole v)

  -- one tree more
  module _ (h : at < length s) where
    among : k.field < k.settled.fields
    among = go (dec_lt k.field k.settled.fields)
      where
        go : Dec (k.field < k.settled.fields) → k.field < k.settled.fields
        go (yes l) = l
        go (no l) =
            let e : k.field ≡ k.settled.fields = let u = k.upto in omega arith in
            absurd (omega (arith, k.placed, ap (place s) e, k.settled.whole.ended))

    here : TreeField s k.field × (tag_at s (place s k.field) ≡ tree_tag)
    here = tree_stands k.settled k.field k.since among

    abbrev t : Rooted
    t = here.0.rooted

    pub seen_inside : next_at s at ≤ length s
    seen_inside = subst (λ (i : ℕ). next_at s i ≤ length s) (sym k.placed) here.0.whole

    after : Extends (trees s (suc k.field)) (trees s (suc k.field + (k.settled.fields - suc k.field)))
    after = trees_extend s (suc k.field) (k.settled.fields - suc k.field)

    split : trees s k.settled.fields ≡ trees s k.field ++ (t ∷ after.more)
    split =
        let e : k.settled.fields ≡ suc k.field + (k.settled.fields - suc k.field) = let l = among in omega arith in
        ap (trees s) e ∙ after.are ∙ ap (λ (ts : List Rooted). ts ++ after.more) (one_tree s k.field here.1 here.0.means)
        ∙ append_assoc (trees s k.field) (t ∷ []) after.more

    few : next + added_by t ≤ max_variables
    unfolding total
    few =
        omega (
          arith,
          k.numbered,
          k.declared,
          plain_many k.settled,
          (nested_fine k.settled).few_variables,
          ap variables_added split,
          total_append added_by (trees s k.field) (t ∷ after.more),
        )

    fine : FineRules records variables (tree_rules next t)
    unfolding along
    fine =
        let m = n + variables_added (trees s k.field) in
        let p = FineRule records variables in
        let all = subst₂ (λ (d : ℕ) (ts : List Rooted). All p (added_rules d ts)) (sym k.declared) split (added_fine k.settled) in
        let two = subst (All p) (along_append added_by tree_rules n (trees s k.field) (t ∷ after.more)) all in
        let own = all_second p (added_rules n (trees s k.field)) (added_rules m (t ∷ after.more)) two in
        subst (λ (d : ℕ). All p (tree_rules d t)) (sym k.numbered) (all_first p (tree_rules m t) (added_rules (m + added_by t) after.more) own)

    more_rules : added_rules n (trees s k.field) ++ tree_rules next t ≡ added_rules n (trees s (suc k.field))
    unfolding along
    more_rules =
        ap (λ (d : ℕ). added_rules n (trees s k.field) ++ tree_rules d t) k.numbered
        ∙ ap (λ (rs : List Rule). added_rules n (trees s k.field) ++ rs) (sym (append-nil (tree_rules (n + variables_added (trees s k.field)) t)))
        ∙ sym (along_append added_by tree_rules n (trees s k.field) (t ∷ []))
        ∙ sym (ap (added_rules n) (one_tree s k.field here.1 here.0.means))

    -- the rules before it, its own, and those after it
    rules_split : added_rules n (trees s k.settled.fields) ≡ added_rules n (trees s k.field) ++ (tree_rules next t ++ added_rules (next + added_by t) after.more)
    unfolding along
    rules_split =
        ap (added_rules n) split
        ∙ along_append added_by tree_rules n (trees s k.field) (t ∷ after.more)
        ∙ ap (λ (d : ℕ). added_rules n (trees s k.field) ++ (tree_rules d t ++ added_rules (d + added_by t) after.more)) (sym k.numbered)

    -- its value
    module _ {v : List ℕ} (x : v ≡ value_at s at) where
      means : treed_of v ≡ treed t
      means = ap treed_of (x ∙ ap (value_at s) k.placed) ∙ here.0.means

      pub seen_long : 3 ≤ length v
      seen_long = value_long v t means

      pub seen_tree : (OneTree (drop 1 v) × (next + inners_in (drop 2 (drop 1 v)) ≤ max_variables)) × FineRules records variables (flat_rules (get_or v 0 0) next (drop 1 v))
      seen_tree = (
        (value_one v t means, omega (arith, value_numbers v t means next, few)),
        subst (FineRules records variables) (sym (value_rules v t means next)) fine,
      )

      pub seen_room : {added : ℕ} → ((u : Rooted) → treed_of v ≡ treed u → added ≡ added_by u) → next + added ≤ max_variables
      seen_room a = omega (arith, a t means, few)

      pub seen_part : (rest : List Rule) × (added_rules n (trees s k.settled.fields) ≡ seen_rules ++ (flat_rules (get_or v 0 0) next (drop 1 v) ++ rest))
      seen_part = (
        added_rules (next + added_by t) after.more,
        rules_split ∙ ap (λ (rs : List Rule). seen_rules ++ (rs ++ added_rules (next + added_by t) after.more)) (sym (value_rules v t means next)),
      )

      -- its rules after those before it
      pub seen_next : {added at' : ℕ} → ((u : Rooted) → treed_of v ≡ treed u → added ≡ added_by u) → at' ≡ next_at s at → TreesSeen s variables records n at' (next + added)
      unfolding total
      seen_next a e = record {
        counts = k.counts;
        from = k.from;
        settled = k.settled;
        declared = k.declared;
        field = suc k.field;
        since = omega (arith, k.since);
        upto = among;
        placed = e ∙ ap (next_at s) k.placed ∙ sym (place_suc s k.field);
        numbered = omega (
          arith,
          a t means,
          k.numbered,
          ap variables_added (one_tree s k.field here.1 here.0.means),
          total_append added_by (trees s k.field) (t ∷ []),
        );
      }

      pub seen_more : {added at' : ℕ} (a : (u : Rooted) → treed_of v ≡ treed u → added ≡ added_by u) (e : at' ≡ next_at s at)
          → added_rules n (trees s k.field) ++ flat_rules (get_or v 0 0) next (drop 1 v) ≡ added_rules n (trees s (seen_next a e).field)
      unfolding seen_next
      seen_more a e = ap (λ (rs : List Rule). added_rules n (trees s k.field) ++ rs) (value_rules v t means next) ∙ more_rules

-- before the first tree there is no rule
pub seen_none : {s : List ℕ} {counts : Counts} {from variables : ℕ} {records : List ℕ} (k : Settled s counts from variables records) → [] ≡ seen_rules (seen_begun k)
unfolding along seen_begun
seen_none {counts = counts} k = sym (ap (added_rules counts.variables) k.plain.no_trees)
