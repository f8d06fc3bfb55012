-- One tree taken in: what the tables and the totals say afterwards.
use Prim.Native.Nat.{ℕ, ◌+◌, ◌*◌, ◌<◌, ◌≤◌}
use mathlib.Core.Path.{◌≡◌, refl, sym, ap, subst, ◌∙◌}
use mathlib.Core.Bool.{Bool, true, false, not, cond, ◌||◌}
use mathlib.Core.List.{List, [], ◌∷◌, ◌++◌}
use native.Mathlib.Omega.{arith}
use lib.Dec.{eqb, leb, ltb}
use lib.IntN.{ℤ}
use lib.ListN.{length, get_or, drop, length-append, length-drop}
use lib.Seq.{drop-drop}
use borrow.Author.Tests.{leb-false, ltb-false, not-false}
use Rattle.format.specs.Limits.{max_file, max_variables, max_rules}
use Rattle.trees.specs.Tree.{max_levels, leaves, total, Formed, ◌then◌, tree_in}
use Rattle.trees.proofs.TreeFiles.{tree_read}
use Rattle.program.specs.Program.{variable_in, variables_at}
use Rattle.program.specs.Readings.{Valuation, valued}
use Rattle.program.specs.Idle.{lows, highs}
use Rattle.program.specs.Refusals.{wrong_head}
use Rattle.program.specs.Encode.{All, each, rule_bytes}
use Rattle.program.specs.declared.Variable.{Variable}
use Rattle.program.proofs.Conditions.{neither}
use Rattle.program.proofs.Encoding.{all_map}
use Rattle.program.proofs.Places.{variables_length}
use Rattle.rewriting.proofs.Forms.{variables_size}
use Rattle.nested.specs.Nested.{Rooted, Nested, treed_of}
use Rattle.nested.specs.Flatten.{root_values, added_by, tree_variables, added_variables, flatten}
use Rattle.nested.specs.TreeRefusals.{variables_added, tree_too_many, added_outside, rooted_refusal, treed_refusal}
use Rattle.nested.proofs.Alongs.{total_append}
use Rattle.nested.proofs.MoreVariables.{same_variable}
use Rattle.nested.proofs.TreeLengths.{tree_variables_length}
use Rattle.nested.proofs.FlatProper.{more_variables, more_rules}
use Rattle.nested.proofs.Lists.{each_same}
use Rattle.nested.proofs.Nodes.{climbs_equal}
use Rattle.nested.proofs.Values.{root_goes}
use Rattle.nested.proofs.OneMore.{grown, variables_more, flat_more, ends_ordered}
use Rattle.flat.specs.Flat.{OneTree, leaves_in, any_in, inners_in, values_in, flat_size, ranged}
use Rattle.flat.proofs.FlatLaws.{flat_leaves, flat_rules_is, flat_values}
use Rattle.flat.proofs.FlatSizes.{flat_size_lem}
use Rattle.flat.proofs.FlatValues.{flat_variables}
use Rattle.treechecks.specs.Checking.{Sizes, Sound}
use Rattle.treechecks.proofs.TreeValues.{holds, value_one, value_adds, value_long, value_undeclared}
use Rattle.spans.specs.Spans.{records_length, Tables, Tabled, any_beyond}
use Rattle.nesting.specs.declared.Totals.{Totals}
use Rattle.nesting.specs.Surveying.{Known, SoFar, TakenIn, max_bytes}
use Rattle.nesting.proofs.Sizes.{flat_bounded}
use Rattle.nesting.proofs.Ranges.{ranged_outside}

twice_not : (b : Bool) → b ≡ not (not b)
twice_not true = refl
twice_not false = refl

all_below : (n : ℕ) (xs : List ℕ) → any_in (leb n) xs ≡ false → All (λ x. x < n) xs
unfolding any_in
all_below n [] e = tt
all_below n (x ∷ xs) e = let h = neither (leb n x) (any_in (leb n) xs) e in (leb-false n x h.0, all_below n xs h.1)

total_more : {A : Type 0} (f : A → ℕ) (xs : List A) (y : A) → total f (xs ++ (y ∷ [])) ≡ total f xs + f y
unfolding total
total_more f xs y = omega (arith, total_append f xs (y ∷ []))

inners_few : (s : List ℕ) → inners_in s ≤ length s
unfolding inners_in
inners_few [] = omega arith
inners_few (a ∷ []) = omega arith
inners_few (a ∷ b ∷ rest) = let r = inners_few rest in go (eqb a 0) r
  where
    go : (z : Bool) → inners_in rest ≤ length rest → cond z 0 1 + inners_in rest ≤ length (a ∷ b ∷ rest)
    go true r = omega arith
    go false r = omega arith

module _ {s : List ℕ} {n : ℕ} {t : Totals} {records : List ℕ} {low high : List ℤ} (x : SoFar s n t records low high) where
  abbrev N : Nested
  N = x.program

  abbrev vs : List Variable
  vs = N.plain.variables

  pub so_far_sizes : Sizes N t.variables t.rules
  so_far_sizes = record { variables_are = x.known.variables_are ∙ more_variables N; rules_are = x.known.rules_are ∙ more_rules N }

  pub declared_many : length vs ≡ n
  declared_many = ap length x.declared ∙ variables_length s n

  pub so_far_few : (t.variables ≤ max_variables) × (t.rules ≤ max_rules) × (n ≤ t.variables)
  so_far_few =
      let z = so_far_sizes in
      let d = declared_many in
      (omega (arith, z.variables_are, x.fine.few_variables), omega (arith, z.rules_are, x.fine.few_rules), omega (arith, z.variables_are))

  module _ {v : List ℕ} {added : ℕ} (o : Sound N v added) where
    abbrev tree : Rooted
    tree = o.rooted

    abbrev bytes : List ℕ
    bytes = drop 1 v

    read : tree_in max_levels bytes ≡ (tree.tree then [])
    read = (holds v tree o.means).tree_is

    formed : Formed max_levels tree.tree
    formed = (tree_read max_levels bytes tree.tree [] read).1

    undeclared_parts : (wrong_head vs (get_or v 0 0) ≡ false) × (any_in (leb (length vs)) (leaves_in bytes) ≡ false)
    undeclared_parts =
        neither (wrong_head vs (get_or v 0 0)) (any_in (leb (length vs)) (leaves_in bytes)) (sym (value_undeclared v tree o.means vs) ∙ o.declared)

    pub sound_head : get_or v 0 0 < length vs
    unfolding wrong_head
    sound_head = leb-false (length vs) (get_or v 0 0) (neither (leb (length vs) (get_or v 0 0)) _ undeclared_parts.0).0

    pub sound_one : OneTree bytes
    sound_one = value_one v tree o.means

    declared_leaves : All (λ y. y < length vs) (leaves_in bytes)
    declared_leaves = all_below (length vs) (leaves_in bytes) undeclared_parts.1

    tree_leaves : All (λ y. y < length vs) (leaves max_levels tree.tree)
    tree_leaves = subst (All (λ y. y < length vs)) (flat_leaves max_levels bytes tree.tree read) declared_leaves

    next_above : length vs ≤ t.variables
    next_above = omega (arith, so_far_sizes.variables_are)

    pub sound_leaves : All (λ y. y < t.variables) (leaves_in bytes)
    sound_leaves = let l = next_above in all_map (λ y h. omega arith) (leaves_in bytes) declared_leaves

    pub sound_added : added ≡ inners_in (drop 2 bytes)
    sound_added = o.adds ∙ sym (ap inners_in (drop-drop 2 1 v) ∙ value_adds v tree o.means)

    pub sound_room : t.variables + inners_in (drop 2 bytes) ≤ max_variables
    unfolding tree_too_many
    sound_room =
        let e = (neither (ltb max_variables (length vs + variables_added N.trees + added_by tree)) _ o.room).0 in
        let l = ltb-false max_variables (length vs + variables_added N.trees + added_by tree) e in
        omega (arith, so_far_sizes.variables_are, sound_added, o.adds)

    -- ---- the ends of the ranges

    module _ (table : List ℤ) (end : Valuation) (are : (y : ℕ) → y < length vs → valued table y ≡ end y) where
      values_are : values_in (valued table) t.variables (drop 2 bytes) ≡ root_values max_levels end tree.tree
      values_are =
          flat_values max_levels bytes tree.tree read (valued table) t.variables
          (let l = next_above in all_map (λ y h. omega arith) (leaves max_levels tree.tree) tree_leaves)
          ∙ each_same (root_goes climbs_equal (valued table) end max_levels tree.tree (formed, all_map are (leaves max_levels tree.tree) tree_leaves))

    old_variable : (y : ℕ) → y < length vs → (y < length (flatten N).variables) × (variable_in (flatten N).variables y ≡ variable_in vs y)
    unfolding flatten
    old_variable y h = let more = added_variables vs N.trees in (omega (arith, length-append vs more), same_variable vs more y h)

    lows_are : values_in (valued low) t.variables (drop 2 bytes) ≡ root_values max_levels (lows vs) tree.tree
    lows_are = values_are low (lows vs) (λ y h. let o = old_variable y h in x.known.tabled.lows_are y o.0 ∙ ap (λ z. z.low) o.1)

    highs_are : values_in (valued high) t.variables (drop 2 bytes) ≡ root_values max_levels (highs vs) tree.tree
    highs_are = values_are high (highs vs) (λ y h. let o = old_variable y h in x.known.tabled.highs_are y o.0 ∙ ap (λ z. z.high) o.1)

    added_are : ranged (variable_in vs tree.head).kind (root_values max_levels (lows vs) tree.tree) (root_values max_levels (highs vs) tree.tree) ≡ tree_variables vs tree
    added_are = flat_variables vs (variable_in vs tree.head).kind max_levels tree.tree

    pub outside_is : added_outside vs tree
        ≡ (any_beyond (values_in (valued low) t.variables (drop 2 bytes)) || any_beyond (values_in (valued high) t.variables (drop 2 bytes)))
    unfolding added_outside
    outside_is =
        rw (lows_are, highs_are, ← added_are)
        (ranged_outside (variable_in vs tree.head).kind (ends_ordered vs tree x.fine.fine_variables formed tree_leaves))

    pub refused_19 : added_outside vs tree ≡ true → 19 ≡ treed_refusal N (treed_of v)
    unfolding rooted_refusal
    refused_19 e = sym (ap (treed_refusal N) o.means ∙ simp (o.room, o.declared, o.once, e))

    pub not_refused : added_outside vs tree ≡ false → rooted_refusal N tree ≡ 0
    unfolding rooted_refusal
    not_refused e = simp (o.room, o.declared, o.once, e)

    -- ---- the tree taken in

    pub tables_more : {records' : List ℕ} {low' high' : List ℤ} (k : ℕ) → k ≡ (variable_in vs tree.head).kind
        → Tabled ((flatten N).variables ++ ranged k (values_in (valued low) t.variables (drop 2 bytes)) (values_in (valued high) t.variables (drop 2 bytes))) records' low' high'
        → Tabled (flatten (grown N tree)).variables records' low' high'
    tables_more {records'} {low'} {high'} k e =
        subst (λ ws. Tabled ws records' low' high')
        (rw (e, lows_are, highs_are, added_are) (sym (variables_more N tree)))

    pub totals_more : (t' : Totals) → t' ≡ record { variables = t.variables + added; rules = t.rules + (1 + added); bytes = t.bytes + 8 * added + flat_size bytes }
        → {records' : List ℕ} {low' high' : List ℤ} → Tabled (flatten (grown N tree)).variables records' low' high' → Known (grown N tree) t' records' low' high'
    totals_more t' e tabled = record {
      variables_are = omega (arith, ap (λ z. z.variables) e, more_variables (grown N tree), total_more added_by N.trees tree, so_far_sizes.variables_are, o.adds);
      rules_are = omega (arith, ap (λ z. z.rules) e, more_rules (grown N tree), total_more (λ u. 1 + added_by u) N.trees tree, so_far_sizes.rules_are, o.adds);
      bytes_are =
          omega (
            arith,
            ap (λ z. z.bytes) e,
            flat_more N tree,
            x.known.bytes_are,
            variables_size (tree_variables vs tree),
            tree_variables_length vs tree,
            o.adds,
            ap (λ rs. length (each rule_bytes rs)) (flat_rules_is max_levels bytes tree.tree read tree.head (length (flatten N).variables)),
            flat_size_lem tree.head (length (flatten N).variables) bytes sound_one,
          );
      tabled = tabled;
    }

    pub sound_size : flat_size bytes ≤ 11 + 36 * length v
    sound_size = let b = flat_bounded bytes sound_one in omega (arith, length-drop 1 v)

    pub sound_few : added ≤ length v
    sound_few = omega (arith, sound_added, inners_few (drop 2 bytes), length-drop 2 bytes, length-drop 1 v)

    pub taken : (t' : Totals) → t' ≡ record { variables = t.variables + added; rules = t.rules + (1 + added); bytes = t.bytes + 8 * added + flat_size bytes }
        → {records' : List ℕ} {low' high' : List ℤ} → Tabled (flatten (grown N tree)).variables records' low' high' → added_outside vs tree ≡ false
        → TakenIn N v t t' records' low' high'
    taken t' e tabled inside = record {
      rooted = tree;
      means = o.means;
      fine = not_refused inside;
      known = totals_more t' e tabled;
      bounded =
          let a = sound_size in
          let b = sound_few in
          let l = value_long v tree o.means in
          omega (arith, ap (λ z. z.bytes) e);
    }

    -- ---- what is asked of the tables' filling, and what it says, the tree's bytes being w

    module _ (w : List ℕ) (is : w ≡ drop 1 v) where
      pub fill_asked : (OneTree w × (t.variables + inners_in (drop 2 w) ≤ max_variables))
          × (All (λ y. y < t.variables) (leaves_in w) × (Tables low high × (length records ≡ records_length)))
      fill_asked = ((rw is sound_one, rw is sound_room), (rw is sound_leaves, (x.known.tabled.tables, x.known.tabled.records_many)))

      pub more_asked : t.bytes ≤ max_bytes → length v ≤ max_file
          → ((t.variables ≤ max_file) × (t.rules ≤ max_file) × (t.bytes ≤ max_bytes) × (added ≤ max_file)) × (OneTree w × (length w ≤ max_file) × (flat_size w ≤ max_bytes))
      more_asked b l =
          let f = so_far_few in
          let a = sound_few in
          let z = sound_size in
          let k = length-drop 1 v in
          ((omega (arith, f.0), omega (arith, f.1), b, omega arith), (rw is sound_one, rw is (omega arith), rw is (omega arith)))

      module _ (r : Bool) (filled : r ≡ not (any_beyond (values_in (valued low) t.variables (drop 2 w)) || any_beyond (values_in (valued high) t.variables (drop 2 w)))) where
        outside_not : added_outside vs tree ≡ not r
        outside_not = outside_is ∙ rw (filled, is) (twice_not _)

        pub fill_refused : not r ≡ true → 19 ≡ treed_refusal N (treed_of v)
        fill_refused e = refused_19 (outside_not ∙ e)

        pub fill_taken : not r ≡ false → (h : Variable) → ((m : ℕ) → get_or v 0 0 < m → h ≡ variable_in (variables_at s m) (get_or v 0 0))
            → {records' : List ℕ} {low' high' : List ℤ}
            → ((ws : List Variable) → length ws ≡ t.variables → Tabled ws records low high → r ≡ true
            → Tabled (ws ++ ranged h.kind (values_in (valued low) t.variables (drop 2 w)) (values_in (valued high) t.variables (drop 2 w))) records' low' high')
            → (t' : Totals) → t' ≡ record { variables = t.variables + added; rules = t.rules + (1 + added); bytes = t.bytes + 8 * added + flat_size w }
            → TakenIn N v t t' records' low' high'
        fill_taken e h head tabled t' q =
            let k : h.kind ≡ (variable_in vs tree.head).kind =
            ap (λ z. z.kind)
            (head n (omega (arith, sound_head, declared_many)) ∙ ap (λ ws. variable_in ws (get_or v 0 0)) (sym x.declared) ∙ ap (variable_in vs) (holds v tree o.means).head_is) in
            taken t' (rw is at q)
            (tables_more h.kind k (rw is at (tabled (flatten N).variables (sym x.known.variables_are) x.known.tabled (not-false r e))))
            (outside_not ∙ e)
