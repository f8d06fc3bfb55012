-- A model of the nested program's reduct, with each node's value at its added variable, is one of the plain program's; and a model of the plain program's
-- reduct, cut off after the declared variables, is one of the nested program's, and has at each added variable its node's value or a later one.
use Rattle.std.specs.Prelude.{Option, Some}
use Prim.Native.Nat.{ℕ, ◌+◌, ◌-◌, ◌<◌, ◌≤◌}
use mathlib.Core.Path.{◌≡◌, refl, sym, ap, ap₂, subst, fun_ext, ◌∙◌}
use mathlib.Core.Bool.{not, cond}
use mathlib.Core.List.{List, ◌++◌}
use native.Mathlib.Omega.{arith}
use lib.Dec.{T, eqb, ltb, ltb→lt, T_not}
use lib.IntN.{ℤ, pos}
use lib.ListN.{length, get_or, get_or-eq_default}
use borrow.Author.Tests.{lt-ltb, le-ltb}
use Rattle.trees.specs.Tree.{max_levels, joined, total, leaves}
use Rattle.program.specs.Encode.{All}
use Rattle.program.specs.Program.{Program, Rule, rule, no_rule, variable_in, no_variable}
use Rattle.program.specs.Refusals.{item_refusal}
use Rattle.program.specs.Variables.{is_founded, not_past, in_range, no_more}
use Rattle.program.specs.Idle.{lows, highs}
use Rattle.program.specs.Readings.{Valuation, kept, gives}
use Rattle.program.specs.declared.Variable.{Variable}
use Rattle.program.proofs.Encoding.{all_map}
use Rattle.program.proofs.Promises.{rule_promised}
use Rattle.program.proofs.Tests.{cases, is_test}
use Rattle.program.proofs.Variables.{past_refl, past_trans}
use Rattle.meaning.specs.Founded.{Within, Model}
use Rattle.meaning.specs.Reduct.{system}
use Rattle.nested.specs.Nested.{Rooted, Nested}
use Rattle.nested.specs.Flatten.{value_of, root_values, added_by, tree_variables, tree_rules, added_variables, added_rules}
use Rattle.nested.specs.Meaning.{no_tree, leaf_rule, leaf_reading, tree_gives, NestedRule, rule as own, tree as rooted, nested_system}
use Rattle.nested.specs.Sentences.{Extends, restricted, completed}
use Rattle.nested.proofs.FineNested.{FineTree, FineNested}
use Rattle.nested.proofs.Lists.{all_append, all_left, all_right, all_both, all_at, at_all, Standing, standing_from, at_standing, standing_over, each_at}
use Rattle.nested.proofs.Lists.{AllAlong, along_map, along_both, along_three, along_forget, along_range, all_along, along_all, standing_along, joined_length}
use Rattle.nested.proofs.Nodes.{climbs_along, kind_kept, kept_order}
use Rattle.nested.proofs.Values.{Inside, root_count, root_variable_count, root_goes, root_added, held_inside, value_between}
use Rattle.nested.proofs.Trees.{amount_by}
use Rattle.nested.proofs.Declared.{declared_tree, variable_same, rule_same, seen, seen_declared, seen_added, leaf_read, leaf_same}
use Rattle.nested.proofs.TreesMet.{Asked, order_same, Placed, value_seen, values_seen, Reached, tree_reached, tree_asked, tree_given}
use Rattle.nested.proofs.Placing.{all, variables_stand, past_all, number_ways, trees_placed, added_founded}

-- the plain program
abbrev pub plainly : Nested → Program
plainly N = record {
  variables = all N.plain.variables N.trees;
  rules = N.plain.rules ++ added_rules (length N.plain.variables) N.trees;
  constraints = N.plain.constraints;
}

-- the values of all added variables, where each tree's leaves are read for its own head
abbrev tree_values : Nested → Valuation → Valuation → List ℤ
tree_values N m θ = joined (λ t. root_values max_levels (leaf_reading N.plain.variables t.head m θ) t.tree) N.trees

-- m with these values after those of the declared variables
abbrev pub extended : Nested → Valuation → Valuation → Valuation
extended N m θ = let n = length N.plain.variables in completed n m (λ v. get_or (tree_values N m θ) (v - n) (pos 0))

-- the tree's value is no more than its head has
abbrev TreeMet : List Variable → Valuation → Valuation → Rooted → Type 0
TreeMet vs m θ t = T (not_past (variable_in vs t.head) (value_of max_levels t.tree (leaf_reading vs t.head m θ)) (m t.head))

module _ {N : Nested} (fine : FineNested N) where
  abbrev vs : List Variable
  vs = N.plain.variables

  abbrev ts : List Rooted
  ts = N.trees

  abbrev ws : List Variable
  ws = all vs ts

  -- ---- the rules of each

  rule_asked : {m m' θ θ' : Valuation} → Extends (length vs) m m' → Extends (length vs) θ θ' → (r : Rule) → item_refusal vs (rule r) ≡ 0
      → Asked vs m θ r ≡ Asked ws m' θ' r
  rule_asked {m} {m'} {θ} {θ'} em eθ r e =
      let p = rule_promised vs r e in
      ap (λ (x : Variable). T (no_more x (gives vs r m θ) (m r.head))) (sym (variable_same vs (added_variables vs ts) r.head p.head_declared))
      ∙ ap₂ (λ (g : Option ℤ) (a : ℤ). T (no_more (variable_in ws r.head) g a)) (sym (rule_same vs (added_variables vs ts) em eθ r p)) (sym (em.same r.head p.head_declared))

  -- what a model of the nested reduct says, as lists
  module _ (m θ : Valuation) where
    nested_rules : Model (nested_system N) θ m → All (Asked vs m θ) N.plain.rules
    nested_rules k = at_all (Asked vs m θ) no_rule N.plain.rules (λ i h. k.rules (own i) h)

    nested_trees : Model (nested_system N) θ m → All (TreeMet vs m θ) ts
    unfolding tree_gives
    nested_trees k = at_all (TreeMet vs m θ) no_tree ts (λ i h. k.rules (rooted i) h)

    nested_met : All (Asked vs m θ) N.plain.rules → All (TreeMet vs m θ) ts
        → (r : NestedRule) → (nested_system N).In r → T (no_more (variable_in vs ((nested_system N).head r)) ((nested_system N).gives r m θ) (m ((nested_system N).head r)))
    unfolding tree_gives
    nested_met a b (own i) h = all_at (Asked vs m θ) no_rule N.plain.rules a i h
    nested_met a b (rooted i) h = all_at (TreeMet vs m θ) no_tree ts b i h

  -- ---- the extension

  module _ (m θ : Valuation) where
    values_sized : (t : Rooted) → length (root_values max_levels (leaf_reading vs t.head m θ) t.tree) ≡ added_by t
    values_sized t = root_count (leaf_reading vs t.head m θ) max_levels t.tree

    pub extended_extends : Extends (length vs) m (extended N m θ)
    extended_extends = record { same = λ v l. rw (lt-ltb v (length vs) l) }

    extended_added : (v : ℕ) → length vs ≤ v → extended N m θ v ≡ get_or (tree_values N m θ) (v - length vs) (pos 0)
    extended_added v l = rw (le-ltb v (length vs) l)

    pub extended_past : (v : ℕ) → length vs + total added_by ts ≤ v → extended N m θ v ≡ pos 0
    extended_past v l =
        let c = joined_length added_by (λ t. root_values max_levels (leaf_reading vs t.head m θ) t.tree) values_sized ts in
        extended_added v (omega arith) ∙ get_or-eq_default (tree_values N m θ) (pos 0) (omega arith)

    -- at each added variable stands its node's value
    extended_stands : AllAlong added_by (λ n t. Standing ◌≡◌ (extended N m θ) n (root_values max_levels (leaf_reading vs t.head m θ) t.tree)) (length vs) ts
    extended_stands = standing_along _ values_sized ts (at_standing (pos 0) (tree_values N m θ)
        (λ i l. let e : length vs + i - length vs ≡ i = omega arith in
        sym (extended_added (length vs + i) (omega arith) ∙ ap (λ (k : ℕ). get_or (tree_values N m θ) k (pos 0)) e)))

  module _ {m θ : Valuation} (wθ : Within (nested_system N) θ) (k : Model (nested_system N) θ m) where
    -- a leaf is read in its range
    leaf_inside : (h x : ℕ) → Inside vs (leaf_reading vs h m θ) x
    leaf_inside h x = cases (kept vs (leaf_rule h x) 0) (λ b. T (in_range (variable_in vs x) (cond b (m x) (θ x)))) (λ t. k.within.inside x) (λ t. wθ.inside x)

    extended_inside : (v : ℕ) → T (in_range (variable_in ws v) (extended N m θ v))
    extended_inside v = number_ways vs ts (λ v. T (in_range (variable_in ws v) (extended N m θ v))) v
        (λ l. rw (variable_same vs (added_variables vs ts) v l, (extended_extends m θ).same v l) (k.within.inside v))
        (along_range (along_map (FineTree vs) added fine.fine_trees (along_both (variables_stand vs ts) (extended_stands m θ))) v)
        (λ l. rw (past_all vs ts v l, extended_past m θ v l) tt)
      where
        added : (n : ℕ) (t : Rooted) → FineTree vs t
            → Standing ◌≡◌ (variable_in ws) n (tree_variables vs t) × Standing ◌≡◌ (extended N m θ) n (root_values max_levels (leaf_reading vs t.head m θ) t.tree)
            → (v : ℕ) → n ≤ v → v < n + added_by t → T (in_range (variable_in ws v) (extended N m θ v))
        added n t f s v l h =
            let a = leaf_reading vs t.head m θ in
            let kind = (variable_in vs t.head).kind in
            let c = root_variable_count vs kind max_levels t.tree in
            rw (← standing_from no_variable s.0 v l (omega arith), ← standing_from (pos 0) s.1 v l (omega (arith, values_sized m θ t)))
            (each_at no_variable (pos 0) (root_added vs kind a (Inside vs a) (λ x y. T (in_range x y))
            (λ l u g. held_inside (record { kind = kind; low = value_of l u (lows vs); high = value_of l u (highs vs) }) (value_between vs a l u g)) max_levels t.tree
            (f.formed, all_map (λ x i. leaf_inside t.head x) (leaves max_levels t.tree) (declared_tree vs t f.declared).leaves)) (v - n) (omega arith))

    pub model_extended : {θ' : Valuation} → Extends (length vs) θ θ' → ((v : ℕ) → length vs + total added_by ts ≤ v → θ' v ≡ pos 0)
        → Model (system (plainly N)) θ' (extended N m θ)
    model_extended {θ'} eθ past = record {
      standard = λ v. number_ways vs ts (λ v. T (not (is_founded (variable_in ws v))) → extended N m θ v ≡ θ' v) v
          (λ l f. (extended_extends m θ).same v l
          ∙ k.standard v (subst (λ (x : Variable). T (not (is_founded x))) (variable_same vs (added_variables vs ts) v l) f) ∙ sym (eθ.same v l))
          (λ l h f. absurd (T_not (is_founded (variable_in ws v)) f (is_test (added_founded vs ts fine.fine_trees v l h))))
          (λ l f. extended_past m θ v l ∙ sym (past v l));
      within = record { inside = extended_inside };
      rules = all_at (Asked ws m' θ') no_rule (N.plain.rules ++ added_rules (length vs) ts)
          (all_append (Asked ws m' θ') N.plain.rules (added_rules (length vs) ts) old (along_all (Asked ws m' θ') tree_rules added));
    }
      where
        m' : Valuation
        m' = extended N m θ

        old : All (Asked ws m' θ') N.plain.rules
        old = all_map (λ r a. subst (λ A. A) (rule_asked (extended_extends m θ) eθ r a.0) a.1) N.plain.rules
            (all_both _ _ N.plain.rules fine.fine_rules (nested_rules m θ k))

        added : AllAlong added_by (λ n t. All (Asked ws m' θ') (tree_rules n t)) (length vs) ts
        added = along_map (λ t. FineTree vs t × TreeMet vs m θ t)
            (λ n t f p. tree_asked f.0 p.0 m' θ'
            (standing_over (λ v l. sym (seen_added vs t.head m' θ' v (let w = p.0.from in omega arith)))
            (subst (Standing ◌≡◌ m' n) (values_seen f.0 (extended_extends m θ) eθ) p.1))
            (rw (← value_seen f.0 (extended_extends m θ) eθ, (extended_extends m θ).same t.head (declared_tree vs t f.0.declared).head) f.1))
            (all_both (FineTree vs) (TreeMet vs m θ) ts fine.fine_trees (nested_trees m θ k)) (along_both (trees_placed vs ts fine.fine_trees) (extended_stands m θ))

  -- ---- a model of the plain program's reduct

  pub restricted_extends : (m : Valuation) → Extends (length vs) (restricted (length vs) m) m
  restricted_extends m = record { same = λ v l. rw (lt-ltb v (length vs) l) }

  module _ {m θ : Valuation} (k : Model (system (plainly N)) θ m) where
    all_asked : All (Asked ws m θ) (N.plain.rules ++ added_rules (length vs) ts)
    all_asked = at_all (Asked ws m θ) no_rule (N.plain.rules ++ added_rules (length vs) ts) k.rules

    trees_asked : AllAlong added_by (λ n t. All (Asked ws m θ) (tree_rules n t)) (length vs) ts
    trees_asked = all_along (Asked ws m θ) tree_rules (length vs) ts (all_right (Asked ws m θ) N.plain.rules (added_rules (length vs) ts) all_asked)

    trees_reached : AllAlong added_by (Reached vs m θ) (length vs) ts
    trees_reached = along_map (FineTree vs) (λ n t f p. tree_reached f p.0 m θ p.1) fine.fine_trees
        (along_both (trees_placed vs ts fine.fine_trees) trees_asked)

    pub model_restricted : Model (nested_system N) (restricted (length vs) θ) (restricted (length vs) m)
    model_restricted = record {
      standard = λ v. by (λ v. T (not (is_founded (variable_in vs v))) → restricted (length vs) m v ≡ restricted (length vs) θ v) v
          (λ l f. rw (lt-ltb v (length vs) l) (k.standard v (subst (λ (x : Variable). T (not (is_founded x))) (sym (variable_same vs (added_variables vs ts) v l)) f)))
          (λ l f. rw (le-ltb v (length vs) l));
      within = record {
        inside = λ v. by (λ v. T (in_range (variable_in vs v) (restricted (length vs) m v))) v
            (λ l. rw (lt-ltb v (length vs) l, ← variable_same vs (added_variables vs ts) v l) (k.within.inside v))
            (λ l. rw (le-ltb v (length vs) l, get_or-eq_default vs no_variable l) tt);
      };
      rules = nested_met (restricted (length vs) m) (restricted (length vs) θ) old trees;
    }
      where
        by : (P : ℕ → Type 0) (v : ℕ) → (v < length vs → P v) → (length vs ≤ v → P v) → P v
        by P v a b = number_ways vs ts P v a (λ l h. b l) (λ l. b (omega arith))

        old : All (Asked vs (restricted (length vs) m) (restricted (length vs) θ)) N.plain.rules
        old = all_map (λ r a. subst (λ A. A) (sym (rule_asked (restricted_extends m) (restricted_extends θ) r a.0)) a.1) N.plain.rules
            (all_both _ _ N.plain.rules fine.fine_rules (all_left (Asked ws m θ) N.plain.rules (added_rules (length vs) ts) all_asked))

        trees : All (TreeMet vs (restricted (length vs) m) (restricted (length vs) θ)) ts
        trees = along_forget _ (along_map (FineTree vs)
            (λ n t f p. rw (value_seen f (restricted_extends m) (restricted_extends θ), lt-ltb t.head (length vs) (declared_tree vs t f.declared).head) p.value)
            fine.fine_trees trees_reached)

    -- every added variable is at or past the value that its node has by earlier values of the declared variables
    module _ (m₀ : Valuation) {θ₀ : Valuation} (eθ : Extends (length vs) θ₀ θ) (under : (x : ℕ) → x < length vs → T (not_past (variable_in vs x) (m₀ x) (m x))) where
      leaf_later : (h x : ℕ) → x < length vs → T (not_past (variable_in vs h) (leaf_reading vs h m₀ θ₀ x) (seen vs h m θ x))
      leaf_later h x l = rw (seen_declared vs h m θ x l, leaf_read vs h m₀ θ₀ x, leaf_read vs h m θ x, eθ.same x l)
          (cases (kind_kept (variable_in vs h).kind (variable_in vs x).kind) (λ b. T (not_past (variable_in vs h) (cond b (m₀ x) (θ₀ x)) (cond b (m x) (θ₀ x))))
          (λ t. subst T (order_same (variable_in vs x) (variable_in vs h) (kept_order (variable_in vs h).kind (variable_in vs x).kind t) (m₀ x) (m x)) (under x l))
          (λ t. past_refl (variable_in vs h) (θ₀ x)))

      tree_later : (n : ℕ) (t : Rooted) → FineTree vs t
          → Placed vs (added_variables vs ts) n t × Reached vs m θ n t × Standing ◌≡◌ (extended N m₀ θ₀) n (root_values max_levels (leaf_reading vs t.head m₀ θ₀) t.tree)
          → (v : ℕ) → n ≤ v → v < n + added_by t → T (not_past (variable_in ws v) (extended N m₀ θ₀ v) (m v))
      tree_later n t f p v l h =
          let head = variable_in vs t.head in
          let a = leaf_reading vs t.head m₀ θ₀ in
          let b = seen vs t.head m θ in
          let ca = root_count a max_levels t.tree in
          let cb = root_count b max_levels t.tree in
          let from = p.0.from in
          let goes = each_at (pos 0) (pos 0) (root_goes (climbs_along head) a b max_levels t.tree
          (f.formed, all_map (leaf_later t.head) (leaves max_levels t.tree) (declared_tree vs t f.declared).leaves)) (v - n) (omega arith) in
          let last = subst (λ (z : ℤ). T (not_past head (get_or (root_values max_levels b t.tree) (v - n) (pos 0)) z)) (seen_added vs t.head m θ v (omega arith))
          (standing_from (pos 0) p.1.stands v l (omega arith)) in
          rw (order_same (variable_in ws v) head (ap (λ (k : ℕ). eqb k 2) (p.0.kinds v l h)) (extended N m₀ θ₀ v) (m v), ← standing_from (pos 0) p.2 v l (omega arith))
          (past_trans head _ _ _ goes last)

      pub added_later : (v : ℕ) → length vs ≤ v → v < length vs + total added_by ts → T (not_past (variable_in ws v) (extended N m₀ θ₀ v) (m v))
      added_later = along_range (along_map (FineTree vs) tree_later fine.fine_trees (along_three (trees_placed vs ts fine.fine_trees) trees_reached (extended_stands m₀ θ₀)))

  -- the reduct never reads the value that an added variable is assigned
  pub model_unread : {θ θ' m : Valuation} → Extends (length vs) θ θ' → ((v : ℕ) → length vs + total added_by ts ≤ v → θ' v ≡ θ v)
      → Model (system (plainly N)) θ m → Model (system (plainly N)) θ' m
  model_unread {θ} {θ'} {m} eθ past k = record {
    standard = λ v. number_ways vs ts (λ v. T (not (is_founded (variable_in ws v))) → m v ≡ θ' v) v
        (λ l f. k.standard v f ∙ sym (eθ.same v l))
        (λ l h f. absurd (T_not (is_founded (variable_in ws v)) f (is_test (added_founded vs ts fine.fine_trees v l h))))
        (λ l f. k.standard v f ∙ sym (past v l));
    within = k.within;
    rules = all_at (Asked ws m θ') no_rule (N.plain.rules ++ added_rules (length vs) ts)
        (all_append (Asked ws m θ') N.plain.rules (added_rules (length vs) ts) old (along_all (Asked ws m θ') tree_rules added));
  }
    where
      itself : (a : Valuation) → Extends (length vs) a a
      itself a = record { same = λ v l. refl }

      old : All (Asked ws m θ') N.plain.rules
      old = all_map (λ r a. subst (λ A. A) (sym (rule_asked (itself m) (itself θ) r a.0) ∙ rule_asked (itself m) eθ r a.0) a.1) N.plain.rules
          (all_both _ _ N.plain.rules fine.fine_rules (all_left (Asked ws m θ) N.plain.rules (added_rules (length vs) ts) (all_asked k)))

      seen_same : (h : ℕ) → seen vs h m θ ≡ seen vs h m θ'
      seen_same h = fun_ext (λ x. cases (ltb x (length vs)) (λ b. cond b (leaf_reading vs h m θ x) (m x) ≡ cond b (leaf_reading vs h m θ' x) (m x))
          (λ l. leaf_same vs h (itself m) eθ x (ltb→lt x (length vs) l)) (λ l. refl))

      added : AllAlong added_by (λ n t. All (Asked ws m θ') (tree_rules n t)) (length vs) ts
      added = along_map (FineTree vs) (λ n t f p. all_map
          (λ r a. subst (λ (g : Option ℤ). T (no_more (variable_in ws r.head) g (m r.head)))
          (a.0.0 ∙ ap (λ (b : Valuation). Some (amount_by b r)) (seen_same t.head) ∙ sym a.0.1) a.1) (tree_rules n t)
          (all_both _ _ (tree_rules n t) (all_both _ _ (tree_rules n t) (tree_given f p.0 m θ) (tree_given f p.0 m θ')) p.1)) fine.fine_trees
          (along_both (trees_placed vs ts fine.fine_trees) (trees_asked k))
