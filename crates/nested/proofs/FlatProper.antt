-- The plain program of a fine nested one is within the format's limits, and no part of it meets a refusal. So it is proper where it is valid and short.
use Prim.Native.Nat.{ℕ, zero, suc, ◌+◌, ◌-◌, ◌<◌, ◌≤◌}
use mathlib.Core.Path.{◌≡◌, refl, sym, ap, ◌∙◌}
use mathlib.Core.Bool.{true, false, not, ◌||◌}
use mathlib.Core.List.{List, ◌++◌, map}
use native.Mathlib.Omega.{arith}
use lib.Dec.{eqb, leb}
use lib.ListN.{length, get_or, length-append, length-map}
use lib.Seq.{get_or-append-add}
use borrow.Author.Tests.{leb-false, le-ltb, not-false}
use Rattle.format.specs.Limits.{max_file}
use Rattle.trees.specs.Tree.{Tree, leaf, inner, max_levels, leaves}
use Rattle.program.specs.Program.{variable, rule, constraint, variable_in, no_variable, no_rule, no_constraint}
use Rattle.program.specs.Refusals.{wrong_form, outside_range, undeclared_term, wrong_head, undeclared, any_term, wrong_count, variable_twice, negative_product, item_refusal}
use Rattle.program.specs.Components.{Valid}
use Rattle.program.specs.Variables.{is_founded}
use Rattle.program.specs.Reading.{Accepts}
use Rattle.program.specs.Encode.{All, Proper}
use Rattle.program.specs.declared.Variable.{Variable}
use Rattle.program.specs.declared.Term.{Term}
use Rattle.program.proofs.Conditions.{neither, none_below}
use Rattle.program.proofs.Encoding.{all_of, all_map}
use Rattle.program.proofs.Places.{alone}
use Rattle.program.proofs.Promises.{Promises, variable_promised, rule_promised, constraint_promised}
use Rattle.program.proofs.RoundTrip.{encoded_accepted}
use Rattle.normal.proofs.Fine.{fine_item}
use Rattle.nested.specs.Nested.{Rooted, Nested}
use Rattle.nested.specs.Flatten.{node_term, inner_variables, root_variables, tree_variables, added_variables, added_rules, flatten}
use Rattle.nested.specs.TreeRefusals.{variables_added, rules_added, added_outside}
use Rattle.nested.specs.FlattenCall.{flat}
use Rattle.nested.proofs.FineNested.{FineTree, FineNested}
use Rattle.nested.proofs.Alongs.{all_append, all_at, all_joined, every_joined}
use Rattle.nested.proofs.MoreVariables.{same_variable, more_rule, more_constraint}
use Rattle.nested.proofs.NodeRules.{term_at_is, never_apart}
use Rattle.nested.proofs.TreeLengths.{variables_length, rules_length}
use Rattle.nested.proofs.TreeRules.{Sound, FineNode, added_rules_is}

-- ---- a fine tree: its head and its leaves

module _ {vs : List Variable} {t : Rooted} (f : FineTree vs t) where
  abbrev named : List ℕ
  named = leaves max_levels t.tree

  abbrev body : List Term
  body = map (node_term 1) named

  declared_parts : (wrong_head vs t.head ≡ false) × (any_term body (λ i u. undeclared_term vs u) ≡ false)
  unfolding undeclared
  declared_parts = neither (wrong_head vs t.head) (any_term body (λ i u. undeclared_term vs u)) f.declared

  head_parts : (leb (length vs) t.head ≡ false) × (not (is_founded (variable_in vs t.head)) ≡ false)
  unfolding wrong_head
  head_parts = neither (leb (length vs) t.head) (not (is_founded (variable_in vs t.head))) declared_parts.0

  pub head_declared : t.head < length vs
  head_declared = leb-false (length vs) t.head head_parts.0

  pub head_founded : is_founded (variable_in vs t.head) ≡ true
  head_founded = not-false (is_founded (variable_in vs t.head)) head_parts.1

  leaves_declared : All (λ x. x < length vs) named
  unfolding undeclared_term
  leaves_declared = all_of (λ x. x < length vs) 0 named (λ i h. leb-false (length vs) (get_or named i 0)
      (ap (undeclared_term vs) (sym (term_at_is 1 named i h)) ∙ none_below (length body) _ declared_parts.1 i (omega (arith, length-map named (node_term 1)))))

  pub tree_sound : Sound (length vs) max_levels t.tree
  unfolding variable_twice
  tree_sound = record { formed = f.formed; declared = leaves_declared; apart = never_apart 1 named f.once }

-- ---- the added variables

module _ (vs : List Variable) (kind : ℕ) where
  inner_kinds : (l : ℕ) (t : Tree l) → All (λ x. x.kind ≡ kind) (inner_variables l vs kind t)
  unfolding inner_variables
  inner_kinds zero t = absurd t
  inner_kinds (suc l) (leaf x) = tt
  inner_kinds (suc l) (inner form ts) = (refl, every_joined (λ x. x.kind ≡ kind) (inner_variables l vs kind) (inner_kinds l) ts)

  root_kinds : (l : ℕ) (t : Tree l) → All (λ x. x.kind ≡ kind) (root_variables l vs kind t)
  unfolding root_variables
  root_kinds zero t = absurd t
  root_kinds (suc l) (leaf x) = tt
  root_kinds (suc l) (inner form ts) = every_joined (λ x. x.kind ≡ kind) (inner_variables l vs kind) (inner_kinds l) ts

-- a variable that meets no refusal, and is founded
record FineAdded (ws : List Variable) (x : Variable) : Type 0 where
  fine : item_refusal ws (variable x) ≡ 0
  founded : is_founded x ≡ true

variable_fine : (ws : List Variable) (x : Variable) → x.kind ≤ 2 → outside_range (variable x) ≡ false → item_refusal ws (variable x) ≡ 0
unfolding wrong_form undeclared wrong_count variable_twice negative_product
variable_fine ws x h e = fine_item (record { formed = le-ltb 2 x.kind h; ranged = e; declared = refl; counted = refl; once = refl; product = refl })

module _ (ws vs : List Variable) (fine : All (λ x. item_refusal vs (variable x) ≡ 0) vs) where
  tree_variables_is : (t : Rooted) → FineTree vs t → All (FineAdded ws) (tree_variables vs t)
  unfolding added_outside
  tree_variables_is t f = all_of (FineAdded ws) no_variable added (λ i h.
      let x = variable_in added i in
      let kind : x.kind ≡ head.kind = all_at (λ y. y.kind ≡ head.kind) no_variable added (root_kinds vs head.kind max_levels t.tree) i h in
      let known = (variable_promised vs head (all_at (λ y. item_refusal vs (variable y) ≡ 0) no_variable vs fine t.head (head_declared f))).kind in
      record {
        fine = variable_fine ws x (omega arith) (none_below (length added) _ f.inside i h);
        founded = ap (λ (k : ℕ). eqb k 1 || eqb k 2) kind ∙ head_founded f;
      })
    where
      head : Variable
      head = variable_in vs t.head

      added : List Variable
      added = tree_variables vs t

  added_variables_is : (ts : List Rooted) → All (FineTree vs) ts → All (FineAdded ws) (added_variables vs ts)
  added_variables_is ts f = all_joined (FineAdded ws) (FineTree vs) (tree_variables vs) tree_variables_is ts f

-- ---- the plain program

pub more_variables : (N : Nested) → length (flatten N).variables ≡ length N.plain.variables + variables_added N.trees
unfolding flatten
more_variables N = let vs = N.plain.variables in omega (arith, length-append vs (added_variables vs N.trees), variables_length vs N.trees)

pub more_rules : (N : Nested) → length (flatten N).rules ≡ length N.plain.rules + rules_added N.trees
unfolding flatten
more_rules N =
    let n = length N.plain.variables in
    omega (arith, length-append N.plain.rules (added_rules n N.trees), rules_length n N.trees)

module _ {N : Nested} (f : FineNested N) where
  abbrev vs : List Variable
  vs = N.plain.variables

  abbrev added : List Variable
  added = added_variables vs N.trees

  abbrev ws : List Variable
  ws = vs ++ added

  fine_added : All (FineAdded ws) added
  fine_added = added_variables_is ws vs f.fine_variables N.trees f.fine_trees

  added_founded : (m : ℕ) → length vs ≤ m → m < length ws → is_founded (variable_in ws m) ≡ true
  added_founded m h l =
      let e : m ≡ length vs + (m - length vs) = omega arith in
      let in-added : m - length vs < length added = omega (arith, length-append vs added) in
      ap (λ (i : ℕ). is_founded (variable_in ws i)) e ∙ ap is_founded (get_or-append-add vs added (m - length vs) no_variable)
      ∙ (all_at (FineAdded ws) no_variable added fine_added (m - length vs) in-added).founded

  -- the rules of the trees
  pub fine_nodes : All (FineNode ws) (added_rules (length vs) N.trees)
  fine_nodes =
      let within : length vs ≤ length ws = omega (arith, length-append vs added) in
      added_rules_is ws (length vs) within added_founded N.trees
      (all_map (λ t g. record {
        sound = tree_sound g;
        head = head_declared g;
        founded = ap is_founded (same_variable vs added t.head (head_declared g)) ∙ head_founded g;
      }) N.trees f.fine_trees)
      (omega (arith, length-append vs added, variables_length vs N.trees))

  fine_variables : All (λ x. item_refusal ws (variable x) ≡ 0) ws
  fine_variables = all_append (λ x. item_refusal ws (variable x) ≡ 0) vs added
      (all_map (λ x e. alone ws vs x ∙ e) vs f.fine_variables) (all_map (λ x g. g.fine) added fine_added)

  fine_rules : All (λ r. item_refusal ws (rule r) ≡ 0) (N.plain.rules ++ added_rules (length vs) N.trees)
  fine_rules = all_append (λ r. item_refusal ws (rule r) ≡ 0) N.plain.rules (added_rules (length vs) N.trees)
      (all_map (more_rule vs added) N.plain.rules f.fine_rules) (all_map (λ r g. g.fine) (added_rules (length vs) N.trees) fine_nodes)

  fine_constraints : All (λ k. item_refusal ws (constraint k) ≡ 0) N.plain.constraints
  fine_constraints = all_map (more_constraint vs added) N.plain.constraints f.fine_constraints

  pub flatten_promises : Promises (flatten N)
  unfolding flatten
  flatten_promises = record {
    variables = λ x h. variable_promised ws _ (all_at (λ y. item_refusal ws (variable y) ≡ 0) no_variable ws fine_variables x h);
    rules = λ i h. rule_promised ws _ (all_at (λ r. item_refusal ws (rule r) ≡ 0) no_rule (flatten N).rules fine_rules i h);
    constraints = λ i h. constraint_promised ws _ (all_at (λ k. item_refusal ws (constraint k) ≡ 0) no_constraint N.plain.constraints fine_constraints i h);
  }

  pub flatten_proper : Valid (flatten N) → length (flat N) ≤ max_file → Proper (flatten N)
  unfolding flatten
  flatten_proper valid short = record {
    short = short;
    few_variables = omega (arith, more_variables N, f.few_variables);
    few_rules = omega (arith, more_rules N, f.few_rules);
    few_constraints = f.few_constraints;
    fine_variables = fine_variables;
    fine_rules = fine_rules;
    fine_constraints = fine_constraints;
    valid = valid;
  }

  -- so its file is accepted
  pub flat_accepted : Valid (flatten N) → length (flat N) ≤ max_file → Accepts (flat N) (flatten N)
  flat_accepted valid short = encoded_accepted (flatten_proper valid short)
