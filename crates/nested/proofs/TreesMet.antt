-- The rules of one tree among those of the plain program, whose variables are the declared ones, vs, and more after those: what they ask of a valuation m, read
-- in the reduct of θ, is that each added variable is at or past its node's value, and the head at or past the tree's.
use Rattle.std.specs.Prelude.{Option, Some}
use Prim.Native.Nat.{ℕ, ◌+◌, ◌<◌, ◌≤◌}
use mathlib.Core.Path.{◌≡◌, sym, ap, subst, ◌∙◌}
use mathlib.Core.Bool.{Bool, cond}
use mathlib.Core.List.{List, ◌++◌}
use native.Mathlib.Omega.{arith}
use lib.Dec.{T, eqb}
use lib.IntN.{ℤ}
use lib.Signed.{le_z}
use lib.ListN.{length}
use Rattle.trees.specs.Tree.{max_levels, leaves}
use Rattle.program.specs.Encode.{All}
use Rattle.program.specs.Program.{Rule, variable_in}
use Rattle.program.specs.Variables.{from_above, swaps, not_past, no_more}
use Rattle.program.specs.Readings.{Valuation, gives}
use Rattle.program.specs.declared.Variable.{Variable}
use Rattle.program.proofs.Encoding.{all_map}
use Rattle.program.proofs.Variables.{past_refl, past_trans}
use Rattle.nested.specs.Nested.{Rooted}
use Rattle.nested.specs.Flatten.{value_of, root_values, added_by, tree_rules}
use Rattle.nested.specs.Meaning.{leaf_reading}
use Rattle.nested.specs.Sentences.{Extends}
use Rattle.nested.proofs.FineNested.{FineTree}
use Rattle.nested.proofs.Lists.{all_both, Standing, each_same}
use Rattle.nested.proofs.Nodes.{climbs_equal, climbs_along}
use Rattle.nested.proofs.Values.{Fit, Goes, value_goes, root_goes}
use Rattle.nested.proofs.Trees.{root_rule, other_rules, root_first, root_head, amount_by, Met, others_past, root_stands, others_met}
use Rattle.nested.proofs.Trees.{Seen, Own, Gives, OwnGives, others_given, root_given}
use Rattle.nested.proofs.Declared.{DeclaredTree, declared_tree, variable_same, seen, seen_declared, leaf_seen, added_own, leaf_same}

-- what the rule r asks of m, in the reduct of θ
abbrev pub Asked : List Variable → Valuation → Valuation → Rule → Type 0
Asked ws m θ r = T (no_more (variable_in ws r.head) (gives ws r m θ) (m r.head))

-- the order goes by the kind
pub order_same : (x y : Variable) → from_above x ≡ from_above y → (a b : ℤ) → not_past x a b ≡ not_past y a b
unfolding not_past swaps
order_same x y e a b = ap (λ (t : Bool). cond t (le_z b a) (le_z a b)) e

-- the variables that a tree adds are numbered from n on
pub record Placed (vs more : List Variable) (n : ℕ) (t : Rooted) : Type 0 where
  pub from : length vs ≤ n
  pub kinds : (v : ℕ) → n ≤ v → v < n + added_by t → (variable_in (vs ++ more) v).kind ≡ (variable_in vs t.head).kind

-- each variable that a tree adds, from n on, is at or past its node's value, and the head at or past the tree's: in the head's order, leaves read for the head
pub record Reached (vs : List Variable) (m θ : Valuation) (n : ℕ) (t : Rooted) : Type 0 where
  pub stands : Standing (λ a c. T (not_past (variable_in vs t.head) a c)) (seen vs t.head m θ) n (root_values max_levels (seen vs t.head m θ) t.tree)
  pub value : T (not_past (variable_in vs t.head) (value_of max_levels t.tree (seen vs t.head m θ)) (m t.head))

-- a tree's values look at its leaves alone, which are declared
module _ {vs : List Variable} {t : Rooted} (fine : FineTree vs t) {m m' θ θ' : Valuation} (em : Extends (length vs) m m') (eθ : Extends (length vs) θ θ') where
  same_leaves : Fit (Goes climbs_equal (leaf_reading vs t.head m θ) (seen vs t.head m' θ')) max_levels t.tree
  same_leaves = (
    fine.formed,
    all_map (λ x l. leaf_same vs t.head em eθ x l ∙ sym (seen_declared vs t.head m' θ' x l)) (leaves max_levels t.tree) (declared_tree vs t fine.declared).leaves,
  )

  pub value_seen : value_of max_levels t.tree (leaf_reading vs t.head m θ) ≡ value_of max_levels t.tree (seen vs t.head m' θ')
  value_seen = value_goes climbs_equal (leaf_reading vs t.head m θ) (seen vs t.head m' θ') max_levels t.tree same_leaves

  pub values_seen : root_values max_levels (leaf_reading vs t.head m θ) t.tree ≡ root_values max_levels (seen vs t.head m' θ') t.tree
  values_seen = each_same (root_goes climbs_equal (leaf_reading vs t.head m θ) (seen vs t.head m' θ') max_levels t.tree same_leaves)

module _ {vs more : List Variable} {n : ℕ} {t : Rooted} (fine : FineTree vs t) (placed : Placed vs more n t) (m θ : Valuation) where
  abbrev ws : List Variable
  ws = vs ++ more

  abbrev head : Variable
  head = variable_in vs t.head

  abbrev b : Valuation
  b = seen vs t.head m θ

  declared : DeclaredTree vs t
  declared = declared_tree vs t fine.declared

  fit : Fit (Seen ws head.kind m θ b) max_levels t.tree
  fit = (fine.formed, all_map (λ x l. leaf_seen vs more t.head m θ x l) (leaves max_levels t.tree) declared.leaves)

  own : (v : ℕ) → n ≤ v → v < n + added_by t → Own ws head.kind m θ b v
  own v l h = let f = placed.from in added_own vs more t.head m θ declared.founded v (omega arith) (placed.kinds v l h)

  others : All (OwnGives ws head.kind m θ b) (other_rules max_levels n t.tree)
  others = others_given ws head.kind m θ b n (n + added_by t) own max_levels n t.tree fit (omega arith) (omega arith)

  root : Gives ws head.kind m θ b (root_rule max_levels t.head n t.tree)
  root = root_given ws head.kind m θ b n (n + added_by t) own max_levels t.head n t.tree fit
      (ap (λ (x : Variable). x.kind) (variable_same vs more t.head declared.head)) (omega arith) (omega arith)

  -- the head's order
  abbrev Reaches : ℤ → ℤ → Type 0
  Reaches a c = T (not_past head a c)

  asked_is : (r : Rule) → Gives ws head.kind m θ b r → Asked ws m θ r ≡ Reaches (amount_by b r) (m r.head)
  asked_is r g =
      ap (λ (a : Option ℤ). T (no_more (variable_in ws r.head) a (m r.head))) g.given
      ∙ ap T (order_same (variable_in ws r.head) head (ap (λ (k : ℕ). eqb k 2) g.kinds) (amount_by b r) (m r.head))

  root_is : Asked ws m θ (root_rule max_levels t.head n t.tree) ≡ Reaches (amount_by b (root_rule max_levels t.head n t.tree)) (m t.head)
  root_is =
      asked_is (root_rule max_levels t.head n t.tree) root
      ∙ ap (λ (h : ℕ). Reaches (amount_by b (root_rule max_levels t.head n t.tree)) (m h)) (root_head max_levels t.head n t.tree)

  own_is : (r : Rule) → OwnGives ws head.kind m θ b r → Asked ws m θ r ≡ Met (climbs_along head) b r
  own_is r g = asked_is r g.gives ∙ ap (Reaches (amount_by b r)) (sym g.read)

  pub tree_reached : All (Asked ws m θ) (tree_rules n t) → Reached vs m θ n t
  tree_reached a =
      let c = subst (All (Asked ws m θ)) (root_first max_levels t.head n t.tree) a in
      let s = others_past (climbs_along head) b _ max_levels n t.tree fit
      (all_map (λ r g. subst (λ A. A) (own_is r g.0) g.1) (other_rules max_levels n t.tree) (all_both _ _ (other_rules max_levels n t.tree) others c.1)) in
      record {
        stands = s;
        value = past_trans head _ _ _ (root_stands (climbs_along head) b _ max_levels t.head n t.tree fit s) (subst (λ A. A) root_is c.0);
      }

  pub tree_asked : Standing ◌≡◌ b n (root_values max_levels b t.tree) → Reaches (value_of max_levels t.tree b) (m t.head) → All (Asked ws m θ) (tree_rules n t)
  tree_asked s h = subst (All (Asked ws m θ)) (sym (root_first max_levels t.head n t.tree)) (
    subst (λ A. A) (sym root_is) (subst (λ a. Reaches a (m t.head)) (root_stands climbs_equal b _ max_levels t.head n t.tree fit s) h),
    all_map (λ r g. subst (λ A. A) (sym (own_is r g.0)) (subst (Reaches (amount_by b r)) g.1 (past_refl head (amount_by b r)))) (other_rules max_levels n t.tree)
        (all_both _ _ (other_rules max_levels n t.tree) others (others_met b _ max_levels n t.tree fit s)),
  )

  -- each gives its amount, read in m at the added variables
  pub tree_given : All (λ r. gives ws r m θ ≡ Some (amount_by b r)) (tree_rules n t)
  tree_given = subst (All (λ r. gives ws r m θ ≡ Some (amount_by b r))) (sym (root_first max_levels t.head n t.tree))
      (root.given, all_map (λ r g. g.gives.given) (other_rules max_levels n t.tree) others)
