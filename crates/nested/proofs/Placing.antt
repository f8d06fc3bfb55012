-- Where the variables that the trees add stand: after the declared ones, tree by tree, each founded, of its tree's head's kind.
use Prim.Native.Nat.{ℕ, ◌+◌, ◌-◌, ◌<◌, ◌≤◌}
use mathlib.Core.Path.{◌≡◌, refl, sym, ap, ◌∙◌}
use mathlib.Core.Bool.{Bool, true, false, ◌||◌}
use mathlib.Core.List.{List, ◌++◌}
use native.Mathlib.Omega.{arith}
use lib.Dec.{ltb, eqb}
use lib.IntN.{pos}
use lib.ListN.{length, length-append, get_or-eq_default}
use lib.Seq.{get_or-append-add}
use borrow.Author.Tests.{ltb-true, ltb-false}
use Rattle.trees.specs.Tree.{max_levels, total}
use Rattle.program.specs.Encode.{All}
use Rattle.program.specs.Program.{variable_in, no_variable}
use Rattle.program.specs.Variables.{is_founded}
use Rattle.program.specs.declared.Variable.{Variable}
use Rattle.nested.specs.Nested.{Rooted}
use Rattle.nested.specs.Flatten.{added_by, tree_variables, added_variables}
use Rattle.nested.proofs.FineNested.{FineTree}
use Rattle.nested.proofs.Lists.{Standing, standing_from, at_standing, each_at, AllAlong, along_map, along_both, along_each, along_range, standing_along, joined_length}
use Rattle.nested.proofs.Values.{root_variable_count, root_added}
use Rattle.nested.proofs.Declared.{declared_tree}
use Rattle.nested.proofs.TreesMet.{Placed}
use Rattle.program.specs.Idle.{lows}

module _ (vs : List Variable) (ts : List Rooted) where
  abbrev pub all : List Variable
  all = vs ++ added_variables vs ts

  sized : (t : Rooted) → length (tree_variables vs t) ≡ added_by t
  sized t = root_variable_count vs (variable_in vs t.head).kind max_levels t.tree

  pub all_length : length all ≡ length vs + total added_by ts
  all_length = omega (arith, length-append vs (added_variables vs ts), joined_length added_by (tree_variables vs) sized ts)

  pub variables_stand : AllAlong added_by (λ n t. Standing ◌≡◌ (variable_in all) n (tree_variables vs t)) (length vs) ts
  variables_stand = standing_along (tree_variables vs) sized ts (at_standing no_variable (added_variables vs ts) (λ i l. sym (get_or-append-add vs (added_variables vs ts) i no_variable)))

  pub past_all : (v : ℕ) → length vs + total added_by ts ≤ v → variable_in all v ≡ no_variable
  past_all v h = get_or-eq_default all no_variable (omega (arith, all_length))

  -- a number is that of a declared variable, of an added one or of none
  pub number_ways : (P : ℕ → Type 0) (v : ℕ) → (v < length vs → P v) → (length vs ≤ v → v < length vs + total added_by ts → P v) → (length vs + total added_by ts ≤ v → P v) → P v
  number_ways P v a b c = go (ltb v (length vs)) (ltb v (length vs + total added_by ts)) refl refl
    where
      go : (s t : Bool) → ltb v (length vs) ≡ s → ltb v (length vs + total added_by ts) ≡ t → P v
      go true t p q = a (ltb-true v (length vs) p)
      go false true p q = b (ltb-false v (length vs) p) (ltb-true v (length vs + total added_by ts) q)
      go false false p q = c (ltb-false v (length vs + total added_by ts) q)

  module _ (fine : All (FineTree vs) ts) where
    pub trees_placed : AllAlong added_by (Placed vs (added_variables vs ts)) (length vs) ts
    trees_placed =
        along_map (FineTree vs) (λ n t f p. record { from = p.0; kinds = kinds n t f p.1 }) fine
        (along_both (along_each (FineTree vs) (length vs) (length vs + total added_by ts) (λ n t f l h. l) (length vs) ts fine (omega arith) (omega arith)) variables_stand)
      where
        kinds : (n : ℕ) (t : Rooted) → FineTree vs t → Standing ◌≡◌ (variable_in all) n (tree_variables vs t)
            → (v : ℕ) → n ≤ v → v < n + added_by t → (variable_in all v).kind ≡ (variable_in vs t.head).kind
        kinds n t f s v l h =
            let kind = (variable_in vs t.head).kind in
            ap (λ (x : Variable). x.kind) (sym (standing_from no_variable s v l (omega (arith, sized t))))
            ∙ each_at no_variable (pos 0) (root_added vs kind (lows vs) (λ x. x < length vs) (λ x y. x.kind ≡ kind) (λ l u g. refl) max_levels t.tree
            (f.formed, (declared_tree vs t f.declared).leaves)) (v - n) (omega (arith, sized t))

    pub added_founded : (v : ℕ) → length vs ≤ v → v < length vs + total added_by ts → is_founded (variable_in all v) ≡ true
    added_founded =
        along_range (along_map (FineTree vs)
        (λ n t f p v l h. ap (λ (k : ℕ). eqb k 1 || eqb k 2) (p.kinds v l h) ∙ (declared_tree vs t f.declared).founded) fine trees_placed)
