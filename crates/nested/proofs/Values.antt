-- The values of a tree and of its inner nodes go with those of its leaves; so a node's values run exactly over the range of the variable that is added for it.
use Prim.Native.Nat.{ℕ, zero, suc, ◌<◌, ◌≤◌}
use mathlib.Core.Path.{◌≡◌, refl}
use mathlib.Core.Bool.{◌&&◌}
use mathlib.Core.List.{List, [], ◌∷◌}
use native.Mathlib.Omega.{arith}
use lib.Dec.{T, leb, leb→le}
use lib.IntN.{ℤ, pos}
use lib.Signed.{◌≤ℤ◌, le_z, ≤ℤ_refl}
use lib.ListN.{length, get_or, length-map}
use Rattle.trees.specs.Tree.{Tree, leaf, inner, max_levels, max_children, leaves, inners, besides, Formed}
use Rattle.program.specs.Encode.{All}
use Rattle.program.specs.Program.{variable, variable_in, no_variable}
use Rattle.program.specs.Variables.{in_range}
use Rattle.program.specs.Readings.{Valuation}
use Rattle.program.specs.Idle.{lows, highs}
use Rattle.program.specs.Refusals.{item_refusal}
use Rattle.program.specs.declared.Variable.{Variable}
use Rattle.program.proofs.Monotone.{Held}
use Rattle.program.proofs.Promises.{variable_promised}
use Rattle.program.proofs.Tests.{and_left, and_right, and_both}
use Rattle.program.proofs.Variables.{low_in_is, high_in_is}
use Rattle.program.proofs.Encoding.{all_map}
use Rattle.normal.proofs.Listings.{among_all}
use Rattle.nested.specs.Nested.{Rooted, Nested}
use Rattle.nested.specs.Flatten.{value_of, inner_values, inner_variables, root_values, root_variables, added_by, tree_variables}
use Rattle.nested.proofs.FineNested.{FineNested}
use Rattle.nested.proofs.Lists.{all_both, all_joined, Each, none, and, each_at, each_map, each_joined, joined_length}
use Rattle.nested.proofs.Nodes.{NodeForm, Climbs, climbs_up}

-- ---- trees that are well formed, and whose leaves have a property

abbrev pub Fit : (ℕ → Type 0) → (l : ℕ) → Tree l → Type 0
Fit q l t = Formed l t × All q (leaves l t)

pub record FitNode (q : ℕ → Type 0) (l form : ℕ) (ts : List (Tree l)) : Type 0 where
  pub byte : NodeForm form
  pub some : 1 ≤ length ts
  pub children : All (Fit q l) ts

pub fit_leaf : (q : ℕ → Type 0) (l x : ℕ) → Fit q (suc l) (leaf x) → q x
unfolding leaves
fit_leaf q l x f = f.1.0

pub fit_node : (q : ℕ → Type 0) (l form : ℕ) (ts : List (Tree l)) → Fit q (suc l) (inner form ts) → FitNode q l form ts
unfolding Formed leaves
fit_node q l form ts f =
    let a = and_left (leb 1 form && leb form 3) (leb 1 (length ts) && leb (length ts) max_children) f.0.0 in
    let b = and_right (leb 1 form && leb form 3) (leb 1 (length ts) && leb (length ts) max_children) f.0.0 in
    record {
      byte = record {
        least = leb→le 1 form (and_left (leb 1 form) (leb form 3) a);
        most = leb→le form 3 (and_right (leb 1 form) (leb form 3) a);
      };
      some = leb→le 1 (length ts) (and_left (leb 1 (length ts)) (leb (length ts) max_children) b);
      children = all_both (Formed l) (λ t. All q (leaves l t)) ts f.0.1 (all_joined q (leaves l) ts f.1);
    }

-- ---- how many there are

pub inner_count : (a : Valuation) (l : ℕ) (t : Tree l) → length (inner_values l a t) ≡ inners l t
unfolding inner_values inners
inner_count a zero t = absurd t
inner_count a (suc l) (leaf x) = refl
inner_count a (suc l) (inner form ts) = omega (arith, joined_length (inners l) (inner_values l a) (inner_count a l) ts)

inner_variable_count : (vs : List Variable) (kind l : ℕ) (t : Tree l) → length (inner_variables l vs kind t) ≡ inners l t
unfolding inner_variables inners
inner_variable_count vs kind zero t = absurd t
inner_variable_count vs kind (suc l) (leaf x) = refl
inner_variable_count vs kind (suc l) (inner form ts) = omega (arith, joined_length (inners l) (inner_variables l vs kind) (inner_variable_count vs kind l) ts)

pub root_count : (a : Valuation) (l : ℕ) (t : Tree l) → length (root_values l a t) ≡ besides l t
unfolding root_values besides
root_count a zero t = absurd t
root_count a (suc l) (leaf x) = refl
root_count a (suc l) (inner form ts) = joined_length (inners l) (inner_values l a) (inner_count a l) ts

pub root_variable_count : (vs : List Variable) (kind l : ℕ) (t : Tree l) → length (root_variables l vs kind t) ≡ besides l t
unfolding root_variables besides
root_variable_count vs kind zero t = absurd t
root_variable_count vs kind (suc l) (leaf x) = refl
root_variable_count vs kind (suc l) (inner form ts) = joined_length (inners l) (inner_variables l vs kind) (inner_variable_count vs kind l) ts

-- ---- the values go with the leaves, in every order that nodes follow

module _ {R : ℤ → ℤ → Type 0} (climbs : Climbs R) (a b : Valuation) where
  -- the leaf x goes so
  abbrev pub Goes : ℕ → Type 0
  Goes x = R (a x) (b x)

  pub value_goes : (l : ℕ) (t : Tree l) → Fit Goes l t → R (value_of l t a) (value_of l t b)
  unfolding value_of
  value_goes zero t f = absurd t
  value_goes (suc l) (leaf x) f = fit_leaf Goes l x f
  value_goes (suc l) (inner form ts) f =
      let n = fit_node Goes l form ts f in
      climbs.node n.byte (rw (length-map ts (λ t. value_of l t a)) n.some)
      (each_map (Fit Goes l) (λ t. value_of l t a) (λ t. value_of l t b) (value_goes l) ts n.children)

  inner_goes : (l : ℕ) (t : Tree l) → Fit Goes l t → Each R (inner_values l a t) (inner_values l b t)
  unfolding inner_values
  inner_goes zero t f = absurd t
  inner_goes (suc l) (leaf x) f = none
  inner_goes (suc l) (inner form ts) f =
      and (value_goes (suc l) (inner form ts) f)
      (each_joined (Fit Goes l) (inner_values l a) (inner_values l b) (inner_goes l) ts (fit_node Goes l form ts f).children)

  pub root_goes : (l : ℕ) (t : Tree l) → Fit Goes l t → Each R (root_values l a t) (root_values l b t)
  unfolding root_values
  root_goes zero t f = absurd t
  root_goes (suc l) (leaf x) f = none
  root_goes (suc l) (inner form ts) f = each_joined (Fit Goes l) (inner_values l a) (inner_values l b) (inner_goes l) ts (fit_node Goes l form ts f).children

-- ---- an added variable and its node's value

module _ (vs : List Variable) (kind : ℕ) (a : Valuation) (q : ℕ → Type 0) (F : Variable → ℤ → Type 0)
    (at : (l : ℕ) (t : Tree l) → Fit q l t → F (record { kind = kind; low = value_of l t (lows vs); high = value_of l t (highs vs) }) (value_of l t a)) where
  inner_added : (l : ℕ) (t : Tree l) → Fit q l t → Each F (inner_variables l vs kind t) (inner_values l a t)
  unfolding inner_variables inner_values
  inner_added zero t f = absurd t
  inner_added (suc l) (leaf x) f = none
  inner_added (suc l) (inner form ts) f =
      and (at (suc l) (inner form ts) f)
      (each_joined (Fit q l) (inner_variables l vs kind) (inner_values l a) (inner_added l) ts (fit_node q l form ts f).children)

  pub root_added : (l : ℕ) (t : Tree l) → Fit q l t → Each F (root_variables l vs kind t) (root_values l a t)
  unfolding root_variables root_values
  root_added zero t f = absurd t
  root_added (suc l) (leaf x) f = none
  root_added (suc l) (inner form ts) f = each_joined (Fit q l) (inner_variables l vs kind) (inner_values l a) (inner_added l) ts (fit_node q l form ts f).children

-- the variable x has in a a value of its range
abbrev pub Inside : List Variable → Valuation → ℕ → Type 0
Inside vs a x = T (in_range (variable_in vs x) (a x))

pub held_inside : (x : Variable) {a : ℤ} → Held x.low x.high a → T (in_range x a)
held_inside x {a} h = and_both (le_z x.low a) (le_z a x.high) h.low.le h.high.le

-- with every leaf in its range, a tree's value lies between that at the lows and that at the highs
pub value_between : (vs : List Variable) (a : Valuation) (l : ℕ) (t : Tree l) → Fit (Inside vs a) l t → Held (value_of l t (lows vs)) (value_of l t (highs vs)) (value_of l t a)
value_between vs a l t f = record {
  low = value_goes climbs_up (lows vs) a l t (f.0, all_map (λ x i. low_in_is (variable_in vs x) (a x) i) (leaves l t) f.1);
  high = value_goes climbs_up a (highs vs) l t (f.0, all_map (λ x i. high_in_is (variable_in vs x) (a x) i) (leaves l t) f.1);
}

-- x runs exactly over the values of a node, of a tree with these leaves: its ends are the least and the largest, over all values of the leaves in their ranges
pub record ExactRange (vs : List Variable) (ls : List ℕ) (x : Variable) (value : Valuation → ℤ) : Type 0 where
  pub lows_inside : All (Inside vs (lows vs)) ls
  pub highs_inside : All (Inside vs (highs vs)) ls
  pub least : value (lows vs) ≡ x.low
  pub largest : value (highs vs) ≡ x.high
  pub between : (a : Valuation) → All (Inside vs a) ls → Held x.low x.high (value a)

module _ (vs : List Variable) (ordered : (x : ℕ) → (variable_in vs x).low ≤ℤ (variable_in vs x).high) (t : Rooted) (formed : Formed max_levels t.tree) where
  abbrev ls : List ℕ
  ls = leaves max_levels t.tree

  -- what an added variable has to its node's value
  added_at : (a : Valuation) (q : ℕ → Type 0) (F : Variable → ℤ → Type 0)
      → ((l : ℕ) (u : Tree l) → Fit q l u → F (record { kind = (variable_in vs t.head).kind; low = value_of l u (lows vs); high = value_of l u (highs vs) }) (value_of l u a))
      → All q ls → (i : ℕ) → i < added_by t → F (variable_in (tree_variables vs t) i) (get_or (root_values max_levels a t.tree) i (pos 0))
  added_at a q F at f i h =
      let kind = (variable_in vs t.head).kind in
      each_at no_variable (pos 0) (root_added vs kind a q F at max_levels t.tree (formed, f)) i (omega (arith, root_variable_count vs kind max_levels t.tree))

  every : (q : ℕ → Type 0) → ((x : ℕ) → q x) → All q ls
  every q f = among_all q ls (λ x m. f x)

  tree_exact : (i : ℕ) → i < added_by t → ExactRange vs ls (variable_in (tree_variables vs t) i) (λ a. get_or (root_values max_levels a t.tree) i (pos 0))
  tree_exact i h = record {
    lows_inside = every (Inside vs (lows vs)) (λ x. held_inside (variable_in vs x) (record { low = ≤ℤ_refl (lows vs x); high = ordered x }));
    highs_inside = every (Inside vs (highs vs)) (λ x. held_inside (variable_in vs x) (record { low = ordered x; high = ≤ℤ_refl (highs vs x) }));
    least = added_at (lows vs) (λ x. Unit {0}) (λ x y. y ≡ x.low) (λ l u f. refl) (every (λ x. Unit {0}) (λ x. tt)) i h;
    largest = added_at (highs vs) (λ x. Unit {0}) (λ x y. y ≡ x.high) (λ l u f. refl) (every (λ x. Unit {0}) (λ x. tt)) i h;
    between = λ a f. added_at a (Inside vs a) (λ x y. Held x.low x.high y) (value_between vs a) f i h;
  }

-- a declared variable's low is at most its high
in_order_is : {N : Nested} → FineNested N → (x : ℕ) → (variable_in N.plain.variables x).low ≤ℤ (variable_in N.plain.variables x).high
in_order_is {N} fine x = go N.plain.variables N.plain.variables fine.fine_variables x
  where
    go : (vs xs : List Variable) → All (λ x. item_refusal vs (variable x) ≡ 0) xs → (x : ℕ) → (variable_in xs x).low ≤ℤ (variable_in xs x).high
    go vs [] f x = ≤ℤ_refl (pos 0)
    go vs (v ∷ xs) f zero = (variable_promised vs v f.0).in_order_is
    go vs (v ∷ xs) f (suc x) = go vs xs f.1 x

-- "with the exact range of its values": of every tree's added variables
pub exact_range : {N : Nested} → FineNested N
    → All (λ t. (i : ℕ) → i < added_by t
    → ExactRange N.plain.variables (leaves max_levels t.tree) (variable_in (tree_variables N.plain.variables t) i) (λ a. get_or (root_values max_levels a t.tree) i (pos 0)))
    N.trees
exact_range {N} fine = all_map (λ t f. tree_exact N.plain.variables (in_order_is fine) t f.formed) N.trees fine.fine_trees
