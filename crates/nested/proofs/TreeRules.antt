-- The rules of a fine tree meet no refusal: each added number is past the declared ones and heads one rule, and leaves are declared and stand once.
use Prim.Native.Nat.{ℕ, zero, suc, ◌+◌, ◌<◌, ◌≤◌}
use mathlib.Core.Path.{◌≡◌}
use mathlib.Core.Logic.{◌≢◌}
use mathlib.Core.Bool.{true, ◌&&◌}
use mathlib.Core.List.{List, [], ◌∷◌}
use native.Mathlib.Omega.{arith}
use lib.Dec.{T, leb, leb→le}
use lib.ListN.{length}
use Rattle.trees.specs.Tree.{Tree, leaf, inner, max_levels, max_children, joined, total, leaves, inners, besides, inner_bytes, Formed}
use Rattle.program.specs.Program.{Rule, rule, variable_in}
use Rattle.program.specs.Variables.{is_founded}
use Rattle.program.specs.Refusals.{item_refusal}
use Rattle.program.specs.Encode.{All}
use Rattle.program.specs.declared.Variable.{Variable}
use Rattle.program.proofs.Tests.{and_left, and_right}
use Rattle.program.proofs.Encoding.{all_map}
use Rattle.nested.specs.Nested.{Rooted}
use Rattle.nested.specs.Flatten.{node_rule, along, operands, inner_rules, root_rules, added_by, tree_rules, added_rules}
use Rattle.nested.specs.TreeRefusals.{variables_added}
use Rattle.nested.proofs.Alongs.{all_first, all_second, all_along}
use Rattle.nested.proofs.NodeRules.{Apart, apart_first, apart_second, NodeFits, node_fine}
use Rattle.nested.proofs.TreeLengths.{operands_length}

-- d variables are declared
pub record Sound (d l : ℕ) (t : Tree l) : Type 0 where
  pub formed : Formed l t
  pub declared : All (λ x. x < d) (leaves l t)
  pub apart : Apart (leaves l t)

-- ---- an inner node

pub record InnerBytes (form n : ℕ) : Type 0 where
  pub from : 1 ≤ form
  pub to : form ≤ 3
  pub some : 1 ≤ n
  pub few : n ≤ max_children

inner_bytes_is : (form n : ℕ) → T (inner_bytes form n) → InnerBytes form n
inner_bytes_is form n t =
    let a = and_left (leb 1 form && leb form 3) (leb 1 n && leb n max_children) t in
    let b = and_right (leb 1 form && leb form 3) (leb 1 n && leb n max_children) t in
    record {
      from = leb→le 1 form (and_left (leb 1 form) (leb form 3) a);
      to = leb→le form 3 (and_right (leb 1 form) (leb form 3) a);
      some = leb→le 1 n (and_left (leb 1 n) (leb n max_children) b);
      few = leb→le n max_children (and_right (leb 1 n) (leb n max_children) b);
    }

module _ (d l : ℕ) where
  -- the children, one after the other
  pub record SoundAll (ts : List (Tree l)) : Type 0 where
    pub formed : All (Formed l) ts
    pub declared : All (λ x. x < d) (joined (leaves l) ts)
    pub apart : Apart (joined (leaves l) ts)

  pub each_sound : (ts : List (Tree l)) → SoundAll ts → All (Sound d l) ts
  unfolding joined
  each_sound [] s = tt
  each_sound (t ∷ ts) s = (
    record {
      formed = s.formed.0;
      declared = all_first (λ x. x < d) (leaves l t) (joined (leaves l) ts) s.declared;
      apart = apart_first (leaves l t) (joined (leaves l) ts) s.apart;
    },
    each_sound ts (record {
      formed = s.formed.1;
      declared = all_second (λ x. x < d) (leaves l t) (joined (leaves l) ts) s.declared;
      apart = apart_second (leaves l t) (joined (leaves l) ts) s.apart;
    }),
  )

  pub children_sound : (form : ℕ) (ts : List (Tree l)) → Sound d (suc l) (inner form ts) → InnerBytes form (length ts) × SoundAll ts
  unfolding Formed leaves
  children_sound form ts s = (inner_bytes_is form (length ts) s.formed.0, record { formed = s.formed.1; declared = s.declared; apart = s.apart })

-- ---- operands

-- an operand is a leaf's variable or an added number
all_operands : (p : ℕ → Type 0) (l n : ℕ) (ts : List (Tree l)) → All p (joined (leaves l) ts)
    → ((m : ℕ) → n ≤ m → m < n + total (inners l) ts → p m) → All p (operands l n ts)
unfolding along joined leaves inners total
all_operands p l n [] a h = tt
all_operands p zero n (t ∷ ts) a h = absurd t
all_operands p (suc l) n (leaf x ∷ ts) a h = (a.0, all_operands p (suc l) (n + 0) ts a.1 (λ m u v. h m (omega arith) (omega arith)))
all_operands p (suc l) n (inner form us ∷ ts) a h = (
  h n (omega arith) (omega arith),
  all_operands p (suc l) (n + inners (suc l) (inner form us)) ts (all_second p (leaves (suc l) (inner form us)) (joined (leaves (suc l)) ts) a)
      (λ m u v. h m (omega arith) (omega arith)),
)

apart_operands : (d l n : ℕ) (ts : List (Tree l)) → All (λ x. x < d) (joined (leaves l) ts) → Apart (joined (leaves l) ts) → d ≤ n → Apart (operands l n ts)
unfolding along joined leaves inners
apart_operands d l n [] a b h = tt
apart_operands d zero n (t ∷ ts) a b h = absurd t
apart_operands d (suc l) n (leaf x ∷ ts) a b h =
    (all_operands (λ y. x ≢ y) (suc l) (n + 0) ts b.0 (λ m u v e. let z = a.0 in omega arith), apart_operands d (suc l) (n + 0) ts a.1 b.1 (omega arith))
apart_operands d (suc l) n (inner form us ∷ ts) a b h =
    let own = leaves (suc l) (inner form us) in
    let rest = all_second (λ x. x < d) own (joined (leaves (suc l)) ts) a in
    let next = n + inners (suc l) (inner form us) in (
      all_operands (λ y. n ≢ y) (suc l) next ts (all_map (λ y g e. omega arith) (joined (leaves (suc l)) ts) rest) (λ m u v e. omega arith),
      apart_operands d (suc l) next ts rest (apart_second own (joined (leaves (suc l)) ts) b) (omega arith),
    )

-- ---- rules, the variables being ws: the first d are declared, and all others are founded

-- a rule that meets no refusal, of form 1, 2 or 3
pub record FineNode (ws : List Variable) (r : Rule) : Type 0 where
  pub fine : item_refusal ws (rule r) ≡ 0
  pub form : r.form ≤ 3

module _ (ws : List Variable) (d : ℕ) (within : d ≤ length ws) (added : (m : ℕ) → d ≤ m → m < length ws → is_founded (variable_in ws m) ≡ true) where
  -- a node that heads into h
  node_rule_is : (l form h n : ℕ) (ts : List (Tree l)) → InnerBytes form (length ts) → SoundAll d l ts → h < length ws → is_founded (variable_in ws h) ≡ true
      → d ≤ n → n + total (inners l) ts ≤ length ws → FineNode ws (node_rule form h (operands l n ts))
  node_rule_is l form h n ts b s i f lo hi =
      let fits : NodeFits ws form h (operands l n ts) = record {
        from = b.from;
        to = b.to;
        head = i;
        founded = f;
        some = omega (arith, operands_length l n ts, b.some);
        few = omega (arith, operands_length l n ts, b.few);
        declared = all_operands (λ x. x < length ws) l n ts (all_map (λ x g. omega arith) (joined (leaves l) ts) s.declared) (λ m u v. omega arith);
        apart = apart_operands d l n ts s.declared s.apart lo;
      } in
      record { fine = node_fine fits; form = b.to }

  inner_rules_is : (l n : ℕ) (t : Tree l) → Sound d l t → d ≤ n → n + inners l t ≤ length ws → All (FineNode ws) (inner_rules l n t)
  unfolding inner_rules inners
  inner_rules_is zero n t s lo hi = absurd t
  inner_rules_is (suc l) n (leaf x) s lo hi = tt
  inner_rules_is (suc l) n (inner form ts) s lo hi =
      let c = children_sound d l form ts s in (
        node_rule_is l form n (suc n) ts c.0 c.1 (omega arith) (added n lo (omega arith)) (omega arith) (omega arith),
        all_along (inners l) (inner_rules l) (FineNode ws) (Sound d l) (suc n) ts (each_sound d l ts c.1) (λ m u g a b. inner_rules_is l m u g (omega arith) (omega arith)),
      )

  root_rules_is : (l h n : ℕ) (t : Tree l) → Sound d l t → h < d → is_founded (variable_in ws h) ≡ true → d ≤ n → n + besides l t ≤ length ws
      → All (FineNode ws) (root_rules l h n t)
  unfolding root_rules besides leaves
  root_rules_is zero h n t s i f lo hi = absurd t
  root_rules_is (suc l) h n (leaf x) s i f lo hi =
      let fits : NodeFits ws 1 h (x ∷ []) = record {
        from = omega arith;
        to = omega arith;
        head = omega arith;
        founded = f;
        some = omega arith;
        few = omega arith;
        declared = (let g = s.declared.0 in omega arith, tt);
        apart = (tt, tt);
      } in
      (record { fine = node_fine fits; form = omega arith }, tt)
  root_rules_is (suc l) h n (inner form ts) s i f lo hi =
      let c = children_sound d l form ts s in (
        node_rule_is l form h n ts c.0 c.1 (omega arith) f lo hi,
        all_along (inners l) (inner_rules l) (FineNode ws) (Sound d l) n ts (each_sound d l ts c.1) (λ m u g a b. inner_rules_is l m u g (omega arith) (omega arith)),
      )

  -- a tree with its head
  pub record SoundTree (t : Rooted) : Type 0 where
    pub sound : Sound d max_levels t.tree
    pub head : t.head < d
    pub founded : is_founded (variable_in ws t.head) ≡ true

  pub added_rules_is : (ts : List Rooted) → All SoundTree ts → d + variables_added ts ≤ length ws → All (FineNode ws) (added_rules d ts)
  added_rules_is ts s hi = all_along added_by tree_rules (FineNode ws) SoundTree d ts s
      (λ m t g a b. root_rules_is max_levels t.head m t.tree g.sound g.head g.founded a (omega arith))
