-- The rules of a tree, where b has a reading for each leaf and each added variable: they say that each added variable is at or past its node's value, and the
-- head at or past the tree's.
use Rattle.std.specs.Prelude.{Some}
use Prim.Native.Nat.{ℕ, zero, suc, ◌+◌, ◌<◌, ◌≤◌}
use mathlib.Core.Path.{◌≡◌, refl, sym, ap, subst, ◌∙◌}
use mathlib.Core.List.{List, [], ◌∷◌, map, map-map, map-append}
use native.Mathlib.Omega.{arith}
use lib.IntN.{ℤ}
use lib.ListN.{length, length-append, length-map}
use Rattle.trees.specs.Tree.{Tree, leaf, inner, total, inners, besides}
use Rattle.program.specs.Encode.{All}
use Rattle.program.specs.Program.{Rule, variable_in}
use Rattle.program.specs.Readings.{Valuation, gives}
use Rattle.program.specs.declared.Variable.{Variable}
use Rattle.nested.specs.Flatten.{node_term, node_rule, node_gives, value_of, inner_values, along, operand, operands, inner_rules, root_values, root_rules}
use Rattle.nested.proofs.Lists.{Each, none, and, each_append, Standing, AllAlong, along_map, along_each, all_along, along_all, standing_along, along_standing}
use Rattle.nested.proofs.Nodes.{NodeForm, node_alone, Climbs, climbs_equal, read_by, node_given}
use Rattle.nested.proofs.Values.{Fit, fit_leaf, fit_node, inner_count}

-- ---- a tree's rules: its root's, and those of the other inner nodes

abbrev pub root_rule : (l : ℕ) → ℕ → ℕ → Tree l → Rule
root_rule zero h n t = elim t [ ]
root_rule (suc l) h n (leaf x) = node_rule 1 h (x ∷ [])
root_rule (suc l) h n (inner form ts) = node_rule form h (operands l n ts)

abbrev pub other_rules : (l : ℕ) → ℕ → Tree l → List Rule
other_rules zero n t = elim t [ ]
other_rules (suc l) n (leaf x) = []
other_rules (suc l) n (inner form ts) = along (inners l) (inner_rules l) n ts

pub root_first : (l h n : ℕ) (t : Tree l) → root_rules l h n t ≡ root_rule l h n t ∷ other_rules l n t
unfolding root_rules
root_first zero h n t = absurd t
root_first (suc l) h n (leaf x) = refl
root_first (suc l) h n (inner form ts) = refl

pub root_head : (l h n : ℕ) (t : Tree l) → (root_rule l h n t).head ≡ h
root_head zero h n t = absurd t
root_head (suc l) h n (leaf x) = refl
root_head (suc l) h n (inner form ts) = refl

operands_length : (l n : ℕ) (ts : List (Tree l)) → length (operands l n ts) ≡ length ts
unfolding along
operands_length l n [] = refl
operands_length l n (t ∷ ts) = omega (arith, length-append (operand l n t) (operands l (n + inners l t) ts), one l n t, operands_length l (n + inners l t) ts)
  where
    one : (l n : ℕ) (t : Tree l) → length (operand l n t) ≡ 1
    one zero n t = absurd t
    one (suc l) n (leaf x) = refl
    one (suc l) n (inner form ts) = refl

-- ---- what a rule amounts to, each body variable read in b

abbrev pub amount_by : Valuation → Rule → ℤ
amount_by b r = node_gives r.form (map (λ t. b t.variable) r.terms)

amount_node : (b : Valuation) (form h : ℕ) (xs : List ℕ) → amount_by b (node_rule form h xs) ≡ node_gives form (map b xs)
amount_node b form h xs = ap (node_gives form) (map-map (λ t. b t.variable) (node_term form) xs)

module _ {R : ℤ → ℤ → Type 0} (climbs : Climbs R) (b : Valuation) where
  -- the rule's amount bears this to its head
  abbrev pub Met : Rule → Type 0
  Met r = R (amount_by b r) (b r.head)

  -- each added variable bears it to its node's value: so do the operands to the children's
  abbrev Stand : (l : ℕ) → ℕ → Tree l → Type 0
  Stand l n t = Standing R b n (inner_values l b t)

  operand_stands : (l n : ℕ) (t : Tree l) → Stand l n t → Each R (value_of l t b ∷ []) (map b (operand l n t))
  unfolding inner_values value_of
  operand_stands zero n t s = absurd t
  operand_stands (suc l) n (leaf x) s = and (climbs.same (b x)) none
  operand_stands (suc l) n (inner form ts) (and s ss) = and s none

  operands_stand : (l : ℕ) {n : ℕ} {ts : List (Tree l)} → AllAlong (inners l) (Stand l) n ts → Each R (map (λ t. value_of l t b) ts) (map b (operands l n ts))
  unfolding along
  operands_stand l none = none
  operands_stand l (and {n = n} {x = t} {xs = ts} s ss) =
      subst (Each R (value_of l t b ∷ map (λ t. value_of l t b) ts)) (sym (map-append b (operand l n t) (operands l (n + inners l t) ts)))
      (each_append (operand_stands l n t s) (operands_stand l ss))

  module _ (q : ℕ → Type 0) where
    -- a node's value bears it to the amount of the node's rule
    node_stands : (l form h n : ℕ) (ts : List (Tree l)) → Fit q (suc l) (inner form ts) → AllAlong (inners l) (Stand l) n ts
        → R (value_of (suc l) (inner form ts) b) (amount_by b (node_rule form h (operands l n ts)))
    unfolding value_of
    node_stands l form h n ts f s =
        let k = fit_node q l form ts f in
        subst (R (node_gives form (map (λ t. value_of l t b) ts))) (sym (amount_node b form h (operands l n ts)))
        (climbs.node k.byte (rw (length-map ts (λ t. value_of l t b)) k.some) (operands_stand l s))

    -- so where every rule is met each added variable stands past its node's value
    inner_past : (l n : ℕ) (t : Tree l) → Fit q l t → All Met (inner_rules l n t) → Stand l n t
    unfolding inner_rules inner_values
    inner_past zero n t f a = absurd t
    inner_past (suc l) n (leaf x) f a = none
    inner_past (suc l) n (inner form ts) f a =
        let s = along_map (Fit q l) (inner_past l) (fit_node q l form ts f).children (all_along Met (inner_rules l) (suc n) ts a.1) in
        and (climbs.trans _ _ _ (node_stands l form n (suc n) ts f s) a.0) (along_standing (inner_values l b) (inner_count b l) s)

    pub others_past : (l n : ℕ) (t : Tree l) → Fit q l t → All Met (other_rules l n t) → Standing R b n (root_values l b t)
    unfolding root_values
    others_past zero n t f a = absurd t
    others_past (suc l) n (leaf x) f a = none
    others_past (suc l) n (inner form ts) f a =
        along_standing (inner_values l b) (inner_count b l)
        (along_map (Fit q l) (inner_past l) (fit_node q l form ts f).children (all_along Met (inner_rules l) n ts a))

    -- and the tree's value bears it to what the root's rule amounts to
    pub root_stands : (l h n : ℕ) (t : Tree l) → Fit q l t → Standing R b n (root_values l b t) → R (value_of l t b) (amount_by b (root_rule l h n t))
    unfolding root_values value_of
    root_stands zero h n t f s = absurd t
    root_stands (suc l) h n (leaf x) f s = rw (node_alone (b x)) (climbs.same (b x))
    root_stands (suc l) h n (inner form ts) f s = node_stands l form h n ts f (standing_along (inner_values l b) (inner_count b l) ts s)

-- ---- where each added variable has its node's value, every rule amounts to what its head has

module _ (b : Valuation) (q : ℕ → Type 0) where
  inner_met : (l n : ℕ) (t : Tree l) → Fit q l t → Standing ◌≡◌ b n (inner_values l b t) → All (Met climbs_equal b) (inner_rules l n t)
  unfolding inner_rules inner_values
  inner_met zero n t f s = absurd t
  inner_met (suc l) n (leaf x) f s = tt
  inner_met (suc l) n (inner form ts) f (and s ss) =
      let k = standing_along (inner_values l b) (inner_count b l) ts ss in (
        sym (node_stands climbs_equal b q l form n (suc n) ts f k) ∙ s,
        along_all (Met climbs_equal b) (inner_rules l) (along_map (Fit q l) (inner_met l) (fit_node q l form ts f).children k),
      )

  pub others_met : (l n : ℕ) (t : Tree l) → Fit q l t → Standing ◌≡◌ b n (root_values l b t) → All (Met climbs_equal b) (other_rules l n t)
  unfolding root_values
  others_met zero n t f s = absurd t
  others_met (suc l) n (leaf x) f s = tt
  others_met (suc l) n (inner form ts) f s =
      along_all (Met climbs_equal b) (inner_rules l)
      (along_map (Fit q l) (inner_met l) (fit_node q l form ts f).children (standing_along (inner_values l b) (inner_count b l) ts s))

-- ---- what the rules of a tree give, where its added variables are numbered from `low` on, below `high`

module _ (ws : List Variable) (kind : ℕ) (m θ b : Valuation) where
  -- b has what a body variable of a rule with a head of this kind is read as
  abbrev pub Seen : ℕ → Type 0
  Seen x = read_by ws kind m θ x ≡ b x

  -- an added variable is of this kind, and is read in m
  pub record Own (v : ℕ) : Type 0 where
    pub kinds : (variable_in ws v).kind ≡ kind
    pub seen : Seen v
    pub read : b v ≡ m v

  -- a rule gives its amount, and its head is of this kind
  pub record Gives (r : Rule) : Type 0 where
    pub given : gives ws r m θ ≡ Some (amount_by b r)
    pub kinds : (variable_in ws r.head).kind ≡ kind

  -- a rule whose head is an added variable
  pub record OwnGives (r : Rule) : Type 0 where
    pub gives : Gives r
    pub read : b r.head ≡ m r.head

  gives_node : {form : ℕ} (h : ℕ) (xs : List ℕ) → NodeForm form → (variable_in ws h).kind ≡ kind → 1 ≤ length xs → All Seen xs → Gives (node_rule form h xs)
  gives_node {form} h xs f e l a = record {
    given = node_given f ws h xs m θ b l (subst (λ k. All (λ x. read_by ws k m θ x ≡ b x) xs) (sym e) a) ∙ ap Some (sym (amount_node b form h xs));
    kinds = e;
  }

  module _ (low high : ℕ) (own : (v : ℕ) → low ≤ v → v < high → Own v) where
    operand_seen : (l n : ℕ) (t : Tree l) → Fit Seen l t → low ≤ n → n + inners l t ≤ high → All Seen (operand l n t)
    unfolding inners
    operand_seen zero n t f h k = absurd t
    operand_seen (suc l) n (leaf x) f h k = (fit_leaf Seen l x f, tt)
    operand_seen (suc l) n (inner form ts) f h k = ((own n h (omega arith)).seen, tt)

    node_gives_is : (l form x n : ℕ) (ts : List (Tree l)) → Fit Seen (suc l) (inner form ts) → (variable_in ws x).kind ≡ kind → low ≤ n → n + total (inners l) ts ≤ high
        → Gives (node_rule form x (operands l n ts))
    node_gives_is l form x n ts f e h k =
        let o = fit_node Seen l form ts f in
        gives_node x (operands l n ts) o.byte e (rw (operands_length l n ts) o.some)
        (along_all Seen (operand l) (along_each (Fit Seen l) low high (operand_seen l) n ts o.children h k))

    inner_given : (l n : ℕ) (t : Tree l) → Fit Seen l t → low ≤ n → n + inners l t ≤ high → All OwnGives (inner_rules l n t)
    unfolding inner_rules inners
    inner_given zero n t f h k = absurd t
    inner_given (suc l) n (leaf x) f h k = tt
    inner_given (suc l) n (inner form ts) f h k =
        let o = own n h (omega arith) in (
          record { gives = node_gives_is l form n (suc n) ts f o.kinds (omega arith) (omega arith); read = o.read },
          along_all OwnGives (inner_rules l) (along_each (Fit Seen l) low high (inner_given l) (suc n) ts (fit_node Seen l form ts f).children (omega arith) (omega arith)),
        )

    pub others_given : (l n : ℕ) (t : Tree l) → Fit Seen l t → low ≤ n → n + besides l t ≤ high → All OwnGives (other_rules l n t)
    unfolding besides
    others_given zero n t f h k = absurd t
    others_given (suc l) n (leaf x) f h k = tt
    others_given (suc l) n (inner form ts) f h k =
        along_all OwnGives (inner_rules l) (along_each (Fit Seen l) low high (inner_given l) n ts (fit_node Seen l form ts f).children h k)

    pub root_given : (l x n : ℕ) (t : Tree l) → Fit Seen l t → (variable_in ws x).kind ≡ kind → low ≤ n → n + besides l t ≤ high → Gives (root_rule l x n t)
    unfolding besides
    root_given zero x n t f e h k = absurd t
    root_given (suc l) x n (leaf y) f e h k =
        gives_node x (y ∷ []) (record { least = omega arith; most = omega arith }) e (omega arith) (fit_leaf Seen l y f, tt)
    root_given (suc l) x n (inner form ts) f e h k = node_gives_is l form x n ts f e h k
