-- The edges of a tree's rules, marked node by node.
use Prim.Native.Nat.{ℕ, ◌+◌, ◌<◌, ◌≤◌}
use mathlib.Core.Path.{◌≡◌, refl, sym, ap, ◌∙◌, subst}
use mathlib.Core.List.{List, [], ◌∷◌, ◌++◌, append_assoc, append-nil}
use mathlib.Core.Bool.{Bool}
use lib.ListN.{length, drop, get_or}
use Rattle.program.specs.Program.{Rule}
use Rattle.program.specs.Encode.{All}
use Rattle.program.specs.declared.Variable.{Variable}
use Rattle.nested.proofs.Alongs.{all_second}
use Rattle.edges.specs.Edges.{Grown}
use Rattle.flat.specs.Flat.{rules_in, root_rule, flat_rules}
use Rattle.noderules.specs.NodeRules.{rule_at, Left}
use Rattle.noderules.specs.declared.Inner.{Inner}
use Rattle.noderules.proofs.Lefts.{left_leaf, left_inner}
use Rattle.trees.proofs.TwoBytes.{drop_less}
use Rattle.noderules.proofs.Rules.{rules_leaf, rules_inner}
use Rattle.linking.specs.Drawing.{drawn_by, GrownBy}
use Rattle.linking.proofs.Drawn.{drawn_none, drawn_more, drawn_as}

-- ---- the loop

-- the rows w have become w' by the rules of the inner nodes from `from` to `place`; the next is the variable `number`
pub record InnerMarked (vs : List Variable) (s : List ℕ) (from next : ℕ) (w w' : List ℕ) (place number : ℕ) : Type 0 where
  pub left : Left s place number
  pub done : List Rule
  pub all : done ++ rules_in number (drop place s) ≡ rules_in next (drop from s)
  pub grown : GrownBy w w' vs done

pub marks_begun : (vs : List Variable) {s : List ℕ} {from next : ℕ} (w : List ℕ) → Left s from next → InnerMarked vs s from next w w from next
marks_begun vs w l = record { left = l; done = []; all = refl; grown = drawn_none vs _ }

module _ {vs : List Variable} {s : List ℕ} {from next : ℕ} {w w' : List ℕ} {place number : ℕ} (k : InnerMarked vs s from next w w' place number) where
  pub marks_done : length s ≤ place + 1 → GrownBy w w' vs (rules_in next (drop from s))
  unfolding rules_in
  marks_done h =
      let e = drop_less (rules_in number) [] refl (λ a. refl) s place h in
      drawn_as vs (sym (append-nil k.done) ∙ sym (ap (λ (r : List Rule). k.done ++ r) e) ∙ k.all) k.grown

  module _ (h : place + 1 < length s) where
    pub marks_leaf : get_or s place 0 ≡ 0 → InnerMarked vs s from next w w' (place + 2) number
    marks_leaf e =
        record {
          left = left_leaf k.left h e;
          done = k.done;
          all = ap (λ (rs : List Rule). k.done ++ rs) (sym (rules_leaf s place number h e)) ∙ k.all;
          grown = k.grown;
        }

    module _ (ne : get_or s place 0 ≡ 0 → ⊥) where
      abbrev node : Inner
      node = record { form = get_or s place 0; head = number; at = place + 2; n = get_or s (place + 1) 0; next = number + 1 }

      abbrev rest : List Rule
      rest = rules_in (number + 1) (drop (place + 2) s)

      split : k.done ++ (rule_at s node ∷ rest) ≡ rules_in next (drop from s)
      split = ap (λ (rs : List Rule). k.done ++ rs) (sym (rules_inner s place number h ne)) ∙ k.all

      -- what holds of all rules holds of this one
      pub marks_one : (p : Rule → Type 0) → All p (rules_in next (drop from s)) → p (rule_at s node)
      marks_one p a = (all_second p k.done (rule_at s node ∷ rest) (subst (All p) (sym split) a)).0

      pub marks_inner : {w'' : List ℕ} → GrownBy w' w'' vs (rule_at s node ∷ []) → InnerMarked vs s from next w w'' (place + 2) (number + 1)
      marks_inner g =
          record {
            left = left_inner k.left h ne;
            done = k.done ++ (rule_at s node ∷ []);
            all = append_assoc k.done (rule_at s node ∷ []) rest ∙ split;
            grown = drawn_more vs k.done (rule_at s node ∷ []) k.grown g;
          }

-- ---- the root, then the inner nodes

module _ (head next : ℕ) (s : List ℕ) where
  pub flat_all : (p : Rule → Type 0) → All p (flat_rules head next s) → p (root_rule head next s) × All p (rules_in next (drop 2 s))
  unfolding flat_rules
  flat_all p a = a

  pub flat_drawn : (vs : List Variable) {t t' t'' : ℕ → ℕ → Bool} {r : Rule} → r ≡ root_rule head next s → Grown t t' (drawn_by vs (r ∷ []))
      → Grown t' t'' (drawn_by vs (rules_in next (drop 2 s))) → Grown t t'' (drawn_by vs (flat_rules head next s))
  unfolding flat_rules
  flat_drawn vs e g h =
      drawn_more vs (root_rule head next s ∷ []) (rules_in next (drop 2 s)) (drawn_as vs (ap (λ (q : Rule). q ∷ []) e) g) h
