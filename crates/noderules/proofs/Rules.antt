-- The rules of a tree's inner nodes, put in node by node.
use Prim.Native.Nat.{ℕ, ◌+◌, ◌*◌, ◌/◌, ◌%◌, ◌<◌, ◌≤◌}
use mathlib.Core.Path.{◌≡◌, refl, sym, ap, ap₂, subst, ◌∙◌}
use mathlib.Core.List.{List, [], ◌∷◌, ◌++◌, append_assoc, append-nil}
use native.Mathlib.Numerals.{add-one}
use native.Mathlib.Omega.{arith}
use lib.ListN.{length, drop, get_or, length-append, length-map}
use borrow.Author.Tests.{eq-eqb, ne_eqb}
use Rattle.format.specs.Limits.{max_terms}
use Rattle.format.specs.Numbers.{bytes_of}
use Rattle.program.specs.Program.{Rule}
use Rattle.program.specs.Encode.{each, term_bytes, rule_bytes}
use Rattle.program.proofs.Encoding.{rule_size}
use Rattle.trees.proofs.TwoBytes.{drop_two, drop_less}
use Rattle.nested.specs.Flatten.{node_term, node_rule}
use Rattle.flat.specs.Flat.{operands_in, rules_in, root_rule, flat_rules, size_in, root_size, flat_size}
use Rattle.flat.proofs.Standing.{operands_length}
use Rattle.noderules.specs.NodeRules.{rule_at, PutIn, Left}
use Rattle.noderules.specs.declared.Inner.{Inner}
use Rattle.noderules.proofs.Putting.{puts_none, puts_same, puts_length, puts_more}
use Rattle.noderules.proofs.Lefts.{left_leaf, left_inner}

-- ---- the bytes of one rule

abbrev pub header_bytes : Inner → List ℕ
header_bytes r = 2 ∷ 0 ∷ (4 + 4 * r.n) ∷ r.form ∷ r.head ∷ 0 ∷ 0 ∷ []

module _ (s : List ℕ) (r : Inner) where
  terms_many : length (rule_at s r).terms ≡ r.n
  terms_many =
      length-map (operands_in r.next r.n (drop r.at s)) (node_term r.form)
      ∙ operands_length r.next r.n (drop r.at s)

  pub node_size : length (rule_bytes (rule_at s r)) ≡ 7 + 4 * r.n
  node_size = omega (arith, rule_size (rule_at s r), terms_many)

  pub node_bytes_is : r.n ≤ max_terms → header_bytes r ++ each term_bytes (rule_at s r).terms ≡ rule_bytes (rule_at s r)
  unfolding bytes_of
  node_bytes_is h =
      let l = rule_size (rule_at s r) in
      let m = terms_many in
      let v = r.form ∷ r.head ∷ 0 ∷ 0 ∷ each term_bytes (rule_at s r).terms in
      let a : 0 ≡ length v / 256 = omega arith in
      let b : 4 + 4 * r.n ≡ length v % 256 = omega arith in
      ap₂ (λ (x y : ℕ). 2 ∷ x ∷ y ∷ v) a b

-- ---- the rules from a place on

module _ (s : List ℕ) (at n : ℕ) (h : at + 1 < length s) where
  module _ (e : get_or s at 0 ≡ 0) where
    pub rules_leaf : rules_in n (drop at s) ≡ rules_in n (drop (at + 2) s)
    unfolding rules_in
    rules_leaf = ap (rules_in n) (drop_two s at h) ∙ simp (eq-eqb (get_or s at 0) 0 e)

    size_leaf : size_in (drop at s) ≡ size_in (drop (at + 2) s)
    unfolding size_in
    size_leaf = ap size_in (drop_two s at h) ∙ simp (eq-eqb (get_or s at 0) 0 e)

  module _ (ne : get_or s at 0 ≡ 0 → ⊥) where
    pub rules_inner : rules_in n (drop at s)
        ≡ node_rule (get_or s at 0) n (operands_in (n + 1) (get_or s (at + 1) 0) (drop (at + 2) s)) ∷ rules_in (n + 1) (drop (at + 2) s)
    unfolding rules_in
    rules_inner = rw (add-one n) (ap (rules_in n) (drop_two s at h) ∙ simp (ne_eqb (get_or s at 0) 0 ne))

    size_inner : size_in (drop at s) ≡ 7 + 4 * get_or s (at + 1) 0 + size_in (drop (at + 2) s)
    unfolding size_in
    size_inner = ap size_in (drop_two s at h) ∙ simp (ne_eqb (get_or s at 0) 0 ne)

-- ---- the loop

-- the rules of the inner nodes from `from` to `place` have been put in; the next is the variable `number`
pub record InnerPut (s : List ℕ) (from next : ℕ) (b : List ℕ) (at : ℕ) (b' : List ℕ) (place number end : ℕ) : Type 0 where
  pub left : Left s place number
  pub done : List ℕ
  pub all : done ++ each rule_bytes (rules_in number (drop place s)) ≡ each rule_bytes (rules_in next (drop from s))
  pub room : at + (length done + size_in (drop place s)) ≤ length b
  pub put : PutIn done b at end b'

pub inner_begun : {s : List ℕ} {from next : ℕ} {b : List ℕ} {at : ℕ} → Left s from next → at + size_in (drop from s) ≤ length b → InnerPut s from next b at b from next at
inner_begun {b = b} {at} l h = record { left = l; done = []; all = refl; room = omega arith; put = puts_none b at }

module _ {s : List ℕ} {from next : ℕ} {b : List ℕ} {at : ℕ} {b' : List ℕ} {place number end : ℕ} (k : InnerPut s from next b at b' place number end) where
  pub inner_length : length b' ≡ length b
  inner_length = puts_length k.put (omega (arith, k.room))

  module _ {b₁ : List ℕ} {number₁ end₁ : ℕ} where
    pub inner_same : b₁ ≡ b' → number₁ ≡ number → end₁ ≡ end → InnerPut s from next b at b₁ place number₁ end₁
    inner_same e d f =
        subst (λ (x : List ℕ). InnerPut s from next b at x place number₁ end₁) (sym e)
        (subst (λ (x : ℕ). InnerPut s from next b at b' place x end₁) (sym d) (subst (InnerPut s from next b at b' place number) (sym f) k))

  pub inner_done : length s ≤ place + 1 → PutIn (each rule_bytes (rules_in next (drop from s))) b at end b'
  unfolding rules_in
  inner_done h =
      let e = ap (λ (rs : List Rule). k.done ++ each rule_bytes rs) (drop_less (rules_in number) [] refl (λ a. refl) s place h) in
      puts_same _ (sym (append-nil k.done) ∙ sym e ∙ k.all) k.put

  module _ (h : place + 1 < length s) where
    pub inner_leaf : get_or s place 0 ≡ 0 → InnerPut s from next b at b' (place + 2) number end
    inner_leaf e =
        record {
          left = left_leaf k.left h e;
          done = k.done;
          all = ap (λ (rs : List Rule). k.done ++ each rule_bytes rs) (sym (rules_leaf s place number h e)) ∙ k.all;
          room = omega (arith, k.room, size_leaf s place number h e);
          put = k.put;
        }

    module _ (ne : get_or s place 0 ≡ 0 → ⊥) where
      abbrev node : Inner
      node = record { form = get_or s place 0; head = number; at = place + 2; n = get_or s (place + 1) 0; next = number + 1 }

      pub inner_room : end + (7 + 4 * get_or s (place + 1) 0) ≤ length b'
      inner_room = omega (arith, k.room, size_inner s place number h ne, k.put.ends, inner_length)

      pub inner_more : {b'' : List ℕ} {end' : ℕ} → PutIn (rule_bytes (rule_at s node)) b' end end' b'' → InnerPut s from next b at b'' (place + 2) (number + 1) end'
      inner_more p =
          let w = rule_bytes (rule_at s node) in
          let rest = each rule_bytes (rules_in (number + 1) (drop (place + 2) s)) in
          record {
            left = left_inner k.left h ne;
            done = k.done ++ w;
            all = append_assoc k.done w rest ∙ ap (λ (rs : List Rule). k.done ++ each rule_bytes rs) (sym (rules_inner s place number h ne)) ∙ k.all;
            room = omega (arith, k.room, size_inner s place number h ne, length-append k.done w, node_size s node);
            put = puts_more k.put (omega (arith, k.room)) p;
          }

-- ---- the rules of a tree

module _ (head next : ℕ) (s : List ℕ) (r : Inner) where
  pub flat_bytes : rule_at s r ≡ root_rule head next s → rule_bytes (rule_at s r) ++ each rule_bytes (rules_in next (drop 2 s)) ≡ each rule_bytes (flat_rules head next s)
  unfolding flat_rules
  flat_bytes e = ap (λ (q : Rule). rule_bytes q ++ each rule_bytes (rules_in next (drop 2 s))) e

  pub root_room : (at room : ℕ) → 7 + 4 * r.n ≡ root_size s → at + flat_size s ≤ room → at + ((7 + 4 * r.n) + size_in (drop 2 s)) ≤ room
  unfolding flat_size
  root_room at room e h = omega arith
