-- The terms of a node's rule, put in child by child.
use Prim.Native.Nat.{ℕ, ◌+◌, ◌-◌, ◌*◌, ◌<◌, ◌≤◌}
use mathlib.Core.Path.{◌≡◌, refl, sym, ap, ap₂, subst, ◌∙◌}
use mathlib.Core.List.{List, [], ◌∷◌, ◌++◌, map}
use native.Mathlib.Omega.{arith}
use lib.IntN.{pos}
use lib.ListN.{length, drop, get_or, length-drop}
use borrow.Author.Tests.{eq-eqb, ne_eqb}
use Rattle.format.specs.Limits.{max_variables}
use Rattle.format.specs.Numbers.{bytes_of}
use Rattle.program.specs.Tables.{◌⇒◌, select}
use Rattle.program.specs.Encode.{each, term_bytes}
use Rattle.program.proofs.RoundTrip.{each_snoc}
use Rattle.trees.proofs.TwoBytes.{drop_two}
use Rattle.nested.specs.Flatten.{node_term}
use Rattle.flat.specs.Flat.{Stand, past, inners_passed, operand_in, operands_in}
use Rattle.flat.proofs.Standing.{stand_some, stand_first, stand_rest, past_none, past_add, passed_none, passed_add, operands_length, operands_add}
use Rattle.flat.proofs.Steps.{inner_inner, passed_next}
use Rattle.skipping.specs.Skipping.{Skips}
use Rattle.skipping.specs.declared.Skipped.{Skipped}
use Rattle.noderules.specs.NodeRules.{PutIn}
use Rattle.noderules.proofs.Putting.{puts_none, puts_same, puts_length, puts_more}

-- ---- the variable of the tree at a place

module _ (s : List ℕ) (at next : ℕ) (h : at + 1 < length s) where
  pub operand_leaf : get_or s at 0 ≡ 0 → get_or s (at + 1) 0 ≡ operand_in next (drop at s)
  operand_leaf e = rw (drop_two s at h) (simp (eq-eqb (get_or s at 0) 0 e))

  module _ (ne : get_or s at 0 ≡ 0 → ⊥) where
    pub operand_inner : next ≡ operand_in next (drop at s)
    operand_inner = rw (drop_two s at h) (simp (ne_eqb (get_or s at 0) 0 ne))

    pub operand_free : next + inners_passed (drop at s) 1 ≤ max_variables → next < max_variables
    operand_free k = omega (arith, passed_next s at h 0, inner_inner (get_or s at 0) (get_or s (at + 1) 0) ne)

-- ---- the bytes of a term

pub number_sum : (form : ℕ) → form ≡ 1 → bytes_of (select form ((1 ⇒ pos 1) ∷ []) (pos 0)) ≡ 0 ∷ 1 ∷ []
unfolding bytes_of
number_sum form e = simp (eq-eqb form 1 e)

pub number_other : (form : ℕ) → (form ≡ 1 → ⊥) → bytes_of (select form ((1 ⇒ pos 1) ∷ []) (pos 0)) ≡ 0 ∷ 0 ∷ []
unfolding bytes_of
number_other form ne = simp (ne_eqb form 1 ne)

abbrev pub operand_bytes : ℕ → ℕ → List ℕ
operand_bytes number x = x ∷ 0 ∷ 0 ∷ number ∷ []

module _ (form number : ℕ) (e : bytes_of (select form ((1 ⇒ pos 1) ∷ []) (pos 0)) ≡ 0 ∷ number ∷ []) where
  terms_bytes : (xs : List ℕ) → each (operand_bytes number) xs ≡ each term_bytes (map (node_term form) xs)
  terms_bytes [] = refl
  terms_bytes (x ∷ xs) = ap₂ (λ (n r : List ℕ). x ∷ 0 ∷ (n ++ r)) (sym e) (terms_bytes xs)

pub operands_size : (number : ℕ) (xs : List ℕ) → length (each (operand_bytes number) xs) ≡ 4 * length xs
operands_size number [] = refl
operands_size number (x ∷ xs) = let k = operands_size number xs in omega arith

-- ---- the loop

-- the first i operands of the trees from `from` on have been put in; the next tree is at `place`
pub record TermsPut (s : List ℕ) (from free number : ℕ) (b : List ℕ) (at i : ℕ) (b' : List ℕ) (place next end : ℕ) : Type 0 where
  pub inside : place ≤ length s
  pub rest : drop place s ≡ past (drop from s) i
  pub numbered : next ≡ free + inners_passed (drop from s) i
  pub put : PutIn (each (operand_bytes number) (operands_in free i (drop from s))) b at end b'

module _ (s : List ℕ) (from free number : ℕ) (b : List ℕ) (at : ℕ) where
  pub terms_begun : from ≤ length s → TermsPut s from free number b at 0 b from free at
  unfolding operands_in
  terms_begun h = record { inside = h; rest = sym (past_none (drop from s)); numbered = omega (arith, passed_none (drop from s)); put = puts_none b at }

module _ {s : List ℕ} {from free number n : ℕ} {b : List ℕ} {at i : ℕ} {b' : List ℕ} {place next end : ℕ}
    (x : Stand (drop from s) n) (room : at + 4 * n ≤ length b) (few : free + inners_passed (drop from s) n ≤ max_variables)
    (k : TermsPut s from free number b at i b' place next end) where
  module _ (h : i ≤ n) where
    within : at + length (each (operand_bytes number) (operands_in free i (drop from s))) ≤ length b
    within = omega (arith, operands_size number (operands_in free i (drop from s)), operands_length free i (drop from s))

    pub terms_length : length b' ≡ length b
    terms_length = puts_length k.put within

  module _ (h : i < n) where
    split : n ≡ i + (1 + (n - i - 1))
    split = omega arith

    left : Stand (drop place s) (1 + (n - i - 1))
    left = subst (λ (r : List ℕ). Stand r (1 + (n - i - 1))) (sym k.rest) (stand_rest (drop from s) i (1 + (n - i - 1)) (subst (Stand (drop from s)) split x))

    pub tree_stands : Stand (drop place s) 1
    tree_stands = stand_first (drop place s) 1 (n - i - 1) left

    pub tree_two : place + 1 < length s
    tree_two = omega (arith, stand_some (drop place s) 0 tree_stands, length-drop place s)

    pub tree_numbered : next + inners_passed (drop place s) 1 ≤ max_variables
    tree_numbered =
        omega (
          arith,
          k.numbered,
          few,
          ap (inners_passed (drop from s)) split,
          passed_add (drop from s) i (1 + (n - i - 1)),
          passed_add (past (drop from s) i) 1 (n - i - 1),
          ap (λ (r : List ℕ). inners_passed r 1) k.rest,
        )

    pub term_room : end + 4 ≤ length b'
    term_room = omega (arith, terms_length (omega arith), k.put.ends, operands_size number (operands_in free i (drop from s)), operands_length free i (drop from s))

    -- one term more
    one_more : operands_in free (i + 1) (drop from s) ≡ operands_in free i (drop from s) ++ (operand_in next (drop place s) ∷ [])
    unfolding operands_in
    one_more =
        operands_add free i 1 (drop from s)
        ∙ ap₂ (λ (m : ℕ) (r : List ℕ). operands_in free i (drop from s) ++ (operand_in m r ∷ [])) (sym k.numbered) (sym k.rest)

    pub terms_more : {v : ℕ} {b'' : List ℕ} {end' : ℕ} {r : Skipped} → v ≡ operand_in next (drop place s) → PutIn (operand_bytes number v) b' end end' b''
        → Skips s place 1 r → TermsPut s from free number b at (i + 1) b'' r.end (next + r.inners) end'
    terms_more {v} {b''} {end'} {r} e p q =
        let w = each (operand_bytes number) (operands_in free i (drop from s)) in
        let o : w ++ operand_bytes number v ≡ each (operand_bytes number) (operands_in free (i + 1) (drop from s)) =
        ap (λ (y : ℕ). w ++ operand_bytes number y) e
        ∙ sym (each_snoc (operand_bytes number) (operands_in free i (drop from s)) (operand_in next (drop place s)))
        ∙ sym (ap (each (operand_bytes number)) one_more) in
        record {
          inside = q.inside;
          rest = q.rest ∙ ap (λ (l : List ℕ). past l 1) k.rest ∙ sym (past_add (drop from s) i 1);
          numbered = omega (arith, k.numbered, q.counted, ap (λ (l : List ℕ). inners_passed l 1) k.rest, passed_add (drop from s) i 1);
          put = puts_same _ o (puts_more k.put (within (omega arith)) p);
        }

pub terms_done : {s : List ℕ} {from free number : ℕ} {b : List ℕ} {at n : ℕ} {b' : List ℕ} {place next end : ℕ} (form : ℕ)
    → bytes_of (select form ((1 ⇒ pos 1) ∷ []) (pos 0)) ≡ 0 ∷ number ∷ [] → TermsPut s from free number b at n b' place next end
    → PutIn (each term_bytes (map (node_term form) (operands_in free n (drop from s)))) b at end b'
terms_done {s} {from} {free} {number} {n = n} form e k = puts_same _ (terms_bytes form number e (operands_in free n (drop from s))) k.put
