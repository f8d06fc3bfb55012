-- A table filled from the last inner node of a tree to the first: a's values below a number, from there on the values of the inner nodes that stand from a
-- place on.
use Prim.Native.Nat.{ℕ, zero, suc, ◌+◌, ◌-◌, ◌<◌, ◌≤◌}
use mathlib.Core.Path.{◌≡◌, refl, sym, ap, ap₂, ◌∙◌}
use mathlib.Core.Bool.{Bool, true, false, ◌||◌}
use mathlib.Core.List.{List, [], ◌∷◌}
use native.Mathlib.Omega.{arith}
use borrow.Author.Tests.{lt-ltb, le-ltb, eqb-true, eqb-false}
use lib.Dec.{eqb}
use lib.IntN.{ℤ, pos, nat_abs}
use lib.ListN.{length, get_or, set, drop, length-set}
use lib.Seq.{get_or-set_same, get_or-set_other}
use Rattle.format.specs.Limits.{max_variables, max_number}
use Rattle.format.specs.Numbers.{beyond}
use Rattle.format.proofs.Ints.{within_small}
use Rattle.program.specs.Readings.{Valuation, valued}
use Rattle.program.specs.Evaluable.{Small}
use Rattle.program.specs.Encode.{All}
use Rattle.program.proofs.Encoding.{all_map}
use Rattle.nested.specs.Flatten.{node_gives}
use Rattle.flat.specs.Flat.{inners_in, leaves_in, extended, values_in}
use Rattle.flat.proofs.Standing.{inners_passed_lem}
use Rattle.flat.proofs.Steps.{leaf_inner, inner_inner, inners_next}
use Rattle.noderules.specs.NodeRules.{Writable}
use Rattle.spans.specs.Spans.{any_beyond}
use Rattle.spans.specs.Filling.{node_value}
use Rattle.spans.proofs.Agreeing.{operands_agree}
use Rattle.spans.proofs.LaterValues.{next_value, values_leaf, values_inner}

pub record Held (a : Valuation) (s : List ℕ) (at n : ℕ) (table : List ℤ) : Type 0 where
  pub many : length table ≡ max_variables
  pub small : Small table
  pub below : (v : ℕ) → v < n → valued table v ≡ a v
  pub inside : (i : ℕ) → i < inners_in (drop at s) → valued table (n + i) ≡ get_or (values_in a n (drop at s)) i (pos 0)
  pub near : any_beyond (values_in a n (drop at s)) ≡ false

pub held_begun : (s : List ℕ) (at n : ℕ) (table : List ℤ) → drop at s ≡ [] → length table ≡ max_variables → Small table → Held (valued table) s at n table
unfolding values_in inners_in any_beyond
held_begun s at n table e m k =
    record {
      many = m;
      small = k;
      below = λ v h. refl;
      inside = λ i h. let f : ⊥ = omega (arith, ap inners_in e) in absurd f;
      near = ap (λ (r : List ℕ). any_beyond (values_in (valued table) n r)) e;
    }

-- a table in which one entry is set
module _ (table : List ℤ) (n : ℕ) (z : ℤ) (h : n < length table) where
  set_other : (v : ℕ) → (v ≡ n → ⊥) → valued (set table n z) v ≡ valued table v
  set_other v ne = get_or-set_other table n v z (pos 0) ne

  set_small : Small table → nat_abs z ≤ max_number → Small (set table n z)
  set_small k l v = go (eqb v n) refl
    where
      go : (t : Bool) → eqb v n ≡ t → nat_abs (valued (set table n z) v) ≤ max_number
      go true e = rw (eqb-true v n e, get_or-set_same table n z (pos 0) h) l
      go false e = rw (set_other v (eqb-false v n e)) (k v)

module _ {a : Valuation} {s : List ℕ} {table : List ℤ} (at n : ℕ) (h : at + 1 < length s) where
  pub held_leaf : get_or s at 0 ≡ 0 → Held a s (at + 2) n table → Held a s at n table
  held_leaf e k =
      let v = values_leaf a n s at h e in
      let c : inners_in (drop at s) ≡ inners_in (drop (at + 2) s) = omega (arith, inners_next s at h, leaf_inner (get_or s at 0) 0 e) in
      record {
        many = k.many;
        small = k.small;
        below = k.below;
        inside = λ i l. k.inside i (omega arith) ∙ sym (ap (λ (zs : List ℤ). get_or zs i (pos 0)) v);
        near = ap any_beyond v ∙ k.near;
      }

  module _ (ne : get_or s at 0 ≡ 0 → ⊥) (k : Held a s (at + 2) (n + 1) table) where
    one_more : inners_in (drop at s) ≡ 1 + inners_in (drop (at + 2) s)
    one_more = omega (arith, inners_next s at h, inner_inner (get_or s at 0) 0 ne)

    -- what the node gives in the table
    pub held_value : {next : ℕ} → next ≤ n → All (λ x. x < next) (leaves_in (drop (at + 2) s))
        → Writable s (record { form = get_or s at 0; head = n; at = at + 2; n = get_or s (at + 1) 0; next = n + 1 })
        → node_value s (record { form = get_or s at 0; head = n; at = at + 2; n = get_or s (at + 1) 0; next = n + 1 }) table ≡ next_value a n s at h
    held_value {next} few leaves w =
        let rest = drop (at + 2) s in
        let values = values_in a (n + 1) rest in
        let old : (x : ℕ) → x < next → valued table x ≡ extended a (n + 1) values x = λ x l. k.below x (omega arith) ∙ sym (extended_old x (omega arith)) in
        ap (node_gives (get_or s at 0))
        (operands_agree (valued table) (extended a (n + 1) values) (get_or s (at + 1) 0) (n + 1) rest w.stands (all_map old (leaves_in rest) leaves)
        (λ i l. k.inside i (omega (arith, inners_passed_lem rest (get_or s (at + 1) 0))) ∙ sym (extended_new i)))
      where
        extended_old : (x : ℕ) → x < n + 1 → extended a (n + 1) (values_in a (n + 1) (drop (at + 2) s)) x ≡ a x
        extended_old x l = rw (lt-ltb x (n + 1) l)

        extended_new : (i : ℕ) → extended a (n + 1) (values_in a (n + 1) (drop (at + 2) s)) (n + 1 + i) ≡ get_or (values_in a (n + 1) (drop (at + 2) s)) i (pos 0)
        extended_new i = let e : n + 1 + i - (n + 1) ≡ i = omega arith in rw (le-ltb (n + 1 + i) (n + 1) (omega arith), e)

    module _ {z : ℤ} (e : z ≡ next_value a n s at h) (few : n < max_variables) where
      -- its value is entered, or is outside
      pub held_inner : beyond max_number z ≡ false → Held a s at n (set table n z)
      unfolding any_beyond
      held_inner t =
          let v = values_inner a n s at h ne in
          let b : n < length table = omega (arith, k.many) in
          record {
            many = length-set table n z ∙ k.many;
            small = set_small table n z b k.small (within_small max_number z t);
            below = λ x l. set_other table n z b x (λ q. omega arith) ∙ k.below x (omega arith);
            inside = inside v b;
            near = ap any_beyond v ∙ ap₂ ◌||◌ (ap (beyond max_number) (sym e) ∙ t) k.near;
          }
        where
          inside : values_in a n (drop at s) ≡ next_value a n s at h ∷ values_in a (n + 1) (drop (at + 2) s) → n < length table
              → (i : ℕ) → i < inners_in (drop at s) → valued (set table n z) (n + i) ≡ get_or (values_in a n (drop at s)) i (pos 0)
          inside v b zero l =
              let d : n + 0 ≡ n = omega arith in
              ap (valued (set table n z)) d ∙ get_or-set_same table n z (pos 0) b ∙ e ∙ sym (ap (λ (zs : List ℤ). get_or zs 0 (pos 0)) v)
          inside v b (suc i) l =
              let d : n + suc i ≡ n + 1 + i = omega arith in
              set_other table n z b (n + suc i) (λ q. omega arith) ∙ ap (valued table) d ∙ k.inside i (omega (arith, one_more))
              ∙ sym (ap (λ (zs : List ℤ). get_or zs (suc i) (pos 0)) v)

      pub held_far : beyond max_number z ≡ true → any_beyond (values_in a n (drop at s)) ≡ true
      unfolding any_beyond
      held_far t = ap any_beyond (values_inner a n s at h ne) ∙ ap (λ (b : Bool). b || any_beyond (values_in a (n + 1) (drop (at + 2) s))) (ap (beyond max_number) (sym e) ∙ t)
