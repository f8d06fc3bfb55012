-- Trees skipped node by node.
use Prim.Native.Nat.{ℕ, suc, ◌+◌, ◌-◌, ◌*◌, ◌<◌, ◌≤◌}
use mathlib.Core.Path.{◌≡◌, refl, sym, ap, subst, ◌∙◌}
use mathlib.Core.List.{List}
use native.Mathlib.Omega.{arith}
use lib.Dec.{T}
use lib.ListN.{length, drop, get_or, length-drop}
use Rattle.flat.specs.Flat.{node_bytes, children_of, inner_of, Stand, past, inners_passed}
use Rattle.flat.proofs.Standing.{stand_some, stand_room, past_none, passed_none}
use Rattle.flat.proofs.Steps.{leaf_children, leaf_inner, inner_children, inner_inner, stand_next, past_next, passed_next}
use Rattle.skipping.specs.Skipping.{Skips}

-- of n trees from `at` on, `need` are left from `end` on, after so many inner nodes
pub record Skipping (s : List ℕ) (at n need end inners : ℕ) : Type 0 where
  pub from : at ≤ end
  pub inside : end ≤ length s
  pub stands : Stand (drop end s) need
  pub rest : past (drop end s) need ≡ past (drop at s) n
  pub counted : inners + inners_passed (drop end s) need ≡ inners_passed (drop at s) n
  pub few : inners ≤ end

pub skipping_begun : (s : List ℕ) (at n : ℕ) → at ≤ length s → Stand (drop at s) n → Skipping s at n n at 0
skipping_begun s at n h x = record { from = omega arith; inside = h; stands = x; rest = refl; counted = omega arith; few = omega arith }

module _ {s : List ℕ} {at n need end inners : ℕ} (k : Skipping s at n need end inners) (h : 0 < need) where
  one_less : need ≡ suc (need - 1)
  one_less = omega arith

  left : Stand (drop end s) (suc (need - 1))
  left = subst (Stand (drop end s)) one_less k.stands

  pub skipping_two : end + 1 < length s
  skipping_two = omega (arith, stand_some (drop end s) (need - 1) left, length-drop end s)

  next : T (node_bytes (get_or s end 0) (get_or s (end + 1) 0)) × Stand (drop (end + 2) s) (children_of (get_or s end 0) (get_or s (end + 1) 0) + (need - 1))
  next = stand_next s end skipping_two (need - 1) left

  -- one node further
  further : (need' inners' : ℕ) → children_of (get_or s end 0) (get_or s (end + 1) 0) + (need - 1) ≡ need' → inners + inner_of (get_or s end 0) ≡ inners' → inners' ≤ end + 2
      → Skipping s at n need' (end + 2) inners'
  further need' inners' e d f =
      let p : past (drop end s) need ≡ past (drop (end + 2) s) need' =
      ap (past (drop end s)) one_less ∙ past_next s end skipping_two (need - 1) ∙ ap (past (drop (end + 2) s)) e in
      record {
        from = omega (arith, k.from);
        inside = omega (arith, skipping_two);
        stands = subst (Stand (drop (end + 2) s)) e next.1;
        rest = sym p ∙ k.rest;
        counted =
            omega (
              arith,
              k.counted,
              ap (inners_passed (drop end s)) one_less,
              passed_next s end skipping_two (need - 1),
              ap (inners_passed (drop (end + 2) s)) e,
            );
        few = f;
      }

  module _ (need' inners' : ℕ) where
    pub skipping_leaf : get_or s end 0 ≡ 0 → need' ≡ need - 1 → inners' ≡ inners → Skipping s at n need' (end + 2) inners'
    skipping_leaf e p q =
        further need' inners'
        (omega (arith, leaf_children (get_or s end 0) (get_or s (end + 1) 0) e))
        (omega (arith, leaf_inner (get_or s end 0) (get_or s (end + 1) 0) e))
        (omega (arith, k.few))

    pub skipping_inner : (get_or s end 0 ≡ 0 → ⊥) → need' ≡ need - 1 + get_or s (end + 1) 0 → inners' ≡ inners + 1 → Skipping s at n need' (end + 2) inners'
    skipping_inner ne p q =
        further need' inners'
        (omega (arith, inner_children (get_or s end 0) (get_or s (end + 1) 0) ne))
        (omega (arith, inner_inner (get_or s end 0) (get_or s (end + 1) 0) ne))
        (omega (arith, k.few))

  pub skipping_room : (get_or s end 0 ≡ 0 → ⊥) → 2 * (need - 1 + get_or s (end + 1) 0) ≤ length s
  skipping_room ne = omega (arith, stand_room _ _ (skipping_inner _ _ ne refl refl).stands, length-drop (end + 2) s)

pub skipping_done : {s : List ℕ} {at n need end inners : ℕ} → Skipping s at n need end inners → need ≡ 0 → Skips s at n (record { end = end; inners = inners })
skipping_done {s} {at} {n} {need} {end} {inners} k e =
    record {
      rest = sym (past_none (drop end s)) ∙ sym (ap (past (drop end s)) e) ∙ k.rest;
      from = k.from;
      inside = k.inside;
      counted = omega (arith, k.counted, ap (inners_passed (drop end s)) e, passed_none (drop end s));
    }
