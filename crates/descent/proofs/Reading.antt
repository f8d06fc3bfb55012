-- Several read one after the other.
use Rattle.std.specs.Prelude.{Option, Some, None}
use Prim.Native.Nat.{ℕ, suc, ◌+◌, ◌-◌, ◌<◌, ◌≤◌}
use mathlib.Core.Path.{◌≡◌, refl, ap, ◌∙◌, subst}
use mathlib.Core.List.{List, [], ◌∷◌}
use lib.ListN.{length, drop}
use native.Mathlib.Omega.{arith}
use Rattle.trees.specs.Tree.{Front, nothing, ◌then◌, map_front, next, several}
use Rattle.descent.specs.Ends.{Ended, Ends}

map_id : {A : Type 0} (f : Front A) → f ≡ map_front (λ x. x) f
map_id nothing = refl
map_id (a then rest) = refl

map-map : {A B C : Type 0} (g : B → C) (h : A → B) (f : Front A) → map_front g (map_front h f) ≡ map_front (λ x. g (h x)) f
map-map g h nothing = refl
map-map g h (a then rest) = refl

-- i of n are read: those from `end` on come after them
pub record Reading {A : Type 0} (one : List ℕ → Front A) (s : List ℕ) (at n end i : ℕ) : Type 0 where
  pub before : List A → List A
  pub rest : several one n (drop at s) ≡ map_front before (several one (n - i) (drop end s))
  pub from : at ≤ end
  pub inside : end ≤ length s

module _ {A : Type 0} (one : List ℕ → Front A) (s : List ℕ) (at n : ℕ) where
  pub read_none : at ≤ length s → Reading one s at n at 0
  read_none h =
      let q : n ≡ n - 0 = omega arith in
      record {
        before = λ xs. xs;
        rest = map_id (several one n (drop at s)) ∙ ap (λ (k : ℕ). map_front (λ xs. xs) (several one k (drop at s))) q;
        from = omega arith;
        inside = h;
      }

  module _ (end i : ℕ) (m : Reading one s at n end i) where
    -- the next one before those after it
    abbrev onto : A → List ℕ → Front (List A)
    onto a left = map_front (λ xs. a ∷ xs) (several one (n - (i + 1)) left)

    rest_next : {f : Front A} → i < n → one (drop end s) ≡ f → several one n (drop at s) ≡ map_front m.before (next f onto)
    unfolding several
    rest_next h e =
        let q : n - i ≡ suc (n - (i + 1)) = omega arith in
        m.rest
        ∙ ap (λ (k : ℕ). map_front m.before (several one k (drop end s))) q
        ∙ ap (λ (f : Front A). map_front m.before (next f onto)) e

    module _ (r : Option ℕ) (h : i < n) (w : Ends (one (drop end s)) s end r) where
      pub read_stopped : r ≡ None → several one n (drop at s) ≡ nothing
      read_stopped q = rest_next h (subst (Ends (one (drop end s)) s end) q w)

      pub read_more : (e : ℕ) → r ≡ Some e → Reading one s at n e (i + 1)
      read_more e q =
          let v : Ended (one (drop end s)) s end e = subst (Ends (one (drop end s)) s end) q w in
          record {
            before = λ xs. m.before (v.what ∷ xs);
            rest = rest_next h v.is ∙ map-map m.before (λ xs. v.what ∷ xs) (several one (n - (i + 1)) (drop e s));
            from = let f = m.from in let g = v.from in omega arith;
            inside = v.inside;
          }

    pub read_all : n ≤ i → Ended (several one n (drop at s)) s at end
    unfolding several
    read_all h =
        let q : n - i ≡ 0 = omega arith in
        record {
          what = m.before [];
          is = m.rest ∙ ap (λ (k : ℕ). map_front m.before (several one k (drop end s))) q;
          from = m.from;
          inside = m.inside;
        }
