-- Lists compared element by element, lists that stand along the numbers, and what holds all along a list of which each element takes some numbers.
use Prim.Native.Nat.{ℕ, zero, suc, ◌+◌, ◌-◌, ◌<◌, ◌≤◌}
use mathlib.Core.Path.{◌≡◌, refl, sym, ap, ap₂, subst}
use mathlib.Core.Bool.{Bool, true, false}
use mathlib.Core.List.{List, [], ◌∷◌, ◌++◌, map}
use native.Mathlib.Omega.{arith}
use lib.Dec.{ltb}
use lib.ListN.{length, get_or, length-append}
use borrow.Author.Tests.{ltb-true, ltb-false}
use Rattle.trees.specs.Tree.{joined, total}
use Rattle.program.specs.Encode.{All}
use Rattle.normal.proofs.Listings.{all_among, among_all, among_at, at_among}
use Rattle.nested.specs.Flatten.{along}

-- ---- every element

module _ {A : Type 0} (p : A → Type 0) where
  pub all_append : (xs ys : List A) → All p xs → All p ys → All p (xs ++ ys)
  all_append [] ys a b = b
  all_append (x ∷ xs) ys a b = (a.0, all_append xs ys a.1 b)

  pub all_left : (xs ys : List A) → All p (xs ++ ys) → All p xs
  all_left [] ys a = tt
  all_left (x ∷ xs) ys a = (a.0, all_left xs ys a.1)

  pub all_right : (xs ys : List A) → All p (xs ++ ys) → All p ys
  all_right [] ys a = a
  all_right (x ∷ xs) ys a = all_right xs ys a.1

  pub all_both : (q : A → Type 0) (xs : List A) → All p xs → All q xs → All (λ x. p x × q x) xs
  all_both q [] a b = tt
  all_both q (x ∷ xs) a b = ((a.0, b.0), all_both q xs a.1 b.1)

  pub all_joined : {B : Type 0} (f : B → List A) (ys : List B) → All p (joined f ys) → All (λ y. All p (f y)) ys
  unfolding joined
  all_joined f [] a = tt
  all_joined f (y ∷ ys) a = (all_left (f y) (joined f ys) a, all_joined f ys (all_right (f y) (joined f ys) a))

  -- by places
  module _ (d : A) where
    pub all_at : (xs : List A) → All p xs → (i : ℕ) → i < length xs → p (get_or xs i d)
    all_at xs a i h = all_among p (get_or xs i d) xs a (at_among d xs i h)

    pub at_all : (xs : List A) → ((i : ℕ) → i < length xs → p (get_or xs i d)) → All p xs
    at_all xs f = among_all p xs (λ x m. let w = among_at d x xs m in subst p w.2 (f w.0 w.1))

-- ---- two lists, element by element

pub data Each {A B : Type 0} (R : A → B → Type 0) : List A → List B → Type 0 where
  none : Each R [] []
  and : {x : A} {y : B} {xs : List A} {ys : List B} → R x y → Each R xs ys → Each R (x ∷ xs) (y ∷ ys)

module _ {A B : Type 0} {R : A → B → Type 0} where
  pub each_length : {xs : List A} {ys : List B} → Each R xs ys → length xs ≡ length ys
  each_length none = refl
  each_length (and e es) = ap suc (each_length es)

  pub each_at : {xs : List A} {ys : List B} (c : A) (d : B) → Each R xs ys → (i : ℕ) → i < length xs → R (get_or xs i c) (get_or ys i d)
  each_at c d none i h = let f : ⊥ = omega arith in absurd f
  each_at c d (and e es) zero h = e
  each_at c d (and e es) (suc i) h = each_at c d es i (omega arith)

  pub each_append : {xs xs' : List A} {ys ys' : List B} → Each R xs ys → Each R xs' ys' → Each R (xs ++ xs') (ys ++ ys')
  each_append none f = f
  each_append (and e es) f = and e (each_append es f)

  -- of the images
  module _ {C : Type 0} (p : C → Type 0) where
    pub each_map : (f : C → A) (g : C → B) → ((z : C) → p z → R (f z) (g z)) → (zs : List C) → All p zs → Each R (map f zs) (map g zs)
    each_map f g h [] a = none
    each_map f g h (z ∷ zs) a = and (h z a.0) (each_map f g h zs a.1)

    pub each_joined : (f : C → List A) (g : C → List B) → ((z : C) → p z → Each R (f z) (g z)) → (zs : List C) → All p zs → Each R (joined f zs) (joined g zs)
    unfolding joined
    each_joined f g h [] a = none
    each_joined f g h (z ∷ zs) a = each_append (h z a.0) (each_joined f g h zs a.1)

pub each_same : {A : Type 0} {xs ys : List A} → Each ◌≡◌ xs ys → xs ≡ ys
each_same none = refl
each_same (and e es) = ap₂ ◌∷◌ e (each_same es)

-- ---- along the numbers

-- each element bears this to what f has at its number, the first at n
pub data Standing {A B : Type 0} (R : A → B → Type 0) (f : ℕ → B) : ℕ → List A → Type 0 where
  none : {n : ℕ} → Standing R f n []
  and : {n : ℕ} {y : A} {ys : List A} → R y (f n) → Standing R f (suc n) ys → Standing R f n (y ∷ ys)

module _ {A B : Type 0} {R : A → B → Type 0} {f : ℕ → B} where
  standing_append : {n : ℕ} {xs : List A} (ys : List A) → Standing R f n xs → Standing R f (n + length xs) ys → Standing R f n (xs ++ ys)
  standing_append ys none t = subst (λ k. Standing R f k ys) (omega arith) t
  standing_append ys (and s ss) t = and s (standing_append ys ss (subst (λ k. Standing R f k ys) (omega arith) t))

  standing_left : {n : ℕ} (xs ys : List A) → Standing R f n (xs ++ ys) → Standing R f n xs
  standing_left [] ys s = none
  standing_left (x ∷ xs) ys (and s ss) = and s (standing_left xs ys ss)

  standing_right : {n : ℕ} (xs ys : List A) → Standing R f n (xs ++ ys) → Standing R f (n + length xs) ys
  standing_right [] ys s = subst (λ k. Standing R f k ys) (omega arith) s
  standing_right (x ∷ xs) ys (and s ss) = subst (λ k. Standing R f k ys) (omega arith) (standing_right xs ys ss)

  standing_at : {n : ℕ} {ys : List A} (d : A) → Standing R f n ys → (i : ℕ) → i < length ys → R (get_or ys i d) (f (n + i))
  standing_at d none i h = let f : ⊥ = omega arith in absurd f
  standing_at d (and {y = y} s ss) zero h = subst (λ k. R y (f k)) (omega arith) s
  standing_at d (and {ys = ys} s ss) (suc i) h = subst (λ k. R (get_or ys i d) (f k)) (omega arith) (standing_at d ss i (omega arith))

  pub standing_from : {n : ℕ} {ys : List A} (d : A) → Standing R f n ys → (v : ℕ) → n ≤ v → v < n + length ys → R (get_or ys (v - n) d) (f v)
  standing_from {n} {ys} d s v l h = subst (λ k. R (get_or ys (v - n) d) (f k)) (omega arith) (standing_at d s (v - n) (omega arith))

  pub at_standing : (d : A) {n : ℕ} (ys : List A) → ((i : ℕ) → i < length ys → R (get_or ys i d) (f (n + i))) → Standing R f n ys
  at_standing d [] h = none
  at_standing d {n} (y ∷ ys) h =
      and {n = n} (subst (λ k. R y (f k)) (omega arith) (h 0 (omega arith)))
      (at_standing d ys (λ i l. subst (λ k. R (get_or ys i d) (f k)) (omega arith) (h (suc i) (omega arith))))

-- where two functions agree from n on
pub standing_over : {A B : Type 0} {R : A → B → Type 0} {f g : ℕ → B} {n : ℕ} {ys : List A} → ((v : ℕ) → n ≤ v → f v ≡ g v) → Standing R f n ys → Standing R g n ys
standing_over h none = none
standing_over {R = R} h (and {n = n} {y = y} s ss) = and (subst (R y) (h n (omega arith)) s) (standing_over (λ v l. h v (omega arith)) ss)

-- ---- along a list, each element taking as many numbers as `size` says

pub data AllAlong {A : Type 0} (size : A → ℕ) (F : ℕ → A → Type 0) : ℕ → List A → Type 0 where
  none : {n : ℕ} → AllAlong size F n []
  and : {n : ℕ} {x : A} {xs : List A} → F n x → AllAlong size F (n + size x) xs → AllAlong size F n (x ∷ xs)

pub joined_length : {A B : Type 0} (size : A → ℕ) (f : A → List B) → ((x : A) → length (f x) ≡ size x) → (xs : List A) → length (joined f xs) ≡ total size xs
unfolding joined total
joined_length size f h [] = refl
joined_length size f h (x ∷ xs) = omega (arith, length-append (f x) (joined f xs), h x, joined_length size f h xs)

module _ {A : Type 0} {size : A → ℕ} where
  pub along_map : {F G : ℕ → A → Type 0} (p : A → Type 0) → ((n : ℕ) (x : A) → p x → F n x → G n x) → {n : ℕ} {xs : List A} → All p xs
      → AllAlong size F n xs → AllAlong size G n xs
  along_map p h a none = none
  along_map p h a (and {n = n} {x = x} l ls) = and (h n x a.0 l) (along_map p h a.1 ls)

  pub along_both : {F G : ℕ → A → Type 0} {n : ℕ} {xs : List A} → AllAlong size F n xs → AllAlong size G n xs → AllAlong size (λ n x. F n x × G n x) n xs
  along_both none none = none
  along_both (and l ls) (and k ks) = and (l, k) (along_both ls ks)

  pub along_three : {F G H : ℕ → A → Type 0} {n : ℕ} {xs : List A} → AllAlong size F n xs → AllAlong size G n xs → AllAlong size H n xs
      → AllAlong size (λ n x. F n x × G n x × H n x) n xs
  along_three none none none = none
  along_three (and l ls) (and k ks) (and j js) = and (l, k, j) (along_three ls ks js)

  pub along_forget : (p : A → Type 0) {n : ℕ} {xs : List A} → AllAlong size (λ n x. p x) n xs → All p xs
  along_forget p none = tt
  along_forget p (and l ls) = (l, along_forget p ls)

  -- what holds of each element, within bounds for its numbers
  pub along_each : {G : ℕ → A → Type 0} (p : A → Type 0) (low high : ℕ) → ((n : ℕ) (x : A) → p x → low ≤ n → n + size x ≤ high → G n x)
      → (n : ℕ) (xs : List A) → All p xs → low ≤ n → n + total size xs ≤ high → AllAlong size G n xs
  unfolding total
  along_each p low high h n [] a l k = none
  along_each p low high h n (x ∷ xs) a l k = and (h n x a.0 l (omega arith)) (along_each p low high h (n + size x) xs a.1 (omega arith) (omega arith))

  -- what holds of the numbers of each element holds of all
  pub along_range : {P : ℕ → Type 0} {n : ℕ} {xs : List A} → AllAlong size (λ n x. (v : ℕ) → n ≤ v → v < n + size x → P v) n xs
      → (v : ℕ) → n ≤ v → v < n + total size xs → P v
  unfolding total
  along_range none v h k = let f : ⊥ = omega arith in absurd f
  along_range {P} (and {n = n} {x = x} {xs = xs} l ls) v h k = go (ltb v (n + size x)) refl (along_range ls v)
    where
      go : (b : Bool) → ltb v (n + size x) ≡ b → (n + size x ≤ v → v < n + size x + total size xs → P v) → P v
      go true e r = l v h (ltb-true v (n + size x) e)
      go false e r = let g = ltb-false v (n + size x) e in r (omega arith) (omega arith)

  module _ {B : Type 0} (p : B → Type 0) (f : ℕ → A → List B) where
    pub all_along : (n : ℕ) (xs : List A) → All p (along size f n xs) → AllAlong size (λ n x. All p (f n x)) n xs
    unfolding along
    all_along n [] a = none
    all_along n (x ∷ xs) a =
        and (all_left p (f n x) (along size f (n + size x) xs) a) (all_along (n + size x) xs (all_right p (f n x) (along size f (n + size x) xs) a))

    pub along_all : {n : ℕ} {xs : List A} → AllAlong size (λ n x. All p (f n x)) n xs → All p (along size f n xs)
    unfolding along
    along_all none = tt
    along_all (and {n = n} {x = x} {xs = xs} a as') = all_append p (f n x) (along size f (n + size x) xs) a (along_all as')

  module _ {B C : Type 0} {R : B → C → Type 0} {f : ℕ → C} (g : A → List B) (sized : (x : A) → length (g x) ≡ size x) where
    pub standing_along : {n : ℕ} (xs : List A) → Standing R f n (joined g xs) → AllAlong size (λ n x. Standing R f n (g x)) n xs
    unfolding joined
    standing_along {n = n} [] s = none
    standing_along {n = n} (x ∷ xs) s =
        let t = standing_right (g x) (joined g xs) s in
        and (standing_left (g x) (joined g xs) s) (standing_along {n = n + size x} xs (subst (λ k. Standing R f (n + k) (joined g xs)) (sized x) t))

    pub along_standing : {n : ℕ} {xs : List A} → AllAlong size (λ n x. Standing R f n (g x)) n xs → Standing R f n (joined g xs)
    unfolding joined
    along_standing none = none
    along_standing (and {n = n} {x = x} {xs = xs} s ss) =
        standing_append (joined g xs) s (subst (λ k. Standing R f (n + k) (joined g xs)) (sym (sized x)) (along_standing ss))
