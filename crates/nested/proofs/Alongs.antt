-- What holds of every element, and sums and lists along a list.
use Prim.Native.Nat.{ℕ, zero, suc, ◌+◌, ◌≤◌, ◌<◌}
use mathlib.Core.Path.{◌≡◌, refl, sym, ap, ◌∙◌}
use mathlib.Core.List.{List, [], ◌∷◌, ◌++◌, map, append_assoc}
use native.Mathlib.Omega.{arith}
use lib.ListN.{length, get_or, length-append}
use Rattle.trees.specs.Tree.{joined, total}
use Rattle.program.specs.Encode.{All}
use Rattle.nested.specs.Flatten.{along}

module _ {A : Type 0} where
  pub all_append : (p : A → Type 0) (xs ys : List A) → All p xs → All p ys → All p (xs ++ ys)
  all_append p [] ys h k = k
  all_append p (x ∷ xs) ys h k = (h.0, all_append p xs ys h.1 k)

  pub all_first : (p : A → Type 0) (xs ys : List A) → All p (xs ++ ys) → All p xs
  all_first p [] ys h = tt
  all_first p (x ∷ xs) ys h = (h.0, all_first p xs ys h.1)

  pub all_second : (p : A → Type 0) (xs ys : List A) → All p (xs ++ ys) → All p ys
  all_second p [] ys h = h
  all_second p (x ∷ xs) ys h = all_second p xs ys h.1

  -- of each element, at its place
  pub all_at : (p : A → Type 0) (d : A) (xs : List A) → All p xs → (i : ℕ) → i < length xs → p (get_or xs i d)
  all_at p d [] h i l = let f : ⊥ = omega arith in absurd f
  all_at p d (x ∷ xs) h zero l = h.0
  all_at p d (x ∷ xs) h (suc i) l = all_at p d xs h.1 i (omega arith)

  pub total_append : (f : A → ℕ) (xs ys : List A) → total f (xs ++ ys) ≡ total f xs + total f ys
  unfolding total
  total_append f [] ys = omega arith
  total_append f (x ∷ xs) ys = let e = total_append f xs ys in omega arith

module _ {A B : Type 0} where
  pub map_at : (f : A → B) (xs : List A) (i : ℕ) (d : A) (e : B) → i < length xs → get_or (map f xs) i e ≡ f (get_or xs i d)
  map_at f [] i d e h = let z : ⊥ = omega arith in absurd z
  map_at f (x ∷ xs) zero d e h = refl
  map_at f (x ∷ xs) (suc i) d e h = map_at f xs i d e (omega arith)

  pub all_joined : (p : B → Type 0) (q : A → Type 0) (f : A → List B) → ((x : A) → q x → All p (f x)) → (xs : List A) → All q xs → All p (joined f xs)
  unfolding joined
  all_joined p q f h [] a = tt
  all_joined p q f h (x ∷ xs) a = all_append p (f x) (joined f xs) (h x a.0) (all_joined p q f h xs a.1)

  pub every_joined : (p : B → Type 0) (f : A → List B) → ((x : A) → All p (f x)) → (xs : List A) → All p (joined f xs)
  unfolding joined
  every_joined p f h [] = tt
  every_joined p f h (x ∷ xs) = all_append p (f x) (joined f xs) (h x) (every_joined p f h xs)

  pub joined_length : (f : A → List B) (n : A → ℕ) → ((x : A) → length (f x) ≡ n x) → (xs : List A) → length (joined f xs) ≡ total n xs
  unfolding joined total
  joined_length f n h [] = refl
  joined_length f n h (x ∷ xs) = let e = joined_length f n h xs in omega (arith, length-append (f x) (joined f xs), h x)

  module _ (size : A → ℕ) (f : ℕ → A → List B) where
    -- each element takes its own numbers out of those of the whole list
    pub all_along : (p : B → Type 0) (q : A → Type 0) (n : ℕ) (xs : List A) → All q xs
        → ((m : ℕ) (x : A) → q x → n ≤ m → m + size x ≤ n + total size xs → All p (f m x)) → All p (along size f n xs)
    unfolding along total
    all_along p q n [] a h = tt
    all_along p q n (x ∷ xs) a h =
        all_append p (f n x) (along size f (n + size x) xs) (h n x a.0 (omega arith) (omega arith))
        (all_along p q (n + size x) xs a.1 (λ m y b l u. h m y b (omega arith) (omega arith)))

    pub along_append : (n : ℕ) (xs ys : List A) → along size f n (xs ++ ys) ≡ along size f n xs ++ along size f (n + total size xs) ys
    unfolding along total
    along_append n [] ys = let e : n ≡ n + 0 = omega arith in ap (λ (m : ℕ). along size f m ys) e
    along_append n (x ∷ xs) ys =
        let e : n + size x + total size xs ≡ n + (size x + total size xs) = omega arith in
        ap (◌++◌ (f n x)) (along_append (n + size x) xs ys ∙ ap (λ (m : ℕ). along size f (n + size x) xs ++ along size f m ys) e)
        ∙ sym (append_assoc (f n x) (along size f (n + size x) xs) (along size f (n + (size x + total size xs)) ys))

    pub along_length : (count : A → ℕ) → ((m : ℕ) (x : A) → length (f m x) ≡ count x) → (n : ℕ) (xs : List A) → length (along size f n xs) ≡ total count xs
    unfolding along total
    along_length count h n [] = refl
    along_length count h n (x ∷ xs) =
        let e = along_length count h (n + size x) xs in
        omega (arith, length-append (f n x) (along size f (n + size x) xs), h n x)
