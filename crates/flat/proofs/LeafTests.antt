-- The leaves of a tree as the terms of one body: a variable that is not declared, and a variable twice.
use Prim.Native.Nat.{ℕ, zero, suc}
use mathlib.Core.Path.{◌≡◌, refl, sym, ap, ap₂, ◌∙◌}
use mathlib.Core.Bool.{Bool, false, ◌||◌, or-false, or_comm, or_assoc}
use mathlib.Core.List.{List, [], ◌∷◌, map}
use lib.Dec.{eqb, leb}
use lib.ListN.{length, length-map, get_or}
use Rattle.program.specs.Tables.{any_below}
use Rattle.program.specs.Program.{term_in}
use Rattle.program.specs.Refusals.{any_term, undeclared_term, repeated_term}
use Rattle.program.proofs.Conditions.{any_same}
use Rattle.program.proofs.Tests.{eqb_swap}
use Rattle.program.specs.declared.Variable.{Variable}
use Rattle.nested.specs.Flatten.{node_term}
use Rattle.flat.specs.Flat.{any_in, twice_with}

-- the first number by itself
pub any_first : (n : ℕ) (p : ℕ → Bool) → any_below (suc n) p ≡ (p 0 || any_below n (λ i. p (suc i)))
unfolding any_below
any_first zero p = sym (or-false (p 0))
any_first (suc n) p = ap (λ (b : Bool). b || p (suc n)) (any_first n p) ∙ or_assoc (p 0) (any_below n (λ i. p (suc i))) (p (suc n))

-- of each element of a list, by its place and along the list
any_along : (p : ℕ → Bool) (xs : List ℕ) → any_below (length xs) (λ i. p (get_or xs i 0)) ≡ any_in p xs
unfolding any_below any_in
any_along p [] = refl
any_along p (x ∷ xs) = any_first (length xs) (λ i. p (get_or (x ∷ xs) i 0)) ∙ ap (λ (b : Bool). p x || b) (any_along p xs)

leaf_variable : (xs : List ℕ) (i : ℕ) → (term_in (map (node_term 1) xs) i).variable ≡ get_or xs i 0
leaf_variable [] zero = refl
leaf_variable [] (suc i) = refl
leaf_variable (x ∷ xs) zero = refl
leaf_variable (x ∷ xs) (suc i) = leaf_variable xs i

pub any_leaf : (vs : List Variable) (xs : List ℕ) → any_term (map (node_term 1) xs) (λ i t. undeclared_term vs t) ≡ any_in (leb (length vs)) xs
unfolding undeclared_term
any_leaf vs xs =
    let ts = map (node_term 1) xs in
    any_same (length ts) (λ i. leb (length vs) (term_in ts i).variable) (λ i. leb (length vs) (get_or xs i 0)) (λ i h. ap (leb (length vs)) (leaf_variable xs i))
    ∙ ap (λ (n : ℕ). any_below n (λ i. leb (length vs) (get_or xs i 0))) (length-map xs (node_term 1))
    ∙ any_along (leb (length vs)) xs

-- ---- a variable twice

-- the element at this place has the property, or stands before it
abbrev Again : (ℕ → Bool) → List ℕ → ℕ → Bool
Again p xs i = p (get_or xs i 0) || any_below i (λ j. eqb (get_or xs j 0) (get_or xs i 0))

again_more : (p : ℕ → Bool) (x : ℕ) (xs : List ℕ) (i : ℕ) → Again (λ y. eqb y x || p y) xs i ≡ Again p (x ∷ xs) (suc i)
again_more p x xs i =
    let y = get_or xs i 0 in
    let before = any_below i (λ j. eqb (get_or xs j 0) y) in
    ap (λ (b : Bool). b || before) (or_comm (eqb y x) (p y))
    ∙ or_assoc (p y) (eqb y x) before
    ∙ ap (λ (b : Bool). p y || (b || before)) (eqb_swap y x)
    ∙ ap (λ (b : Bool). p y || b) (sym (any_first i (λ j. eqb (get_or (x ∷ xs) j 0) y)))

twice-along : (p : ℕ → Bool) (xs : List ℕ) → twice_with p xs ≡ any_below (length xs) (Again p xs)
unfolding twice_with any_below
twice-along p [] = refl
twice-along p (x ∷ xs) =
    ap (λ (b : Bool). p x || b) (twice-along (λ y. eqb y x || p y) xs
    ∙ any_same (length xs) (Again (λ y. eqb y x || p y) xs) (λ i. Again p (x ∷ xs) (suc i)) (λ i h. again_more p x xs i))
    ∙ ap (λ (b : Bool). b || any_below (length xs) (λ i. Again p (x ∷ xs) (suc i))) (sym (or-false (p x)))
    ∙ sym (any_first (length xs) (Again p (x ∷ xs)))

pub twice_leaf : (xs : List ℕ) → twice_with (λ x. false) xs ≡ any_term (map (node_term 1) xs) (λ i t. repeated_term (map (node_term 1) xs) i)
unfolding repeated_term
twice_leaf xs =
    let ts = map (node_term 1) xs in
    twice-along (λ x. false) xs
    ∙ ap (λ (n : ℕ). any_below n (Again (λ x. false) xs)) (sym (length-map xs (node_term 1)))
    ∙ any_same (length ts) (Again (λ x. false) xs) (λ i. any_below i (λ j. eqb (term_in ts j).variable (term_in ts i).variable))
    (λ i h. any_same i (λ j. eqb (get_or xs j 0) (get_or xs i 0)) (λ j. eqb (term_in ts j).variable (term_in ts i).variable)
    (λ j k. sym (ap₂ eqb (leaf_variable xs j) (leaf_variable xs i))))

pub twice-with_same : (p q : ℕ → Bool) → ((x : ℕ) → p x ≡ q x) → (xs : List ℕ) → twice_with p xs ≡ twice_with q xs
unfolding twice_with
twice-with_same p q h [] = refl
twice-with_same p q h (x ∷ xs) =
    ap₂ ◌||◌ (h x) (twice-with_same (λ y. eqb y x || p y) (λ y. eqb y x || q y) (λ y. ap (λ (b : Bool). eqb y x || b) (h y)) xs)
