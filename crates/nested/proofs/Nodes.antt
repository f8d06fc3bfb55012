-- The rule of a node: what it gives is its node's value for what its body reads, which rises with every operand. A body variable is kept by its own kind and
-- the head's.
use Rattle.std.specs.Prelude.{Some}
use Prim.Native.Nat.{ℕ, zero, suc, ◌-◌, ◌<◌, ◌≤◌}
use mathlib.Core.Path.{◌≡◌, refl, sym, ap, ap₂, subst, ◌∙◌}
use mathlib.Core.Bool.{Bool, true, false, cond, ◌&&◌, ◌||◌}
use mathlib.Core.List.{List, [], ◌∷◌, map}
use native.Mathlib.Omega.{arith}
use lib.Dec.{T, eqb}
use lib.IntN.{ℤ, pos, ◌+ℤ◌, ◌*ℤ◌}
use lib.Signed.{◌≤ℤ◌, le_z, le_z_yes, ≤ℤ_refl}
use lib.ListN.{length, get_or, length-map}
use Rattle.format.proofs.Int.{int, sum_is, product_is}
use Rattle.program.specs.Program.{term_form, variable_in, term_in, no_term}
use Rattle.program.specs.Variables.{is_founded, from_above, swaps, not_past}
use Rattle.program.specs.Directions.{plain_direction, opposite, away, term_direction, direction, is_rising}
use Rattle.program.specs.Evaluate.{sum_below, largest_to, smallest_to, amount_of, evaluate, only_if}
use Rattle.program.specs.Readings.{Valuation, kept, reading, gives}
use Rattle.program.specs.declared.Direction.{Direction}
use Rattle.program.specs.declared.Direction.TheVariants.{Rising, Falling}
use Rattle.program.specs.declared.Variable.{Variable}
use Rattle.program.specs.declared.Term.{Term}
use Rattle.program.proofs.Gives.{sum_same, plain_hold}
use Rattle.program.proofs.Monotone.{larger_up, smaller_up, sum_up, pick_up}
use Rattle.program.proofs.Quotients.{over_one}
use Rattle.program.proofs.Tests.{cases}
use Rattle.program.proofs.Variables.{past_refl, past_trans}
use Rattle.program.specs.Encode.{All}
use Rattle.nested.specs.Flatten.{node_term, node_rule, node_gives}
use Rattle.nested.proofs.Lists.{all_at, Each, none, and, each_length, each_at, each_same}

-- the form of an inner node
pub record NodeForm (form : ℕ) : Type 0 where
  pub least : 1 ≤ form
  pub most : form ≤ 3

three : (P : ℕ → Type 0) → P 1 → P 2 → P 3 → {form : ℕ} → NodeForm form → P form
three P a b c {form} f = go form f.least f.most
  where
    go : (form : ℕ) → 1 ≤ form → form ≤ 3 → P form
    go zero h k = absurd (omega arith)
    go (suc zero) h k = a
    go (suc (suc zero)) h k = b
    go (suc (suc (suc zero))) h k = c
    go (suc (suc (suc (suc n)))) h k = absurd (omega arith)

pub map_at : {A B : Type 0} (f : A → B) (c : A) (d : B) (xs : List A) (i : ℕ) → i < length xs → get_or (map f xs) i d ≡ f (get_or xs i c)
map_at f c d [] i h = let g : ⊥ = omega arith in absurd g
map_at f c d (x ∷ xs) zero h = refl
map_at f c d (x ∷ xs) (suc i) h = map_at f c d xs i (omega arith)

-- ---- sum, max and min of n readings

unfoldable over : ℕ → (ℕ → ℤ) → ℕ → ℤ
over zero at n = pos 0
over (suc zero) at n = sum_below at n
over (suc (suc zero)) at n = largest_to at (n - 1)
over (suc (suc (suc form))) at n = smallest_to at (n - 1)

zero_plus : (z : ℤ) → pos 0 +ℤ z ≡ z
zero_plus z = omega (int, sum_is (pos 0) z)

one_times : (z : ℤ) → pos 1 *ℤ z ≡ z
one_times z = omega (int, product_is (pos 1) z)

over_up_lem : {form : ℕ} → NodeForm form → (at to : ℕ → ℤ) (n : ℕ) → 1 ≤ n → ((i : ℕ) → i < n → at i ≤ℤ to i) → over form at n ≤ℤ over form to n
unfolding over
over_up_lem f at to n l h =
    three (λ form. over form at n ≤ℤ over form to n) (sum_up at to n h) (pick_up at to larger_up (n - 1) (λ i k. h i (omega arith)))
    (pick_up at to smaller_up (n - 1) (λ i k. h i (omega arith))) f

over_same : {form : ℕ} → NodeForm form → (at to : ℕ → ℤ) (n : ℕ) → 1 ≤ n → ((i : ℕ) → i < n → at i ≡ to i) → over form at n ≡ over form to n
over_same f at to n l h =
    let a = over_up_lem f at to n l (λ i k. subst (λ z. at i ≤ℤ z) (h i k) (≤ℤ_refl (at i))) in
    let b = over_up_lem f to at n l (λ i k. subst (λ z. z ≤ℤ at i) (h i k) (≤ℤ_refl (at i))) in
    omega int

-- the amount of terms that are those of a node
over_is : {form : ℕ} → NodeForm form → {A : Type 0} (g : A → ℕ) (c : A) (xs : List A) (at : ℕ → ℤ)
    → amount_of form (pos 0) (pos 1) (map (λ x. node_term form (g x)) xs) at ≡ over form at (length xs)
unfolding amount_of over
over_is f {A} g c xs at =
    three (λ form. amount_of form (pos 0) (pos 1) (map (λ x. node_term form (g x)) xs) at ≡ over form at (length xs))
    (rw (length-map xs (λ (x : A). node_term 1 (g x)), over_one, zero_plus) (sum_same _ at (length xs) weighed))
    (rw (length-map xs (λ (x : A). node_term 2 (g x))) (zero_plus _))
    (rw (length-map xs (λ (x : A). node_term 3 (g x))) (zero_plus _))
    f
  where
    weighed : (i : ℕ) → i < length xs → (term_in (map (λ x. node_term 1 (g x)) xs) i).number *ℤ at i ≡ at i
    weighed i h = rw (map_at (λ (x : A). node_term 1 (g x)) c no_term xs i h) (one_times (at i))

node_is : {form : ℕ} → NodeForm form → (values : List ℤ) → node_gives form values ≡ over form (λ i. get_or values i (pos 0)) (length values)
unfolding node_gives
node_is f values = over_is f (λ a. 0) (pos 0) values (λ i. get_or values i (pos 0))

-- a leaf root is "a sum of one"
pub node_alone : (a : ℤ) → node_gives 1 (a ∷ []) ≡ a
unfolding over sum_below
node_alone a = node_is (record { least = omega arith; most = omega arith }) (a ∷ []) ∙ zero_plus a

node_up : {form : ℕ} → NodeForm form → {as' bs : List ℤ} → 1 ≤ length as' → Each ◌≤ℤ◌ as' bs → node_gives form as' ≤ℤ node_gives form bs
node_up f {as'} {bs} l e = rw (node_is f as', node_is f bs, ← each_length e) (over_up_lem f _ _ (length as') l (each_at (pos 0) (pos 0) e))

-- ---- orders that every node's value follows

pub record Climbs (R : ℤ → ℤ → Type 0) : Type 0 where
  pub same : (a : ℤ) → R a a
  pub trans : (a b c : ℤ) → R a b → R b c → R a c
  pub node : {form : ℕ} → NodeForm form → {as' bs : List ℤ} → 1 ≤ length as' → Each R as' bs → R (node_gives form as') (node_gives form bs)

pub climbs_up : Climbs ◌≤ℤ◌
climbs_up = record { same = ≤ℤ_refl; trans = λ a b c h k. omega int; node = node_up }

pub climbs_equal : Climbs ◌≡◌
climbs_equal = record { same = λ a. refl; trans = λ a b c p q. p ∙ q; node = λ {form} f l e. ap (node_gives form) (each_same e) }

-- the order of a variable
pub climbs_along : (x : Variable) → Climbs (λ a b. T (not_past x a b))
unfolding not_past swaps
climbs_along x = record { same = past_refl x; trans = past_trans x; node = λ {form} f {as'} {bs} l e. node f {as' = as'} {bs = bs} l e }
  where
    up : {as' bs : List ℤ} → Each (λ a b. T (le_z a b)) as' bs → Each ◌≤ℤ◌ as' bs
    up none = none
    up (and e es) = and (le_z_yes e) (up es)

    down : {as' bs : List ℤ} → Each (λ a b. T (le_z b a)) as' bs → Each ◌≤ℤ◌ bs as'
    down none = none
    down (and e es) = and (le_z_yes e) (down es)

    node : {form : ℕ} → NodeForm form → {as' bs : List ℤ} → 1 ≤ length as' → Each (λ a b. T (not_past x a b)) as' bs → T (not_past x (node_gives form as') (node_gives form bs))
    node {form} f {as'} {bs} l =
        cases (from_above x)
        (λ t. Each (λ a b. T (cond t (le_z b a) (le_z a b))) as' bs
        → T (cond t (le_z (node_gives form bs) (node_gives form as')) (le_z (node_gives form as') (node_gives form bs))))
        (λ t e. (node_up f (rw (← each_length e) l) (down e)).le) (λ t e. (node_up f l (up e)).le)

-- ---- what a node's rule gives

node_evaluate : {form : ℕ} → NodeForm form → (h : ℕ) (xs : List ℕ) (at : ℕ → ℤ) → evaluate (node_rule form h xs) at ≡ Some (over form at (length xs))
unfolding evaluate term_form
node_evaluate {form} f h xs at = ap₂ only_if (sym (plain_hold (map (node_term form) xs) at (length (map (node_term form) xs)) plain)) amount
  where
    plain : (i : ℕ) → i < length (map (node_term form) xs) → (term_in (map (node_term form) xs) i).op ≡ 0
    plain i k = rw (map_at (node_term form) 0 no_term xs i (omega (arith, length-map xs (node_term form))))

    itself : term_form form ≡ form
    itself = three (λ form. term_form form ≡ form) refl refl refl f

    amount : amount_of (term_form form) (pos 0) (pos 1) (map (node_term form) xs) at ≡ over form at (length xs)
    amount = rw itself (over_is f (λ x. x) 0 xs at)

-- where its body is read as these values of its operands
pub node_evaluates : {form : ℕ} → NodeForm form → (h : ℕ) (xs : List ℕ) (at : ℕ → ℤ) (b : Valuation) → 1 ≤ length xs
    → ((i : ℕ) → i < length xs → at i ≡ b (get_or xs i 0)) → evaluate (node_rule form h xs) at ≡ Some (node_gives form (map b xs))
node_evaluates f h xs at b l e =
    node_evaluate f h xs at
    ∙ ap Some (over_same f at (λ i. get_or (map b xs) i (pos 0)) (length xs) l (λ i k. e i k ∙ sym (map_at b 0 (pos 0) xs i k))
    ∙ sym (rw (node_is f (map b xs), length-map xs b)))

-- ---- what is kept, by the kinds of the head and of the variable

abbrev turned : ℕ → Direction → Direction
turned kind d = cond (eqb kind 2) (opposite d) d

unfoldable pub kind_kept : ℕ → ℕ → Bool
kind_kept head kind = is_rising (turned kind (turned head Rising)) && (eqb kind 1 || eqb kind 2)

-- a variable that is kept has the head's order
pub kept_order : (head kind : ℕ) → T (kind_kept head kind) → eqb kind 2 ≡ eqb head 2
unfolding kind_kept
kept_order head kind = go (eqb head 2) (eqb kind 2)
  where
    go : (a b : Bool) → T (is_rising (cond b (opposite (cond a Falling Rising)) (cond a Falling Rising)) && (eqb kind 1 || b)) → b ≡ a
    go true true t = refl
    go true false t = absurd t
    go false true t = absurd t
    go false false t = refl

abbrev pub read_by : List Variable → ℕ → Valuation → Valuation → Valuation
read_by vs head m θ x = cond (kind_kept head (variable_in vs x).kind) (m x) (θ x)

module _ {form : ℕ} (f : NodeForm form) (vs : List Variable) (h : ℕ) (xs : List ℕ) where
  pub node_kept : (i : ℕ) → i < length xs → kept vs (node_rule form h xs) i ≡ kind_kept (variable_in vs h).kind (variable_in vs (get_or xs i 0)).kind
  unfolding kept direction term_direction plain_direction term_form away swaps kind_kept
  node_kept i k =
      ap (λ (t : Term). by form t) (map_at (node_term form) 0 no_term xs i k)
      ∙ three (λ form. by form (node_term form (get_or xs i 0)) ≡ kind_kept (variable_in vs h).kind (variable_in vs (get_or xs i 0)).kind) refl refl refl f
    where
      by : ℕ → Term → Bool
      by form t = let x = variable_in vs t.variable in is_rising (away x (term_direction (variable_in vs h) (term_form form) x t)) && is_founded x

  pub node_reading : (m θ : Valuation) (i : ℕ) → i < length xs → reading vs (node_rule form h xs) m θ i ≡ read_by vs (variable_in vs h).kind m θ (get_or xs i 0)
  node_reading m θ i k =
      ap₂ (λ (b : Bool) (t : Term). cond b (m t.variable) (θ t.variable)) (node_kept i k) (map_at (node_term form) 0 no_term xs i k)

  pub node_given : (m θ b : Valuation) → 1 ≤ length xs → All (λ x. read_by vs (variable_in vs h).kind m θ x ≡ b x) xs
      → gives vs (node_rule form h xs) m θ ≡ Some (node_gives form (map b xs))
  unfolding gives
  node_given m θ b l a =
      node_evaluates f h xs (reading vs (node_rule form h xs) m θ) b l
      (λ i k. node_reading m θ i k ∙ all_at (λ x. read_by vs (variable_in vs h).kind m θ x ≡ b x) 0 xs a i k)
