-- Entries by their position in a list, their order, and how they are read off the report's bytes.
use Prim.Native.Nat.{ℕ, zero, suc, ◌+◌, ◌-◌, ◌*◌, ◌<◌, ◌≤◌}
use mathlib.Core.Path.{◌≡◌, refl, sym, ap, ap₂, ◌∙◌, subst}
use mathlib.Core.Bool.{Bool, true, false, cond}
use mathlib.Core.List.{List, [], ◌∷◌, ◌++◌}
use native.Mathlib.Omega.{arith}
use lib.Dec.{T, ltb, ltb→lt, nltb→le}
use lib.IntN.{pos, nat_abs}
use lib.ListN.{length, get_or, length-append, get_or-append}
use lib.Seq.{get_or-append-add}
use Rattle.format.specs.Numbers.{bytes_of, signed}
use Rattle.format.proofs.Ints.{read_written}
use Rattle.report.specs.Report.{Entry, entry, entry_bytes, bytes_in, ascending, only, bound, bound_above, at_most, at_least, bound_mark, bounds_of, conditions_of}
use Rattle.verdict.specs.Demands.{variable_at, mark_at, number_at}
use Rattle.program.specs.Program.{variable_in}
use Rattle.program.specs.Variables.{from_above, swaps}
use Rattle.program.specs.Readings.{Valuation}
use Rattle.program.specs.declared.Variable.{Variable}
use Rattle.program.proofs.Tests.{cases}

abbrev pub entry_in : List Entry → ℕ → Entry
entry_in es i = get_or es i (entry 0 0 (pos 0))

-- ---- an entry that stands in a list, and one that every entry of it is

pub record Listed (e : Entry) (es : List Entry) : Type 0 where
  pub at : ℕ
  pub inside : at < length es
  pub is : entry_in es at ≡ e

abbrev pub Every : (Entry → Type 0) → List Entry → Type 0
Every Q es = (i : ℕ) → i < length es → Q (entry_in es i)

-- a position of two lists is one of the first or of the second
module _ (es fs : List Entry) where
  pub left_is : (i : ℕ) → i < length es → entry_in (es ++ fs) i ≡ entry_in es i
  left_is i h = get_or-append es fs (entry 0 0 (pos 0)) i h

  pub right_is : (i : ℕ) → entry_in (es ++ fs) (length es + i) ≡ entry_in fs i
  right_is i = get_or-append-add es fs i (entry 0 0 (pos 0))

  pub both_length : length (es ++ fs) ≡ length es + length fs
  both_length = length-append es fs

  after_is : (i : ℕ) → length es ≤ i → entry_in (es ++ fs) i ≡ entry_in fs (i - length es)
  after_is i h = let e : i ≡ length es + (i - length es) = omega arith in ap (entry_in (es ++ fs)) e ∙ right_is (i - length es)

  pub either : (Q : ℕ → Type 0) (i : ℕ) → (i < length es → Q i) → (length es ≤ i → Q i) → Q i
  either Q i f g = cases (ltb i (length es)) (λ b. Q i) (λ t. f (ltb→lt i (length es) t)) (λ n. g (nltb→le i (length es) n))

  listed_left : {e : Entry} → Listed e es → Listed e (es ++ fs)
  listed_left l = record { at = l.at; inside = omega (arith, both_length, l.inside); is = left_is l.at l.inside ∙ l.is }

  listed_right : {e : Entry} → Listed e fs → Listed e (es ++ fs)
  listed_right l = record { at = length es + l.at; inside = omega (arith, both_length, l.inside); is = right_is l.at ∙ l.is }

  every_append : (Q : Entry → Type 0) → Every Q es → Every Q fs → Every Q (es ++ fs)
  every_append Q h k i l = either (λ j. Q (entry_in (es ++ fs) j)) i (λ a. subst Q (sym (left_is i a)) (h i a))
      (λ a. subst Q (sym (after_is i a)) (k (i - length es) (omega (arith, both_length))))

module _ (b : Bool) (e : Entry) where
  only_listed : T b → Listed e (only b e)
  only_listed = cases b (λ c. T c → Listed e (only c e)) (λ t u. record { at = 0; inside = omega arith; is = refl }) (λ n u. absurd u)

  only_every : (Q : Entry → Type 0) → (T b → Q e) → Every Q (only b e)
  only_every Q h = cases b (λ c. Every Q (only c e)) (λ t. one (h t)) (λ n i l. let f : ⊥ = omega arith in absurd f)
    where
      one : Q e → Every Q (e ∷ [])
      one q zero l = q
      one q (suc i) l = let f : ⊥ = omega arith in absurd f

-- ---- the entries of the variables in order

module _ (f : ℕ → List Entry) where
  ascending_listed : {e : Entry} (v n : ℕ) → v < n → Listed e (f v) → Listed e (ascending f n)
  unfolding ascending
  ascending_listed v zero h l = let z : ⊥ = omega arith in absurd z
  ascending_listed {e} v (suc n) h l =
      cases (ltb v n) (λ b. Listed e (ascending f n ++ f n)) (λ t. listed_left (ascending f n) (f n) (ascending_listed v n (ltb→lt v n t) l))
      (λ t. let q : v ≡ n = same (nltb→le v n t) in listed_right (ascending f n) (f n) (subst (λ k. Listed e (f k)) q l))
    where
      same : n ≤ v → v ≡ n
      same k = omega arith

  ascending_every : (Q : Entry → Type 0) → ((v : ℕ) → Every Q (f v)) → (n : ℕ) → Every Q (ascending f n)
  unfolding ascending
  ascending_every Q h zero = λ i l. let z : ⊥ = omega arith in absurd z
  ascending_every Q h (suc n) = every_append (ascending f n) (f n) Q (ascending_every Q h n) (h n)

-- ---- their order: by variable, then by mark

abbrev key : Entry → ℕ
key e = 4 * e.variable + e.mark

abbrev pub Sorted : List Entry → Type 0
Sorted es = (i j : ℕ) → i < j → j < length es → key (entry_in es i) < key (entry_in es j)

sorted_append : (es fs : List Entry) → Sorted es → Sorted fs → ((i j : ℕ) → i < length es → j < length fs → key (entry_in es i) < key (entry_in fs j)) → Sorted (es ++ fs)
sorted_append es fs h k apart i j l r = either es fs (λ x. key (entry_in (es ++ fs) i) < key (entry_in (es ++ fs) x)) j
    (λ b. rw (left_is es fs j b, left_is es fs i (omega arith)) (h i j l b))
    (λ b. either es fs (λ x. key (entry_in (es ++ fs) x) < key (entry_in (es ++ fs) j)) i
    (λ a. rw (left_is es fs i a, after_is es fs j b) (apart i (j - length es) a (omega (arith, both_length es fs))))
    (λ a. rw (after_is es fs i a, after_is es fs j b) (k (i - length es) (j - length es) (omega arith) (omega (arith, both_length es fs)))))

only_sorted : (b : Bool) (e : Entry) → Sorted (only b e)
only_sorted true e i j l r = let z : ⊥ = omega arith in absurd z
only_sorted false e i j l r = let z : ⊥ = omega arith in absurd z

-- a variable's entries are its own, and sorted
record Own (f : ℕ → List Entry) : Type 0 where
  own : (v : ℕ) → Every (λ e. (e.variable ≡ v) × (e.mark ≤ 3)) (f v)
  sorted : (v : ℕ) → Sorted (f v)

module _ {f : ℕ → List Entry} (o : Own f) where
  keys_below : (n : ℕ) → Every (λ e. key e < 4 * n) (ascending f n)
  unfolding ascending
  keys_below zero = λ i l. let z : ⊥ = omega arith in absurd z
  keys_below (suc n) = every_append (ascending f n) (f n) (λ e. key e < 4 * suc n) (λ i l. omega (arith, keys_below n i l))
      (λ i l. let q = o.own n i l in omega (arith, q.0, q.1))

  ascending_sorted : (n : ℕ) → Sorted (ascending f n)
  unfolding ascending
  ascending_sorted zero = λ i j l r. let z : ⊥ = omega arith in absurd z
  ascending_sorted (suc n) = sorted_append (ascending f n) (f n) (ascending_sorted n) (o.sorted n)
      (λ i j a b. let q = o.own n j b in omega (arith, keys_below n i a, q.0))

pub once_by_key : (es : List Entry) → Sorted es → (i j : ℕ) → i < length es → j < length es → (entry_in es i).variable ≡ (entry_in es j).variable
    → (entry_in es i).mark ≡ (entry_in es j).mark → i ≡ j
once_by_key es s i j a b p q = by (λ l. omega (arith, s i j l b)) (λ l. omega (arith, s j i l a))
  where
    by : (i < j → ⊥) → (j < i → ⊥) → i ≡ j
    by h k = omega arith

-- ---- bounds and conditions

module _ (vs : List Variable) (p : ℕ → Bool) (m : Valuation) (n : ℕ) where
  -- the bound entry of a variable
  abbrev pub bound_of : ℕ → Entry
  bound_of v = entry v (bound_mark (variable_in vs v)) (m v)

  pub bounds_every : (Q : Entry → Type 0) → ((v : ℕ) → T (p v) → Q (bound_of v)) → Every Q (ascending (bounds_of vs p m) n)
  bounds_every Q h = ascending_every (bounds_of vs p m) Q (λ v. only_every (p v) (bound_of v) Q (h v)) n

  pub bounds_listed : (v : ℕ) → v < n → T (p v) → Listed (bound_of v) (ascending (bounds_of vs p m) n)
  bounds_listed v h t = ascending_listed (bounds_of vs p m) v n h (only_listed (p v) (bound_of v) t)

  pub bounds_sorted : Sorted (ascending (bounds_of vs p m) n)
  unfolding swaps
  bounds_sorted = ascending_sorted (record {
    own = λ v. only_every (p v) (bound_of v) (λ e. (e.variable ≡ v) × (e.mark ≤ 3)) (λ t. (refl, few v));
    sorted = λ v. only_sorted (p v) (bound_of v);
  }) n
    where
      few : (v : ℕ) → cond (from_above (variable_in vs v)) bound_above bound ≤ 3
      few v = cases (from_above (variable_in vs v)) (λ t. cond t bound_above bound ≤ 3) (λ t. omega arith) (λ t. omega arith)

module _ (p q : ℕ → Bool) (θ : Valuation) (n : ℕ) where
  each : (Q : Entry → Type 0) (v : ℕ) → (T (p v) → Q (entry v at_most (θ v))) → (T (q v) → Q (entry v at_least (θ v))) → Every Q (conditions_of p q θ v)
  each Q v h k =
      every_append (only (p v) (entry v at_most (θ v))) (only (q v) (entry v at_least (θ v))) Q (only_every (p v) (entry v at_most (θ v)) Q h)
      (only_every (q v) (entry v at_least (θ v)) Q k)

  pub conditions_every : (Q : Entry → Type 0) → ((v : ℕ) → T (p v) → Q (entry v at_most (θ v))) → ((v : ℕ) → T (q v) → Q (entry v at_least (θ v)))
      → Every Q (ascending (conditions_of p q θ) n)
  conditions_every Q h k = ascending_every (conditions_of p q θ) Q (λ v. each Q v (h v) (k v)) n

  pub most_listed : (v : ℕ) → v < n → T (p v) → Listed (entry v at_most (θ v)) (ascending (conditions_of p q θ) n)
  most_listed v h t = ascending_listed (conditions_of p q θ) v n h
      (listed_left (only (p v) (entry v at_most (θ v))) (only (q v) (entry v at_least (θ v))) (only_listed (p v) (entry v at_most (θ v)) t))

  pub least_listed : (v : ℕ) → v < n → T (q v) → Listed (entry v at_least (θ v)) (ascending (conditions_of p q θ) n)
  least_listed v h t = ascending_listed (conditions_of p q θ) v n h
      (listed_right (only (p v) (entry v at_most (θ v))) (only (q v) (entry v at_least (θ v))) (only_listed (q v) (entry v at_least (θ v)) t))

  pub conditions_sorted : Sorted (ascending (conditions_of p q θ) n)
  conditions_sorted = ascending_sorted (record {
    own = λ v. each (λ e. (e.variable ≡ v) × (e.mark ≤ 3)) v (λ t. (refl, omega arith)) (λ t. (refl, omega arith));
    sorted =
        λ v. sorted_append (only (p v) (entry v at_most (θ v))) (only (q v) (entry v at_least (θ v))) (only_sorted (p v) (entry v at_most (θ v)))
        (only_sorted (q v) (entry v at_least (θ v)))
        (λ i j a b. let x = only_every (p v) (entry v at_most (θ v)) (λ e. key e ≡ 4 * v + 1) (λ t. refl) i a in
        let y = only_every (q v) (entry v at_least (θ v)) (λ e. key e ≡ 4 * v + 2) (λ t. refl) j b in omega arith);
  }) n

-- ---- read off the bytes

bytes_at : (es : List Entry) (rest : List ℕ) (i k : ℕ) → i < length es → k < 4 → get_or (bytes_in es ++ rest) (4 * i + k) 0 ≡ get_or (entry_bytes (entry_in es i)) k 0
unfolding bytes_in bytes_of
bytes_at [] rest i k h l = let z : ⊥ = omega arith in absurd z
bytes_at (e ∷ es) rest zero k h l = let q : 4 * 0 + k ≡ k = omega arith in ap (λ j. get_or (bytes_in (e ∷ es) ++ rest) j 0) q ∙ first k l
  where
    first : (k : ℕ) → k < 4 → get_or (bytes_in (e ∷ es) ++ rest) k 0 ≡ get_or (entry_bytes e) k 0
    first zero l = refl
    first (suc zero) l = refl
    first (suc (suc zero)) l = refl
    first (suc (suc (suc zero))) l = refl
    first (suc (suc (suc (suc k)))) l = let z : ⊥ = omega arith in absurd z
bytes_at (e ∷ es) rest (suc i) k h l =
    let q : 4 * suc i + k ≡ suc (suc (suc (suc (4 * i + k)))) = omega arith in
    ap (λ j. get_or (bytes_in (e ∷ es) ++ rest) j 0) q ∙ bytes_at es rest i k (omega arith) l

module _ (es : List Entry) (rest : List ℕ) (i : ℕ) (h : i < length es) where
  pub variable_at_is : variable_at (bytes_in es ++ rest) i ≡ (entry_in es i).variable
  variable_at_is = let q : 4 * i ≡ 4 * i + 0 = omega arith in ap (λ j. get_or (bytes_in es ++ rest) j 0) q ∙ bytes_at es rest i 0 h (omega arith)

  pub mark_at_is : mark_at (bytes_in es ++ rest) i ≡ (entry_in es i).mark
  mark_at_is = bytes_at es rest i 1 h (omega arith)

  pub number_at_is : nat_abs (entry_in es i).number < 32768 → number_at (bytes_in es ++ rest) i ≡ (entry_in es i).number
  unfolding bytes_of
  number_at_is small =
      let q : 4 * i + 2 + 1 ≡ 4 * i + 3 = omega arith in
      ap₂ signed (bytes_at es rest i 2 h (omega arith)) (ap (λ j. get_or (bytes_in es ++ rest) j 0) q ∙ bytes_at es rest i 3 h (omega arith))
      ∙ read_written (entry_in es i).number small
