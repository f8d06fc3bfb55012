-- The members of a set, counted word by word.
use mathlib.Core.Path.{◌≡◌, refl, sym, ap, ap₂, ◌∙◌, subst}
use mathlib.Core.Bool.{Bool, true, false, ◌&&◌, not, true≢false}
use mathlib.Core.List.{List}
use Prim.Native.Nat.{ℕ, zero, suc, ◌+◌, ◌*◌, ◌/◌, ◌%◌, ◌^◌, ◌≤◌, ◌<◌}
use native.Mathlib.Nat.{add-zero, zero-add, suc-add}
use native.Mathlib.Numerals.{add-one, one-add}
use native.Mathlib.Decide.{ℕ_discrete}
use native.Mathlib.Omega.{arith}
use lib.Dec.{eqb}
use lib.Arith.{lt-one}
use lib.Pow.{shr_lt}
use lib.Count.{ones, ones_step}
use lib.ListN.{get_or}
use borrow.Author.Tests.{eq-eqb}
use Rattle.format.specs.Limits.{max_variables}
use Rattle.words.specs.Bit.{word_bits, bit, has, one_if, count_from, size_below}
use Rattle.words.proofs.Bits.{bit_suc}
use Rattle.words.proofs.WordBits.{lowest_is}

move : (x i : ℕ) → suc x + i ≡ x + suc i
move x i = omega arith

-- two tests that agree, each from its own start
count_ext : (p q : ℕ → Bool) (n a b : ℕ) → ((i : ℕ) → i < n → p (a + i) ≡ q (b + i)) → count_from p a n ≡ count_from q b n
unfolding count_from
count_ext p q zero a b h = refl
count_ext p q (suc n) a b h =
    ap₂ (λ (x : Bool) (y : ℕ). one_if x + y)
    (ap p (sym (add-zero a)) ∙ h 0 (omega arith) ∙ ap q (add-zero b))
    (count_ext p q n (suc a) (suc b) (λ i l. ap p (move a i) ∙ h (suc i) (omega arith) ∙ ap q (sym (move b i))))

-- a count in two parts
pub count_split : (p : ℕ → Bool) (m n a : ℕ) → count_from p a (m + n) ≡ count_from p a m + count_from p (a + m) n
unfolding count_from
count_split p zero n a =
    ap (λ (k : ℕ). count_from p a k) (zero-add n) ∙ ap (λ (k : ℕ). count_from p k n) (sym (add-zero a)) ∙ sym (zero-add (count_from p (a + zero) n))
count_split p (suc m) n a =
    ap (λ (k : ℕ). count_from p a k) (suc-add m n)
    ∙ ap (λ (k : ℕ). one_if (p a) + k) (count_split p m n (suc a) ∙ ap (λ (k : ℕ). count_from p (suc a) m + count_from p k n) (move a m))
    ∙ group (one_if (p a)) (count_from p (suc a) m) (count_from p (a + suc m) n)
  where
    group : (x y z : ℕ) → x + (y + z) ≡ x + y + z
    group x y z = omega arith

-- the set bits of a number of n digits
count_bits : (n w : ℕ) → w < 2 ^ n → ones w ≡ count_from (bit w) 0 n
unfolding count_from ones
count_bits zero w h = ap ones (lt-one h)
count_bits (suc n) w h =
    ones_step w
    ∙ ap₂ ◌+◌ (lowest_is w)
    (count_bits n (w / 2) (shr_lt n 1 (subst (λ (k : ℕ). w < 2 ^ k) (sym (add-one n)) h)) ∙ sym (count_ext (bit w) (bit (w / 2)) n 1 0 shifted))
  where
    shifted : (i : ℕ) → i < n → bit w (1 + i) ≡ bit (w / 2) (0 + i)
    shifted i l = ap (bit w) (one-add i) ∙ bit_suc w i ∙ ap (bit (w / 2)) (sym (zero-add i))

word : (ws : List ℕ) (t : ℕ) → get_or ws t 0 < 2 ^ word_bits → ones (get_or ws t 0) ≡ count_from (has ws) (word_bits * t) word_bits
unfolding has
word ws t h =
    count_bits word_bits (get_or ws t 0) h
    ∙ count_ext (bit (get_or ws t 0)) (has ws) word_bits 0 (word_bits * t) (λ i l. ap₂ (λ (k j : ℕ). bit (get_or ws k 0) j) (at t i l) (in_word t i l))
  where
    at : (t i : ℕ) → i < word_bits → t ≡ (word_bits * t + i) / word_bits
    at t i l = omega arith

    in_word : (t i : ℕ) → i < word_bits → 0 + i ≡ (word_bits * t + i) % word_bits
    in_word t i l = omega arith

-- the four words of a set
pub count_set : (ws : List ℕ) → ((t : ℕ) → get_or ws t 0 < 2 ^ word_bits)
    → ones (get_or ws 0 0) + ones (get_or ws 1 0) + ones (get_or ws 2 0) + ones (get_or ws 3 0) ≡ count_from (has ws) 0 max_variables
count_set ws h =
    let from : ℕ → ℕ = λ t. count_from (has ws) (word_bits * t) word_bits in
    ap₂ ◌+◌ (ap₂ ◌+◌ (ap₂ ◌+◌ (word ws 0 (h 0)) (word ws 1 (h 1))) (word ws 2 (h 2))) (word ws 3 (h 3))
    ∙ ap (λ (k : ℕ). k + from 2 + from 3) (sym (count_split (has ws) word_bits word_bits 0))
    ∙ ap (λ (k : ℕ). k + from 3) (sym (count_split (has ws) (word_bits * 2) word_bits 0))
    ∙ sym (count_split (has ws) (word_bits * 3) word_bits 0)

one_most : (b : Bool) → one_if b ≤ 1
one_most true = omega arith
one_most false = omega arith

most_from : (p : ℕ → Bool) (a n : ℕ) → count_from p a n ≤ n
unfolding count_from
most_from p a zero = omega arith
most_from p a (suc n) = omega (arith, one_most (p a), most_from p (suc a) n)

-- no more numbers than there are
pub count_most : (p : ℕ → Bool) (n : ℕ) → size_below p n ≤ n
count_most p n = most_from p 0 n

one_within : (x y : Bool) → (x ≡ true → y ≡ true) → one_if x ≤ one_if y
one_within true true h = omega arith
one_within true false h = absurd (true≢false (sym (h refl)))
one_within false y h = omega arith

-- what meets q meets p, among the n numbers from a on
abbrev Within : (ℕ → Bool) → (ℕ → Bool) → ℕ → ℕ → Type 0
Within q p a n = (j : ℕ) → a ≤ j → j < a + n → q j ≡ true → p j ≡ true

within_from : (q p : ℕ → Bool) (a n : ℕ) → Within q p a n → count_from q a n ≤ count_from p a n
unfolding count_from
within_from q p a zero h = omega arith
within_from q p a (suc n) h =
    omega (arith, one_within (q a) (p a) (h a (omega arith) (omega arith)), within_from q p (suc a) n (λ j l m. h j (omega arith) (omega arith)))

less_from : (q p : ℕ → Bool) (v a n : ℕ) → a ≤ v → v < a + n → q v ≡ false → p v ≡ true → Within q p a n → count_from q a n < count_from p a n
unfolding count_from
less_from q p v a zero l m out in-it h = let f : ⊥ = omega arith in absurd f
less_from q p v a (suc n) l m out in-it h = go (ℕ_discrete a v) (λ g. less_from q p v (suc a) n (omega arith) (omega arith) out in-it rest)
  where
    rest : Within q p (suc a) n
    rest j x y = h j (omega arith) (omega arith)

    go : Dec (a ≡ v) → ((a ≡ v → ⊥) → count_from q (suc a) n < count_from p (suc a) n) → count_from q a (suc n) < count_from p a (suc n)
    go (yes e) k =
        omega (arith, ap one_if (ap q e ∙ out), ap one_if (ap p e ∙ in-it), within_from q p (suc a) n rest)
    go (no g) k = omega (arith, one_within (q a) (p a) (h a (omega arith) (omega arith)), k g)

-- a set within another is smaller where it lacks one
pub count_less : (q p : ℕ → Bool) (v n : ℕ) → v < n → q v ≡ false → p v ≡ true → ((j : ℕ) → j < n → q j ≡ true → p j ≡ true)
    → size_below q n < size_below p n
count_less q p v n l out in-it h = less_from q p v 0 n (omega arith) (omega arith) out in-it (λ j x y. h j (omega arith))

-- a set that has lost a member
pub count_drop : (q p : ℕ → Bool) (v n : ℕ) → v < n → p v ≡ true → ((j : ℕ) → q j ≡ (not (eqb j v) && p j)) → size_below q n < size_below p n
count_drop q p v n l in-it h = count_less q p v n l (h v ∙ ap (λ (b : Bool). not b && p v) (eq-eqb v v refl)) in-it (λ j m e. kept j (eqb j v) (sym (h j) ∙ e))
  where
    kept : (j : ℕ) (b : Bool) → (not b && p j) ≡ true → p j ≡ true
    kept j true e = absurd (true≢false (sym e))
    kept j false e = e
