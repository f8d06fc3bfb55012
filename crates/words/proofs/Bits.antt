-- Laws of `bit` and `has`.
use mathlib.Core.Path.{◌≡◌, refl, sym, ap, ap₂, ◌∙◌}
use mathlib.Core.Bool.{Bool, true, false, ◌||◌, ◌&&◌, not, or_comm, or_assoc}
use mathlib.Core.List.{List, [], ◌∷◌}
use Prim.Native.Nat.{ℕ, zero, suc, ◌*◌, ◌/◌, ◌%◌, ◌^◌, ◌+◌, ◌-◌, ◌≤◌, ◌<◌, max}
use native.Mathlib.Nat.{mod-lt, pow-suc, zero-div, one-mul}
use native.Mathlib.Decide.{ℕ_discrete, dec_lt}
use native.Mathlib.Numerals.{one-add}
use native.Mathlib.Omega.{arith}
use lib.Dec.{eqb, ltb, eqb-zero-suc, eqb-suc-zero, eqb-suc-suc}
use lib.ListN.{length, get_or, set, replicate, get_or-eq_default}
use lib.Seq.{get_or-set_same, get_or-set_other}
use lib.Pow.{shr-shr, shl_exact}
use lib.Bits.{bit_or, or_shr, or_step}
use borrow.Author.Tests.{eq-eqb, ne_eqb, eqb-true, lt-ltb, le-ltb}
use Rattle.words.specs.Bit.{word_bits, word_count, bit, has}

-- bit j + 1 is bit j of the half
pub bit_suc : (w j : ℕ) → bit w (suc j) ≡ bit (w / 2) j
unfolding bit
bit_suc w j = ap (λ (x : ℕ). eqb (x % 2) 1) (ap (λ (k : ℕ). w / 2 ^ k) (sym (one-add j)) ∙ sym (shr-shr w 1 j))

pub bit_zero : (j : ℕ) → bit 0 j ≡ false
unfolding bit
bit_zero j = ap (λ (x : ℕ). eqb (x % 2) 1) (zero-div (2 ^ j))

double_even : (n : ℕ) → n * 2 / 1 % 2 ≡ 0
double_even n = omega arith

double_half : (n : ℕ) → n * 2 / 2 ≡ n
double_half n = omega arith

-- a power of two has one bit
pub bit_pow : (k j : ℕ) → bit (2 ^ k) j ≡ eqb j k
unfolding bit
bit_pow zero zero = refl
bit_pow zero (suc j) = bit_suc 1 j ∙ bit_zero j ∙ sym (eqb-suc-zero j)
bit_pow (suc k) zero = ap (λ (x : ℕ). eqb (x / 1 % 2) 1) (pow-suc 2 k) ∙ ap (λ (x : ℕ). eqb x 1) (double_even (2 ^ k)) ∙ sym (eqb-zero-suc k)
bit_pow (suc k) (suc j) =
    bit_suc (2 ^ suc k) j ∙ ap (λ (x : ℕ). bit (x / 2) j) (pow-suc 2 k) ∙ ap (λ (x : ℕ). bit x j) (double_half (2 ^ k))
    ∙ bit_pow k j ∙ sym (eqb-suc-suc j k)

pub no_two : (x : ℕ) → suc (suc x) < 2 → ⊥
no_two x p = omega arith

max-bit : (x y : ℕ) → x < 2 → y < 2 → eqb (max x y) 1 ≡ (eqb x 1 || eqb y 1)
max-bit zero zero p q = refl
max-bit zero (suc zero) p q = refl
max-bit zero (suc (suc y)) p q = absurd (no_two y q)
max-bit (suc zero) zero p q = refl
max-bit (suc zero) (suc zero) p q = refl
max-bit (suc zero) (suc (suc y)) p q = absurd (no_two y q)
max-bit (suc (suc x)) y p q = absurd (no_two x p)

max_low : (q x y : ℕ) → x < 2 → y < 2 → (q * 2 + max x y) % 2 ≡ max x y
max_low q x y hx hy = omega arith

pub bit_or_lem : (a b j : ℕ) → bit (bit_or a b) j ≡ (bit a j || bit b j)
unfolding bit
bit_or_lem a b j =
    let x = a / 2 ^ j in
    let y = b / 2 ^ j in
    ap (λ (z : ℕ). eqb (z % 2) 1) (or_shr a b j ∙ or_step x y)
    ∙ ap (λ (z : ℕ). eqb z 1) (max_low (bit_or (x / 2) (y / 2)) (x % 2) (y % 2) (mod-lt x (omega arith)) (mod-lt y (omega arith)))
    ∙ max-bit (x % 2) (y % 2) (mod-lt x (omega arith)) (mod-lt y (omega arith))

-- `1 << k`
pub one_shl : (k : ℕ) → k < word_bits → 1 * 2 ^ k % 2 ^ word_bits ≡ 2 ^ k
one_shl k h = shl_exact 1 k word_bits (omega arith) (omega arith) ∙ one-mul (2 ^ k)

-- two numbers in one word are the same where their bits are
same_bit : (i v : ℕ) → i / word_bits ≡ v / word_bits → Dec (i ≡ v) → eqb (i % word_bits) (v % word_bits) ≡ eqb i v
same_bit i v e (yes p) = eq-eqb (i % word_bits) (v % word_bits) (ap (λ (x : ℕ). x % word_bits) p) ∙ sym (eq-eqb i v p)
same_bit i v e (no f) = ne_eqb (i % word_bits) (v % word_bits) (λ q. f (omega arith)) ∙ sym (ne_eqb i v f)

-- the words with one more bit set
abbrev pub inserted : List ℕ → ℕ → List ℕ
inserted ws v = set ws (v / word_bits) (bit_or (get_or ws (v / word_bits) 0) (2 ^ (v % word_bits)))

-- a word stored where v's stood: v is told of by its bit, and every other number keeps what it had
pub has_store : (f : Bool → Bool → Bool) → ((b : Bool) → f false b ≡ b) → (ws : List ℕ) (v x : ℕ) → v / word_bits < length ws
    → ((j : ℕ) → bit x j ≡ f (eqb j (v % word_bits)) (bit (get_or ws (v / word_bits) 0) j))
    → (i : ℕ) → has (set ws (v / word_bits) x) i ≡ f (eqb i v) (has ws i)
unfolding has
has_store f keeps ws v x h told i = go (ℕ_discrete (i / word_bits) (v / word_bits))
  where
    go : Dec (i / word_bits ≡ v / word_bits) → has (set ws (v / word_bits) x) i ≡ f (eqb i v) (has ws i)
    go (yes e) =
        ap (λ (k : ℕ). bit (get_or (set ws (v / word_bits) x) k 0) (i % word_bits)) e
        ∙ ap (λ (y : ℕ). bit y (i % word_bits)) (get_or-set_same ws (v / word_bits) x 0 h)
        ∙ told (i % word_bits)
        ∙ ap₂ f (same_bit i v e (ℕ_discrete i v)) (ap (λ (k : ℕ). bit (get_or ws k 0) (i % word_bits)) (sym e))
    go (no g) =
        ap (λ (y : ℕ). bit y (i % word_bits)) (get_or-set_other ws (v / word_bits) (i / word_bits) x 0 g)
        ∙ sym (ap (λ (b : Bool). f b (has ws i)) (ne_eqb i v (λ p. g (ap (λ (y : ℕ). y / word_bits) p))) ∙ keeps (has ws i))

pub has_insert : (ws : List ℕ) (v : ℕ) → v / word_bits < length ws → (i : ℕ) → has (inserted ws v) i ≡ (eqb i v || has ws i)
has_insert ws v h = has_store ◌||◌ (λ b. refl) ws v (bit_or (get_or ws (v / word_bits) 0) (2 ^ (v % word_bits))) h told
  where
    told : (j : ℕ) → bit (bit_or (get_or ws (v / word_bits) 0) (2 ^ (v % word_bits))) j ≡ (eqb j (v % word_bits) || bit (get_or ws (v / word_bits) 0) j)
    told j =
        let w = get_or ws (v / word_bits) 0 in
        bit_or_lem w (2 ^ (v % word_bits)) j ∙ or_comm (bit w j) (bit (2 ^ (v % word_bits)) j)
        ∙ ap (λ (b : Bool). b || bit w j) (bit_pow (v % word_bits) j)

-- a set bit counts in its number
bit_least : (k w : ℕ) → bit w k ≡ true → 2 ^ k ≤ w
unfolding bit
bit_least zero w e = let q : w / 1 % 2 ≡ 1 = eqb-true (w / 1 % 2) 1 e in omega arith
bit_least (suc k) w e = let h = bit_least k (w / 2) (sym (bit_suc w k) ∙ e) in let p = pow-suc 2 k in omega arith

-- a set bit taken off
bit-minus : (k w j : ℕ) → bit w k ≡ true → bit (w - 2 ^ k) j ≡ (not (eqb j k) && bit w j)
unfolding bit
bit-minus zero w zero e =
    let q : w / 1 % 2 ≡ 1 = eqb-true (w / 1 % 2) 1 e in
    let r : (w - 1) / 1 % 2 ≡ 0 = omega arith in ap (λ (x : ℕ). eqb x 1) r
bit-minus zero w (suc j) e =
    let q : w / 1 % 2 ≡ 1 = eqb-true (w / 1 % 2) 1 e in
    let r : (w - 1) / 2 ≡ w / 2 = omega arith in
    bit_suc (w - 1) j ∙ ap (λ (x : ℕ). bit x j) r ∙ sym (bit_suc w j) ∙ ap (λ (b : Bool). not b && bit w (suc j)) (sym (eqb-suc-zero j))
bit-minus (suc k) w zero e =
    let l = bit_least (suc k) w e in
    let p = pow-suc 2 k in
    let r : (w - 2 ^ suc k) / 1 % 2 ≡ w / 1 % 2 = omega arith in
    ap (λ (x : ℕ). eqb x 1) r ∙ ap (λ (b : Bool). not b && bit w zero) (sym (eqb-zero-suc k))
bit-minus (suc k) w (suc j) e =
    let l = bit_least (suc k) w e in
    let p = pow-suc 2 k in
    let r : (w - 2 ^ suc k) / 2 ≡ w / 2 - 2 ^ k = omega arith in
    bit_suc (w - 2 ^ suc k) j ∙ ap (λ (x : ℕ). bit x j) r ∙ bit-minus k (w / 2) j (sym (bit_suc w k) ∙ e)
    ∙ ap₂ (λ (b b' : Bool). not b && b') (sym (eqb-suc-suc j k)) (sym (bit_suc w j))

-- the words with one bit fewer set
abbrev pub dropped : List ℕ → ℕ → List ℕ
dropped ws v = set ws (v / word_bits) (get_or ws (v / word_bits) 0 - 2 ^ (v % word_bits))

-- a member's bit can be taken off its word
pub has_least : (ws : List ℕ) (v : ℕ) → has ws v ≡ true → 2 ^ (v % word_bits) ≤ get_or ws (v / word_bits) 0
unfolding has
has_least ws v e = bit_least (v % word_bits) (get_or ws (v / word_bits) 0) e

pub has_drop : (ws : List ℕ) (v : ℕ) → v / word_bits < length ws → has ws v ≡ true
    → (i : ℕ) → has (dropped ws v) i ≡ (not (eqb i v) && has ws i)
unfolding has
has_drop ws v h e =
    has_store (λ (b b' : Bool). not b && b') (λ b. refl) ws v (get_or ws (v / word_bits) 0 - 2 ^ (v % word_bits)) h
    (λ j. bit-minus (v % word_bits) (get_or ws (v / word_bits) 0) j e)

-- nothing is lost where v is not in the set
pub drop_none : (ws : List ℕ) (v : ℕ) → has ws v ≡ false → (i : ℕ) → has ws i ≡ (not (eqb i v) && has ws i)
drop_none ws v e i = go (ℕ_discrete i v)
  where
    go : Dec (i ≡ v) → has ws i ≡ (not (eqb i v) && has ws i)
    go (yes p) = ap (has ws) p ∙ e ∙ ap (λ (b : Bool). not b && has ws i) (sym (eq-eqb i v p))
    go (no f) = ap (λ (b : Bool). not b && has ws i) (sym (ne_eqb i v f))

below_more : (j i : ℕ) → Dec (j ≡ i) → Dec (j < i) → (eqb j i || ltb j i) ≡ ltb j (i + 1)
below_more j i (yes e) d = ap (λ (b : Bool). b || ltb j i) (eq-eqb j i e) ∙ sym (lt-ltb j (i + 1) (omega arith))
below_more j i (no f) (yes l) = ap₂ ◌||◌ (ne_eqb j i f) (lt-ltb j i l) ∙ sym (lt-ltb j (i + 1) (omega arith))
below_more j i (no f) (no g) = ap₂ ◌||◌ (ne_eqb j i f) (le-ltb j i (omega arith)) ∙ sym (le-ltb j (i + 1) (omega arith))

-- the numbers below i are added: none yet, and one more
pub fill_none : (ws : List ℕ) (j : ℕ) → has ws j ≡ (ltb j 0 || has ws j)
fill_none ws j = ap (λ (b : Bool). b || has ws j) (sym (le-ltb j 0 (omega arith)))

pub fill_more : (b : Bool) (j i : ℕ) → (eqb j i || (ltb j i || b)) ≡ (ltb j (i + 1) || b)
fill_more b j i = sym (or_assoc (eqb j i) (ltb j i) b) ∙ ap (λ (x : Bool). x || b) (below_more j i (ℕ_discrete j i) (dec_lt j i))

past : (xs : List ℕ) (k : ℕ) → length xs ≡ word_count → get_or xs (suc (suc (suc (suc k)))) 0 ≡ 0
past xs k e = get_or-eq_default xs 0 (omega arith)

-- the union, word by word
abbrev united : List ℕ → List ℕ → List ℕ
united xs ys =
    bit_or (get_or xs 0 0) (get_or ys 0 0) ∷ bit_or (get_or xs 1 0) (get_or ys 1 0)
    ∷ bit_or (get_or xs 2 0) (get_or ys 2 0) ∷ bit_or (get_or xs 3 0) (get_or ys 3 0) ∷ []

words_or : (xs ys : List ℕ) → length xs ≡ word_count → length ys ≡ word_count → (k : ℕ) → get_or (united xs ys) k 0 ≡ bit_or (get_or xs k 0) (get_or ys k 0)
words_or xs ys p q zero = refl
words_or xs ys p q (suc zero) = refl
words_or xs ys p q (suc (suc zero)) = refl
words_or xs ys p q (suc (suc (suc zero))) = refl
words_or xs ys p q (suc (suc (suc (suc k)))) = sym (ap₂ bit_or (past xs k p) (past ys k q))

pub has_union : (xs ys : List ℕ) → length xs ≡ word_count → length ys ≡ word_count → (i : ℕ) → has (united xs ys) i ≡ (has xs i || has ys i)
unfolding has
has_union xs ys p q i =
    ap (λ (w : ℕ). bit w (i % word_bits)) (words_or xs ys p q (i / word_bits))
    ∙ bit_or_lem (get_or xs (i / word_bits) 0) (get_or ys (i / word_bits) 0) (i % word_bits)

zeros : (m k : ℕ) → ◌≡◌ {A = ℕ} (get_or (replicate m 0) k 0) 0
zeros zero k = refl
zeros (suc m) zero = refl
zeros (suc m) (suc k) = zeros m k

-- words of zeros hold nothing
pub none_in : (m i : ℕ) → has (replicate m 0) i ≡ false
unfolding has
none_in m i = ap (λ (w : ℕ). bit w (i % word_bits)) (zeros m (i / word_bits)) ∙ bit_zero (i % word_bits)
