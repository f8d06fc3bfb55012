-- Laws of rows: what each row has after words of the list are stored.
use mathlib.Core.Path.{◌≡◌, refl, sym, ap, ap₂, ◌∙◌}
use mathlib.Core.Logic.{◌≢◌}
use mathlib.Core.Bool.{Bool, true, false, ◌||◌, ◌&&◌, or-false}
use mathlib.Core.List.{List}
use Prim.Native.Nat.{ℕ, ◌+◌, ◌*◌, ◌/◌, ◌%◌, ◌^◌, ◌≤◌, ◌<◌}
use native.Mathlib.Decide.{ℕ_discrete, dec_lt}
use native.Mathlib.Omega.{arith}
use lib.Dec.{eqb}
use lib.ListN.{length, get_or, set}
use lib.Bits.{bit_or, or_zero_r}
use lib.Seq.{set-get_or}
use borrow.Author.Tests.{eq-eqb, ne_eqb}
use Rattle.format.specs.Limits.{max_variables}
use Rattle.words.specs.Bit.{word_bits, word_count, bit, has, one_if}
use Rattle.reach.specs.Rows.{rows_length, row_has, Marked, MarkedWhere, Joined}
use Rattle.words.proofs.Bits.{bit_or_lem, has_insert, one_shl}
use Rattle.words.proofs.Joins.{Taken, taken_more}

-- ws is vs where the first t words of row i have taken in those of row k
abbrev pub RowTaken : List ℕ → List ℕ → ℕ → ℕ → ℕ → Type 0
RowTaken vs ws i k t = Taken vs vs ws (word_count * i) (word_count * k) t

-- word t, which neither row has lost
pub row_more : (vs ws : List ℕ) (i k t : ℕ) → t < word_count → word_count * (i + 1) ≤ length vs → RowTaken vs ws i k t
    → RowTaken vs (set ws (word_count * i + t) (bit_or (get_or ws (word_count * i + t) 0) (get_or ws (word_count * k + t) 0))) i k (t + 1)
row_more vs ws i k t ht hi s = taken_more vs vs ws (word_count * i) (word_count * k) t _ _ refl (omega arith) (of_k (dec_lt k i)) s
  where
    of_k : Dec (k < i) → get_or ws (word_count * k + t) 0 ≡ get_or vs (word_count * k + t) 0
    of_k (yes l) = s.below (word_count * k + t) (omega arith)
    of_k (no g) = s.above (word_count * k + t) (omega arith)

-- row i takes in row k
pub row_all : (vs ws : List ℕ) (i k t : ℕ) → word_count ≤ t → t ≤ word_count → RowTaken vs ws i k t → Joined (row_has vs) (row_has ws) i k
unfolding row_has
row_all vs ws i k t l g s = record { is = λ a b hb. go a b hb (ℕ_discrete a i) }
  where
    other : (a b : ℕ) → b < max_variables → a ≢ i → Dec (a < i) → get_or ws (word_count * a + b / word_bits) 0 ≡ get_or vs (word_count * a + b / word_bits) 0
    other a b hb f (yes h) = s.below (word_count * a + b / word_bits) (omega arith)
    other a b hb f (no h) = s.above (word_count * a + b / word_bits) (omega arith)

    go : (a b : ℕ) → b < max_variables → Dec (a ≡ i) → row_has ws a b ≡ (row_has vs a b || (eqb a i && row_has vs k b))
    go a b hb (yes e) =
        ap (λ (x : ℕ). row_has ws x b) e
        ∙ ap (λ (w : ℕ). bit w (b % word_bits)) (s.within (b / word_bits) (omega arith))
        ∙ bit_or_lem (get_or vs (word_count * i + b / word_bits) 0) (get_or vs (word_count * k + b / word_bits) 0) (b % word_bits)
        ∙ ap₂ (λ (x : ℕ) (y : Bool). row_has vs x b || (y && row_has vs k b)) (sym e) (sym (eq-eqb a i e))
    go a b hb (no f) =
        ap (λ (w : ℕ). bit w (b % word_bits)) (other a b hb f (dec_lt a i))
        ∙ sym (or-false (row_has vs a b)) ∙ ap (λ (y : Bool). row_has vs a b || (y && row_has vs k b)) (sym (ne_eqb a i f))

-- the number of v of row i where all rows are one set
abbrev flat : ℕ → ℕ → ℕ
flat i v = max_variables * i + v

flat_word : (i v : ℕ) → v < max_variables → flat i v / word_bits ≡ word_count * i + v / word_bits
flat_word i v h = omega arith

flat-bit : (i v : ℕ) → v < max_variables → flat i v % word_bits ≡ v % word_bits
flat-bit i v h = omega arith

row_is : (ws : List ℕ) (i j : ℕ) → j < max_variables → has ws (flat i j) ≡ row_has ws i j
unfolding row_has has
row_is ws i j h = ap₂ (λ (k b : ℕ). bit (get_or ws k 0) b) (flat_word i j h) (flat-bit i j h)

flat_eq : (a b i v : ℕ) → b < max_variables → v < max_variables → Dec (a ≡ i) → Dec (b ≡ v) → eqb (flat a b) (flat i v) ≡ (eqb a i && eqb b v)
flat_eq a b i v hb hv (yes p) (yes q) = eq-eqb (flat a b) (flat i v) (omega arith) ∙ sym (ap₂ ◌&&◌ (eq-eqb a i p) (eq-eqb b v q))
flat_eq a b i v hb hv (yes p) (no g) = ne_eqb (flat a b) (flat i v) (λ e. g (omega arith)) ∙ sym (ap₂ ◌&&◌ (eq-eqb a i p) (ne_eqb b v g))
flat_eq a b i v hb hv (no f) d = ne_eqb (flat a b) (flat i v) (λ e. f (omega arith)) ∙ sym (ap (λ (x : Bool). x && eqb b v) (ne_eqb a i f))

-- the words of the rows with one more bit set
abbrev marked : List ℕ → ℕ → ℕ → List ℕ
marked ws i v = set ws (word_count * i + v / word_bits) (bit_or (get_or ws (word_count * i + v / word_bits) 0) (2 ^ (v % word_bits)))

-- row i takes in v
pub mark_law : (ws : List ℕ) (i v : ℕ) → length ws ≡ rows_length → i < max_variables → v < max_variables
    → Marked (row_has ws) (row_has (marked ws i v)) i v
mark_law ws i v len hi hv = record {
  is = λ a b ha hb. sym (row_is _ a b hb) ∙ one (flat a b)
      ∙ ap₂ ◌||◌ (flat_eq a b i v hb hv (ℕ_discrete a i) (ℕ_discrete b v)) (row_is ws a b hb);
}
  where
    one : (x : ℕ) → has (marked ws i v) x ≡ (eqb x (flat i v) || has ws x)
    one = let e = flat_word i v hv in let f = flat-bit i v hv in rw (e, f) at (has_insert ws (flat i v) (omega arith))

-- row i takes in v where a test says so
pub mark_where_law : (test : Bool) (ws : List ℕ) (i v : ℕ) → length ws ≡ rows_length → i < max_variables → v < max_variables
    → MarkedWhere test (row_has ws)
    (row_has (set ws (word_count * i + v / word_bits) (bit_or (get_or ws (word_count * i + v / word_bits) 0) (one_if test * 2 ^ (v % word_bits) % 2 ^ word_bits)))) i v
mark_where_law true ws i v len hi hv = record { is = rw (one_shl (v % word_bits) (omega arith)) (mark_law ws i v len hi hv).is }
mark_where_law false ws i v len hi hv = record { is = λ a b ha hb. ap (λ (us : List ℕ). row_has us a b) same }
  where
    at : ℕ
    at = word_count * i + v / word_bits

    none : 0 * 2 ^ (v % word_bits) % 2 ^ word_bits ≡ 0
    none = omega arith

    same : set ws at (bit_or (get_or ws at 0) (0 * 2 ^ (v % word_bits) % 2 ^ word_bits)) ≡ ws
    same = ap (λ (n : ℕ). set ws at (bit_or (get_or ws at 0) n)) none ∙ ap (set ws at) (or_zero_r (get_or ws at 0)) ∙ set-get_or ws at 0
