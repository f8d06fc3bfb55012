-- A step has one answer for all sets, and leaves them in one way.
use mathlib.Core.Path.{◌≡◌, refl, sym, ◌∙◌}
use mathlib.Core.Bool.{Bool, true, false, ◌||◌, ◌&&◌}
use mathlib.Core.List.{List}
use Prim.Native.Nat.{ℕ, ◌+◌, ◌*◌, ◌/◌, ◌≤◌, ◌<◌}
use native.Mathlib.Decide.{dec_lt, dec_le}
use native.Mathlib.Omega.{arith}
use lib.Dec.{ltb}
use lib.ListN.{length}
use borrow.Author.Tests.{le-ltb}
use Rattle.format.specs.Limits.{max_variables}
use Rattle.words.specs.Bit.{word_bits, word_count}
use Rattle.words.proofs.WordBits.{WordsIn}
use Rattle.reach.specs.Rows.{row_has}
use Rattle.reach.specs.Stepping.{Lent, TakenIn, Steps, stepped, no_round}
use Rattle.reach.proofs.RowsDetermined.{same_rows, none_past, rows_of, rows_length_is, rows_words, rows_are}

pub steps_unique : {ws ws' ws'' : List ℕ} {n k : ℕ} {r r₂ : Bool} → WordsIn ws' → WordsIn ws'' → Steps ws n k r ws' → Steps ws n k r₂ ws''
    → (r ≡ r₂) × (ws' ≡ ws'')
steps_unique w v (stepped l h s) (stepped m g t) =
    (refl, same_rows w v (s.long ∙ sym t.long) (λ a b hb. s.is a b hb ∙ sym (t.is a b hb)))
steps_unique w v (stepped l h s) (no_round f) = absurd (f l h)
steps_unique w v (no_round f) (stepped l h s) = absurd (f l h)
steps_unique w v (no_round f) (no_round g) = (refl, refl)

-- whether so many variables have sets
pub lent_or : (ws : List ℕ) (n : ℕ) → Dec (Lent ws n)
lent_or ws n = go (dec_le n max_variables) (dec_le (word_count * n) (length ws))
  where
    go : Dec (n ≤ max_variables) → Dec (word_count * n ≤ length ws) → Dec (Lent ws n)
    go (yes p) (yes q) = yes (record { few = p; room = q })
    go (yes p) (no g) = no (λ l. g l.room)
    go (no f) d = no (λ l. f l.few)

-- a round of a list of words is one
pub stepped_total : (ws : List ℕ) (n k : ℕ) → Lent ws n → (ws' : List ℕ) × WordsIn ws' × TakenIn ws ws' n k
stepped_total ws n k l =
    (rows_of after (length ws), rows_words after (length ws), record { long = rows_length_is after (length ws); is = rows_are after (length ws) none })
  where
    after : ℕ → ℕ → Bool
    after a b = row_has ws a b || (ltb a n && (row_has ws a k && row_has ws k b))

    none : (a b : ℕ) → b < max_variables → length ws ≤ word_count * a + b / word_bits → after a b ≡ false
    none a b hb past = let m = l.room in rw (none_past ws a b past, le-ltb a n (omega arith))

pub steps_total : {ws : List ℕ} → WordsIn ws → (n k : ℕ) → (r : Bool) × (ws' : List ℕ) × WordsIn ws' × Steps ws n k r ws'
steps_total {ws} w n k = go (lent_or ws n) (dec_lt k n)
  where
    go : Dec (Lent ws n) → Dec (k < n) → (r : Bool) × (ws' : List ℕ) × WordsIn ws' × Steps ws n k r ws'
    go (yes l) (yes h) = let s = stepped_total ws n k l in (true, s.0, s.1, stepped l h s.2)
    go (yes l) (no g) = (false, ws, w, no_round (λ m. g))
    go (no f) d = (false, ws, w, no_round (λ l h. f l))
