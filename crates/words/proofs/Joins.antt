-- Words that take in others, one after the other.
use mathlib.Core.Path.{◌≡◌, refl, sym, ap, ap₂, ◌∙◌}
use mathlib.Core.Bool.{◌||◌}
use mathlib.Core.List.{List}
use Prim.Native.Nat.{ℕ, ◌+◌, ◌/◌, ◌%◌, ◌≤◌, ◌<◌}
use native.Mathlib.Nat.{not-suc-le-zero, zero-add}
use native.Mathlib.Decide.{ℕ_discrete, dec_lt}
use native.Mathlib.Omega.{arith}
use lib.ListN.{length, get_or, set, length-set, get_or-eq_default}
use lib.Seq.{get_or-set_same, get_or-set_other}
use lib.Bits.{bit_or, or_zero_r}
use Rattle.words.specs.Bit.{word_bits, bit, has}
use Rattle.words.proofs.Bits.{bit_or_lem}

-- ws is vs where the t words from p on have taken in those of us from q on
pub record Taken (vs us ws : List ℕ) (p q t : ℕ) : Type 0 where
  pub long : length ws ≡ length vs
  pub within : (m : ℕ) → m < t → get_or ws (p + m) 0 ≡ bit_or (get_or vs (p + m) 0) (get_or us (q + m) 0)
  pub below : (m : ℕ) → m < p → get_or ws m 0 ≡ get_or vs m 0
  pub above : (m : ℕ) → p + t ≤ m → get_or ws m 0 ≡ get_or vs m 0

-- none yet
pub taken_none : (vs us : List ℕ) (p q : ℕ) → Taken vs us vs p q 0
taken_none vs us p q = record { long = refl; within = λ m l. absurd (not-suc-le-zero l); below = λ m l. refl; above = λ m l. refl }

-- word t
pub taken_more : (vs us ws : List ℕ) (p q t at w : ℕ) → at ≡ p + t → at < length vs → w ≡ get_or us (q + t) 0 → Taken vs us ws p q t
    → Taken vs us (set ws at (bit_or (get_or ws at 0) w)) p q (t + 1)
taken_more vs us ws p q t at w here h is s =
    record {
      long = length-set ws at x ∙ s.long;
      within = λ m l. within m l (ℕ_discrete m t);
      below = λ m l. get_or-set_other ws at m x 0 (omega arith) ∙ s.below m l;
      above = λ m l. get_or-set_other ws at m x 0 (omega arith) ∙ s.above m (omega arith);
    }
  where
    x : ℕ
    x = bit_or (get_or ws at 0) w

    within : (m : ℕ) → m < t + 1 → Dec (m ≡ t) → get_or (set ws at x) (p + m) 0 ≡ bit_or (get_or vs (p + m) 0) (get_or us (q + m) 0)
    within m l (yes e) =
        let b : at < length ws = omega (arith, s.long) in
        rw (e, ← here) (get_or-set_same ws at x 0 b ∙ ap₂ bit_or (s.above at (omega arith)) is)
    within m l (no f) = get_or-set_other ws at (p + m) x 0 (λ r. f (omega arith)) ∙ s.within m (omega arith)

-- all of them
pub taken_whole : (vs us ws : List ℕ) (t : ℕ) → length us ≡ length vs → length vs ≤ t → Taken vs us ws 0 0 t
    → (j : ℕ) → has ws j ≡ (has vs j || has us j)
unfolding has
taken_whole vs us ws t same all s j =
    ap (λ (w : ℕ). bit w (j % word_bits)) (word (j / word_bits) (dec_lt (j / word_bits) t))
    ∙ bit_or_lem (get_or vs (j / word_bits) 0) (get_or us (j / word_bits) 0) (j % word_bits)
  where
    word : (m : ℕ) → Dec (m < t) → get_or ws m 0 ≡ bit_or (get_or vs m 0) (get_or us m 0)
    word m (yes l) = simp zero-add at (s.within m l)
    word m (no f) =
        s.above m (omega arith) ∙ sym (ap (bit_or (get_or vs m 0)) (get_or-eq_default us 0 (omega arith)) ∙ or_zero_r (get_or vs m 0))
