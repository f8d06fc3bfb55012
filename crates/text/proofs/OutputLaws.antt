-- A text that is written into an output, one part after another.
use Prim.Native.Nat.{ℕ, suc, ◌+◌, ◌≤◌, ◌<◌}
use mathlib.Core.Path.{◌≡◌, refl, sym, ap, ap₂, ◌∙◌, subst}
use mathlib.Core.List.{List, [], ◌∷◌, ◌++◌, append_assoc, append-nil}
use native.Mathlib.Numerals.{add-one}
use native.Mathlib.Omega.{arith}
use lib.ListN.{length, get_or, set, take, drop, length-append, length-take, length-drop, drop_of_length-le}
use lib.Seq.{take_all, take-append-le, drop-cons, append_snoc, set_at, take-suc}
use Rattle.text.specs.Output.{Holds, Appends}

-- ---- the start and the end of a text

pub holds_none : (b : List ℕ) → Holds [] 0 b b
holds_none b = record { counted = refl; bytes = ap (λ (l : List ℕ). l ++ b) (sym (take_all (length b) [] (omega arith))) }

holds_length : {t : List ℕ} {n : ℕ} {b b' : List ℕ} → Holds t n b b' → length b' ≡ length b
holds_length {t} {n} {b} h =
    omega (arith, h.counted, ap length h.bytes, length-append (take (length b) t) (drop n b), length-take (length b) t, length-drop n b)

-- ---- one byte

pub put_here : (b : List ℕ) (at x : ℕ) → at < length b → Appends (x ∷ []) at (at + 1) b (set b at x)
put_here b at x h = record {
  next = refl;
  holds = λ t b₀ k. record {
    counted = omega (arith, k.counted, length-append t (x ∷ []));
    bytes =
        let l = holds_length k in
        let n = k.counted in
        let e : b ≡ t ++ get_or b₀ at 0 ∷ drop (suc at) b₀ =
        k.bytes ∙ ap₂ (λ (p q : List ℕ). p ++ q) (take_all (length b₀) t (omega arith)) (drop-cons b₀ at 0 (omega arith)) in
        let f : take (length b₀) (t ++ x ∷ []) ≡ t ++ x ∷ [] = take_all (length b₀) (t ++ x ∷ []) (omega (arith, length-append t (x ∷ []))) in
        ap (λ (l : List ℕ). set l at x) e
        ∙ set_at t (get_or b₀ at 0) (drop (suc at) b₀) x at (sym n)
        ∙ sym (append_snoc t x (drop (suc at) b₀))
        ∙ ap₂ (λ (p q : List ℕ). p ++ q) (sym f) (ap (λ (j : ℕ). drop j b₀) (sym (add-one at)));
  };
}

pub put_past : (b : List ℕ) (at x : ℕ) → length b ≤ at → Appends (x ∷ []) at (at + 1) b b
put_past b at x h = record {
  next = refl;
  holds = λ t b₀ k. record {
    counted = omega (arith, k.counted, length-append t (x ∷ []));
    bytes =
        let l = holds_length k in
        let n = k.counted in
        k.bytes
        ∙ ap₂ (λ (p q : List ℕ). p ++ q) (sym (take-append-le (length b₀) t (x ∷ []) (omega arith)))
        (drop_of_length-le b₀ {i = at} (omega arith) ∙ sym (drop_of_length-le b₀ {i = at + 1} (omega arith)));
  };
}

-- ---- none, and one part after another

pub appends_none : (at : ℕ) (b : List ℕ) → Appends [] at at b b
appends_none at b = record {
  next = omega arith;
  holds = λ t b₀ k. subst (λ (l : List ℕ). Holds l at b₀ b) (sym (append-nil t)) k;
}

pub appends_both : {x y : List ℕ} {i j k : ℕ} {b c d : List ℕ} → Appends x i j b c → Appends y j k c d → Appends (x ++ y) i k b d
appends_both {x} {y} {i} {j} {k} {b} {c} {d} u w = record {
  next = omega (arith, u.next, w.next, length-append x y);
  holds = λ t b₀ h. subst (λ (l : List ℕ). Holds l k b₀ d) (append_assoc t x y) (w.holds (t ++ x) b₀ (u.holds t b₀ h));
}

pub appends_as : {x y : List ℕ} {i k : ℕ} {b d : List ℕ} → x ≡ y → Appends x i k b d → Appends y i k b d
appends_as {x} {y} {i} {k} {b} {d} e w = subst (λ (l : List ℕ). Appends l i k b d) e w

-- ---- a word's bytes, one after the other

pub word_more : (w : List ℕ) (i : ℕ) {at j k : ℕ} {b c d : List ℕ} → i < length w → Appends (take i w) at j b c → Appends (get_or w i 0 ∷ []) j k c d
    → Appends (take (i + 1) w) at k b d
word_more w i h u v = appends_as (sym (ap (λ (j : ℕ). take j w) (add-one i) ∙ take-suc w i 0 h)) (appends_both u v)

pub word_end : (w : List ℕ) (i : ℕ) {at k : ℕ} {b d : List ℕ} → length w ≤ i → Appends (take i w) at k b d → Appends w at k b d
word_end w i h u = appends_as (take_all i w h) u
