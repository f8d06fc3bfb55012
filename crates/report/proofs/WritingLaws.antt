-- A report whose entries are written, one after the other.
use Prim.Native.Nat.{ℕ, zero, suc, ◌+◌, ◌*◌, ◌/◌, ◌%◌, ◌-◌, ◌≤◌, ◌<◌}
use mathlib.Core.Path.{◌≡◌, refl, sym, ap, ap₂, ◌∙◌, subst}
use mathlib.Core.Bool.{Bool, true, false, not, cond, ◌||◌, ◌&&◌, true≢false}
use mathlib.Core.List.{List, [], ◌∷◌, ◌++◌, append_assoc, append-nil}
use native.Mathlib.Numerals.{add-one}
use native.Mathlib.Omega.{arith}
use lib.IntN.{ℤ}
use lib.ListN.{length, set, take, drop, length-append, take-append-drop}
use lib.Seq.{sets-eq, length-take-le, take_at, drop_at, drop-drop}
use mir.Syntax.{w16}
use mir.Val.{of_z}
use Rattle.format.specs.Limits.{max_variables}
use Rattle.format.specs.Numbers.{bytes_of}
use Rattle.words.specs.Bit.{NoneIn, count_from}
use Rattle.report.specs.Report.{Entry, entry, bytes_in, bound, bound_above, ascending, only, bounds_of}
use Rattle.report.specs.Written.{marked_of, marked, from_below_in, from_above_in, Wrote, Begins}
use Rattle.report.proofs.Entries.{ascending_skip, marked_count, bytes_append, bytes_length}
use Rattle.program.specs.Program.{variable_in}
use Rattle.program.specs.Variables.{from_above, swaps}
use Rattle.program.specs.Readings.{Valuation}
use Rattle.program.specs.declared.Variable.{Variable}

-- ---- one entry

stores : (b : List ℕ) (k : ℕ) {at₁ at₂ at₃ : ℕ} (v mark high low : ℕ) → at₁ ≡ suc k → at₂ ≡ suc (suc k) → at₃ ≡ suc (suc (suc k)) → k + 4 ≤ length b
    → set (set (set (set b k v) at₁ mark) at₂ high) at₃ low ≡ take k b ++ (v ∷ mark ∷ high ∷ low ∷ []) ++ drop (k + 4) b
stores b k v mark high low p q r h = rw (p, q, r) (sets-eq (v ∷ mark ∷ high ∷ low ∷ []) b k h)

pub wrote_one : (b : List ℕ) (i v mark : ℕ) (z : ℤ) {high low : ℕ} → 4 * (i + 1) ≤ length b → high ≡ of_z w16 z / 256 → low ≡ of_z w16 z % 256
    → Wrote (entry v mark z ∷ []) i (i + 1) b (set (set (set (set b (4 * i) v) (4 * i + 1) mark) (4 * i + 2) high) (4 * i + 3) low)
unfolding bytes_in bytes_of
wrote_one b i v mark z {high} {low} h p q =
    let e : 4 * i + 4 ≡ 4 * (i + 1) = omega arith in
    record {
      next = refl;
      bytes = stores b (4 * i) v mark high low (omega arith) (omega arith) (omega arith) (omega arith)
          ∙ ap₂ (λ (x y : ℕ). take (4 * i) b ++ (v ∷ mark ∷ x ∷ y ∷ []) ++ drop (4 * i + 4) b) p q
          ∙ ap (λ (k : ℕ). take (4 * i) b ++ (v ∷ mark ∷ of_z w16 z / 256 ∷ of_z w16 z % 256 ∷ []) ++ drop k b) e;
    }

-- ---- none, and one part after another

pub wrote_none : (i : ℕ) (b : List ℕ) → Wrote [] i i b b
unfolding bytes_in
wrote_none i b = record {
  next = omega arith;
  bytes = sym (ap (λ (r : List ℕ). r ++ drop (4 * i) b) (append-nil (take (4 * i) b)) ∙ take-append-drop (4 * i) b);
}

pub wrote_both : {es fs : List Entry} {i j k : ℕ} {b c d : List ℕ} → 4 * i ≤ length b → Wrote es i j b c → Wrote fs j k c d → Wrote (es ++ fs) i k b d
wrote_both {es} {fs} {i} {j} {k} {b} {c} {d} h u w =
    let front = take (4 * i) b ++ bytes_in es in
    let l : length front ≡ 4 * j =
    omega (arith, length-append (take (4 * i) b) (bytes_in es), length-take-le (4 * i) b h, bytes_length es, u.next) in
    let kept : take (4 * j) c ≡ front = ap (take (4 * j)) u.bytes ∙ take_at front (drop (4 * j) b) (4 * j) l in
    let past : drop (4 * j) c ≡ drop (4 * j) b = ap (drop (4 * j)) u.bytes ∙ drop_at front (drop (4 * j) b) (4 * j) l in
    let n : 4 * k ≡ 4 * j + 4 * length fs = omega (arith, w.next) in
    let rest : drop (4 * k) c ≡ drop (4 * k) b =
    rw n (sym (drop-drop (4 * length fs) (4 * j) c) ∙ ap (drop (4 * length fs)) past ∙ drop-drop (4 * length fs) (4 * j) b) in
    record {
      next = omega (arith, u.next, w.next, length-append es fs);
      bytes = w.bytes
          ∙ ap₂ (λ (x y : List ℕ). x ++ bytes_in fs ++ y) kept rest
          ∙ ap (λ (r : List ℕ). r ++ drop (4 * k) b)
          (append_assoc (take (4 * i) b) (bytes_in es) (bytes_in fs) ∙ ap (λ (r : List ℕ). take (4 * i) b ++ r) (sym (bytes_append es fs)));
    }

-- ---- an entry where a test holds

pub room_here : {t : Bool} (e : Entry) (i : ℕ) {n : ℕ} → t ≡ true → 4 * (i + length (only t e)) ≤ n → 4 * (i + 1) ≤ n
room_here e i {n} h l = subst (λ (t : Bool). 4 * (i + length (only t e)) ≤ n) h l

pub wrote_here : {t : Bool} {v mark : ℕ} {y z : ℤ} {i k : ℕ} {b b' : List ℕ} → t ≡ true → y ≡ z → Wrote (entry v mark y ∷ []) i k b b'
    → Wrote (only t (entry v mark z)) i k b b'
wrote_here {t} {v} {mark} {y} {z} {i} {k} {b} {b'} h e w =
    subst (λ (t : Bool). Wrote (only t (entry v mark z)) i k b b') (sym h) (subst (λ (x : ℤ). Wrote (entry v mark x ∷ []) i k b b') e w)

pub wrote_absent : {t : Bool} (e : Entry) (i : ℕ) (b : List ℕ) → t ≡ false → Wrote (only t e) i i b b
wrote_absent e i b h = subst (λ (t : Bool). Wrote (only t e) i i b b) (sym h) (wrote_none i b)

-- ---- the entries of one variable, whose value is z

module _ (p q : ℕ → Bool) (a b : ℕ) (m : Valuation) (v : ℕ) {z : ℤ} (e : z ≡ m v) where
  abbrev one : List Entry
  one = only (p v) (entry v a z)

  abbrev other : List Entry
  other = only (q v) (entry v b z)

  is_marked : one ++ other ≡ marked_of p a q b m v
  is_marked = ap (λ (x : ℤ). only (p v) (entry v a x) ++ only (q v) (entry v b x)) e

  both_length : length one + length other ≡ length (marked_of p a q b m v)
  both_length = sym (length-append one other) ∙ ap length is_marked

  pub first_room : (i : ℕ) {n : ℕ} → 4 * (i + length (marked_of p a q b m v)) ≤ n → 4 * (i + length one) ≤ n
  first_room i h = omega (arith, both_length)

  pub second_room : (i : ℕ) {j n : ℕ} {c d : List ℕ} → 4 * (i + length (marked_of p a q b m v)) ≤ n → Wrote one i j c d → 4 * (j + length other) ≤ n
  second_room i h w = omega (arith, both_length, w.next)

  pub wrote_variable : (i : ℕ) {j k : ℕ} {c d g : List ℕ} → 4 * (i + length (marked_of p a q b m v)) ≤ length c → Wrote one i j c d → Wrote other j k d g
      → Wrote (marked_of p a q b m v) i k c g
  wrote_variable i {j} {k} {c} {d} {g} h u w = subst (λ (es : List Entry). Wrote es i k c g) is_marked (wrote_both (omega arith) u w)

-- ---- those of all variables

module _ (f : ℕ → List Entry) where
  more : (n : ℕ) → ascending f (n + 1) ≡ ascending f n ++ f n
  unfolding ascending
  more n = ap (ascending f) (add-one n)

  longer : (n d : ℕ) → length (ascending f n) ≤ length (ascending f (n + d))
  longer n zero = let e : n + zero ≡ n = omega arith in rw e (omega arith)
  longer n (suc d) =
      let e : n + suc d ≡ n + d + 1 = omega arith in
      let r = longer n d in
      rw (e, more (n + d)) (omega (arith, length-append (ascending f (n + d)) (f (n + d))))

  -- no entry from `from` on and below `to`
  abbrev Without : ℕ → ℕ → Type 0
  Without from to = (u : ℕ) → from ≤ u → u < to → f u ≡ []

  pub wrote_start : (b : List ℕ) → Wrote (ascending f 0) 0 0 b b
  unfolding ascending
  wrote_start b = wrote_none 0 b

  -- the entries of v have room
  pub wrote_room : (from v n : ℕ) {i : ℕ} {b c : List ℕ} → Without from v → from ≤ v → v < n → Wrote (ascending f from) 0 i b c
      → 4 * length (ascending f n) ≤ length b → length c ≡ length b → 4 * (i + length (f v)) ≤ length c
  wrote_room from v n h l k w room e =
      let m : v + 1 + (n - (v + 1)) ≡ n = omega arith in
      omega (
        arith,
        w.next,
        ap length (ascending_skip f from v h l),
        ap length (more v),
        length-append (ascending f v) (f v),
        longer (v + 1) (n - (v + 1)),
        ap (λ (j : ℕ). length (ascending f j)) m,
      )

  -- and stand after those of the variables below it
  pub wrote_next : (from v : ℕ) {i k : ℕ} {b c d : List ℕ} → Without from v → from ≤ v → Wrote (ascending f from) 0 i b c → Wrote (f v) i k c d
      → Wrote (ascending f (v + 1)) 0 k b d
  wrote_next from v {i} {k} {b} {c} {d} h l u w =
      subst (λ (es : List Entry). Wrote es 0 k b d) (sym (more v ∙ ap (λ (r : List Entry). r ++ f v) (ascending_skip f from v h l))) (wrote_both (omega arith) u w)

  pub wrote_end : (from n : ℕ) {i : ℕ} {b c : List ℕ} → Without from n → from ≤ n → Wrote (ascending f from) 0 i b c → Begins (ascending f n) b c
  wrote_end from n {i} {b} {c} h l w =
      let e = ascending_skip f from n h l in
      let k : i ≡ length (ascending f n) = omega (arith, w.next, ap length e) in
      subst (λ (j : ℕ). Wrote (ascending f n) 0 j b c) k (subst (λ (es : List Entry). Wrote es 0 i b c) (sym e) w)

no-entry : (x y : Bool) (e d : Entry) → (x || y) ≡ false → only x e ++ only y d ≡ []
no-entry true y e d h = absurd (true≢false h)
no-entry false true e d h = absurd (true≢false h)
no-entry false false e d h = refl

-- what is in neither set has no entry
pub neither : (p q : ℕ → Bool) (a b : ℕ) (m : Valuation) {either : ℕ → Bool} {from to : ℕ} → ((v : ℕ) → either v ≡ (p v || q v)) → NoneIn either from to
    → (u : ℕ) → from ≤ u → u < to → marked_of p a q b m u ≡ []
neither p q a b m h none u l k = no-entry (p u) (q u) (entry u a (m u)) (entry u b (m u)) (sym (h u) ∙ none u l k)

-- ---- the whole

same : (f g : ℕ → List Entry) (n : ℕ) → ((v : ℕ) → f v ≡ g v) → ascending f n ≡ ascending g n
unfolding ascending
same f g zero h = refl
same f g (suc n) h = ap₂ (λ (x y : List Entry). x ++ y) (same f g n h) (h n)

-- a set's bounds are the entries of its two parts
pub marked_bounds : (vs : List Variable) (set : ℕ → Bool) (m : Valuation) (n : ℕ)
    → ascending (marked_of (from_below_in vs set) bound (from_above_in vs set) bound_above m) n ≡ ascending (bounds_of vs set m) n
unfolding swaps
marked_bounds vs set m n =
    same (marked_of (from_below_in vs set) bound (from_above_in vs set) bound_above m) (bounds_of vs set m) n (λ v. at v (m v) (set v) (from_above (variable_in vs v)))
  where
    at : (v : ℕ) (z : ℤ) (s t : Bool) → only (s && not t) (entry v bound z) ++ only (s && t) (entry v bound_above z) ≡ only s (entry v (cond t bound_above bound) z)
    at v z true true = refl
    at v z true false = refl
    at v z false t = refl

pub marked_begun : (p q : ℕ → Bool) (a b : ℕ) (m : Valuation) (c c' : List ℕ) → Begins (marked p a q b m) c c'
    → c' ≡ bytes_in (marked p a q b m) ++ drop (4 * (count_from p 0 max_variables + count_from q 0 max_variables)) c
marked_begun p q a b m c c' w = w.bytes ∙ ap (λ (k : ℕ). bytes_in (marked p a q b m) ++ drop (4 * k) c) (marked_count p q a b m max_variables)
