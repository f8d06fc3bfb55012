-- The terms of one kind, by their bytes.
use Prim.Native.Nat.{ℕ, suc, ◌+◌, ◌*◌, ◌-◌, ◌%◌, ◌<◌, ◌≤◌}
use mathlib.Core.Path.{◌≡◌, refl, sym, ap, ◌∙◌}
use mathlib.Core.Bool.{Bool, true, false, not, ◌||◌}
use mathlib.Core.List.{List}
use native.Mathlib.Omega.{arith}
use lib.Dec.{T, eqb, ltb, leb}
use lib.IntN.{pos, negsuc, neg_ℤ, nat_abs}
use lib.ListN.{length, get_or}
use lib.Signed.{lt_z}
use mir.Syntax.{w16}
use mir.Val.{to_z, sel}
use borrow.Author.Tests.{eq-eqb, ne_eqb, eqb-true, ltb-true, ltb-false, leb-true}
use Rattle.format.specs.Limits.{max_number, max_coefficient}
use Rattle.format.specs.Numbers.{big, signed, beyond}
use Rattle.format.proofs.Int.{int, neg_is}
use Rattle.words.specs.Bit.{has}
use Rattle.program.specs.Program.{terms_of, term_in}
use Rattle.program.specs.Refusals.{repeated_term}
use Rattle.program.proofs.Bodies.{term_at_is}
use Rattle.program.proofs.Conditions.{never, below_none, last_or}
use Rattle.program.specs.declared.Term.{Term}
use Rattle.faultless.specs.Faultless.{Bare, Weight, Literal, Noted, New}

-- nothing is asked of an answer that says no
pub says_no : {A : Type 0} → false ≡ true → A
says_no e = absurd (never e refl)

-- ---- numbers

no : (t : Bool) → T (not t) → t ≡ false
no true h = absurd h
no false h = refl

pub near : (m n : ℕ) → m < 32768 → n < 65536 → leb ((n + m) % 65536) (2 * m) ≡ true → beyond m (to_z w16 n) ≡ false
unfolding beyond
near m n h k e = go (ltb n 32768) refl
  where
    both : {a b : Bool} → a ≡ false → b ≡ false → (a || b) ≡ false
    both p q = rw (p, q)

    go : (t : Bool) → ltb n 32768 ≡ t → beyond m (sel t (pos n) (negsuc (65536 - suc n))) ≡ false
    go true q =
        let l = ltb-true n 32768 q in
        let r = leb-true ((n + m) % 65536) (2 * m) e in
        both (no (lt_z (pos n) (neg_ℤ (pos m))) (omega (int, neg_is (pos m)))) (no (lt_z (pos m) (pos n)) (omega int))
    go false q =
        let l = ltb-false n 32768 q in
        let r = leb-true ((n + m) % 65536) (2 * m) e in
        both (no (lt_z (negsuc (65536 - suc n)) (neg_ℤ (pos m))) (omega (int, neg_is (pos m)))) (no (lt_z (pos m) (negsuc (65536 - suc n))) (omega int))

zero_only : (n : ℕ) → nat_abs (to_z w16 n) ≡ 0 → n ≡ 0
zero_only n e = go (ltb n 32768) e
  where
    go : (t : Bool) → nat_abs (sel t (pos n) (negsuc (65536 - suc n))) ≡ 0 → n ≡ 0
    go true q = q
    go false q = let f : ⊥ = omega arith in absurd f

-- ---- one term

module _ (body : List ℕ) (i : ℕ) (h : 4 * i + 4 ≤ length body) where
  abbrev at : ℕ → ℕ
  at k = get_or body (4 * i + k) 0

  abbrev here : Term
  here = record { variable = get_or body (4 * i) 0; op = at 1; number = signed (at 2) (at 3) }

  term_here : term_in (terms_of body) i ≡ here
  term_here =
      let q : 4 * i + 2 + 1 ≡ 4 * i + 3 = omega arith in
      term_at_is body i (omega arith)
      ∙ ap (λ (k : ℕ). record { variable = get_or body (4 * i) 0; op = at 1; number = signed (at 2) (get_or body k 0) }) q

  pub bare : {n : ℕ} → at 1 ≡ 0 → n ≡ big (at 2) (at 3) → eqb n 0 ≡ true → Bare (term_in (terms_of body) i)
  bare {n} o e z =
      let q : big (at 2) (at 3) ≡ 0 = sym e ∙ eqb-true n 0 z in
      rw term_here (record { op_is = o; number_is = ap (λ (k : ℕ). nat_abs (to_z w16 k)) q })

  pub weight : {n : ℕ} → at 1 ≡ 0 → n ≡ big (at 2) (at 3) → (n ≡ 0 → ⊥) → beyond max_coefficient (signed (at 2) (at 3)) ≡ false
      → Weight (term_in (terms_of body) i)
  weight {n} o e z b =
      rw term_here (record { op_is = o; other = λ q. z (e ∙ zero_only (big (at 2) (at 3)) q); near = b })

  pub literal : 1 ≤ at 1 → at 1 ≤ 2 → beyond max_number (signed (at 2) (at 3)) ≡ false → Literal (term_in (terms_of body) i)
  literal f t b = rw term_here (record { from = f; to = t; near = b })

  -- the variable is new and is noted
  pub noted : (n : ℕ) (ws us : List ℕ) (x : ℕ) → Noted ws (terms_of body) i → x ≡ get_or body (4 * i) 0 → x < n → has ws x ≡ false
      → ((j : ℕ) → has us j ≡ (eqb j x || has ws j)) → New n (terms_of body) i × Noted us (terms_of body) (i + 1)
  unfolding repeated_term
  noted n ws us x w e l f g = (record { declared = rw q l; first = below_none i _ other }, all)
    where
      q : (term_in (terms_of body) i).variable ≡ x
      q = ap (λ (t : Term). t.variable) term_here ∙ sym e

      other : (j : ℕ) → j < i → eqb (term_in (terms_of body) j).variable (term_in (terms_of body) i).variable ≡ false
      other j k =
          ne_eqb (term_in (terms_of body) j).variable (term_in (terms_of body) i).variable (λ s. never (w j k) (ap (has ws) (s ∙ q) ∙ f))

      or_right : (a : Bool) {b : Bool} → b ≡ true → (a || b) ≡ true
      or_right true s = refl
      or_right false s = s

      all : Noted us (terms_of body) (i + 1)
      all j k =
          last_or (λ y. has us (term_in (terms_of body) y).variable ≡ true) i j (omega arith)
          (λ m. g (term_in (terms_of body) j).variable ∙ or_right (eqb (term_in (terms_of body) j).variable x) (w j m))
          (g (term_in (terms_of body) i).variable ∙ ap (λ (b : Bool). b || has ws (term_in (terms_of body) i).variable) (eq-eqb (term_in (terms_of body) i).variable x q))

-- ---- the terms from one on

pub none_before : {A : Type 0} {j : ℕ} → j < 0 → A
none_before h = let f : ⊥ = omega arith in absurd f

module _ (A : ℕ → Type 0) (from : ℕ) where
  abbrev pub Between : ℕ → Type 0
  Between i = (j : ℕ) → from ≤ j → j < i → A j

  pub between_none : Between from
  between_none j l h = let f : ⊥ = omega arith in absurd f

  pub between_more : (i : ℕ) → Between i → A i → Between (i + 1)
  between_more i b a j l h = last_or A i j (omega arith) (λ k. b j l k) a

  pub between_all : (i n : ℕ) → (i < n → ⊥) → Between i → (j : ℕ) → from ≤ j → j < n → A j
  between_all i n f b j l h = b j l (omega arith)
