-- The terms of a body, by the body's bytes.
use Prim.Native.Nat.{ℕ, zero, suc, ◌+◌, ◌*◌, ◌/◌, ◌<◌}
use mathlib.Core.Path.{◌≡◌, refl, sym, ap, ◌∙◌}
use mathlib.Core.List.{List, [], ◌∷◌}
use native.Mathlib.Omega.{arith}
use lib.ListN.{length, get_or}
use Rattle.format.specs.Numbers.{signed_at}
use Rattle.program.specs.Program.{terms_of, term_in}
use Rattle.program.specs.declared.Term.{Term}

-- the term at position i of a body
abbrev pub term_at : List ℕ → ℕ → Term
term_at b i = record { variable = get_or b (4 * i) 0; op = get_or b (4 * i + 1) 0; number = signed_at b (4 * i + 2) }

four_more : (n : ℕ) → suc (n / 4) ≡ suc (suc (suc (suc n))) / 4
four_more n = omega arith

pub terms_length : (b : List ℕ) → length (terms_of b) ≡ length b / 4
unfolding terms_of
terms_length [] = refl
terms_length (x ∷ []) = refl
terms_length (x ∷ op ∷ []) = refl
terms_length (x ∷ op ∷ high ∷ []) = refl
terms_length (x ∷ op ∷ high ∷ low ∷ rest) = ap suc (terms_length rest) ∙ four_more (length rest)

-- a body four bytes longer, one place further
next_term : (x op high low : ℕ) (rest : List ℕ) (i : ℕ) → term_at (x ∷ op ∷ high ∷ low ∷ rest) (suc i) ≡ term_at rest i
next_term x op high low rest i =
    let a : 4 * suc i ≡ suc (suc (suc (suc (4 * i)))) = omega arith in
    let b : 4 * suc i + 1 ≡ suc (suc (suc (suc (4 * i + 1)))) = omega arith in
    let d : 4 * suc i + 2 ≡ suc (suc (suc (suc (4 * i + 2)))) = omega arith in
    let e : 4 * suc i + 2 + 1 ≡ suc (suc (suc (suc (4 * i + 2 + 1)))) = omega arith in
    rw (e, d, b, a)

no_term_is : {n i : ℕ} → n < 4 → i < n / 4 → ⊥
no_term_is h k = omega arith

pub term_at_is : (b : List ℕ) (i : ℕ) → i < length b / 4 → term_in (terms_of b) i ≡ term_at b i
unfolding terms_of
term_at_is [] i h = absurd (no_term_is {n = 0} {i = i} (omega arith) h)
term_at_is (x ∷ []) i h = absurd (no_term_is {n = 1} {i = i} (omega arith) h)
term_at_is (x ∷ op ∷ []) i h = absurd (no_term_is {n = 2} {i = i} (omega arith) h)
term_at_is (x ∷ op ∷ high ∷ []) i h = absurd (no_term_is {n = 3} {i = i} (omega arith) h)
term_at_is (x ∷ op ∷ high ∷ low ∷ rest) zero h = refl
term_at_is (x ∷ op ∷ high ∷ low ∷ rest) (suc i) h =
    term_at_is rest i (omega (arith, four_more (length rest))) ∙ sym (next_term x op high low rest i)
