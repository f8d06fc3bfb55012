-- The call components has one answer for all sets and lent buffers, and leaves the buffer in one way.
use Prim.Native.Nat.{ℕ, zero, suc, ◌≤◌, ◌<◌}
use mathlib.Core.Path.{◌≡◌, refl, sym, ◌∙◌, subst}
use mathlib.Core.Bool.{Bool, true, false}
use mathlib.Core.List.{List}
use native.Mathlib.Numerals.{add-one}
use native.Mathlib.Decide.{dec_lt, dec_le}
use native.Mathlib.Omega.{arith}
use lib.ListN.{length, get_or, set}
use lib.Seq.{ext_get_or}
use Rattle.reach.specs.Rows.{row_has}
use Rattle.reach.specs.Stepping.{Lent}
use Rattle.reach.proofs.StepDetermined.{lent_or}
use Rattle.sharing.specs.Sharing.{FirstSharing, Named, Names, named, no_room}
use Rattle.sharing.proofs.Sharings.{named_none, named_more}
use Rattle.sharing.proofs.Firsts.{first_sharing_unique, first_least, first_sharing}

module _ {t : ℕ → ℕ → Bool} {n : ℕ} {b b₁ b₂ : List ℕ} where
  named_unique : Named t n b b₁ → Named t n b b₂ → b₁ ≡ b₂
  named_unique p q = ext_get_or 0 b₁ b₂ (p.long ∙ sym q.long) (λ i h. go i (dec_lt i n))
    where
      go : (i : ℕ) → Dec (i < n) → get_or b₁ i 0 ≡ get_or b₂ i 0
      go i (yes l) = first_sharing_unique (p.is i l) (q.is i l)
      go i (no f) = p.rest i (omega arith) ∙ sym (q.rest i (omega arith))

pub names_unique : {ws b b₁ b₂ : List ℕ} {n : ℕ} {r r₂ : Bool} → Names ws n b r b₁ → Names ws n b r₂ b₂ → (r ≡ r₂) × (b₁ ≡ b₂)
names_unique (named l h p) (named m g q) = (refl, named_unique p q)
names_unique (named l h p) (no_room f) = absurd (f l h)
names_unique (no_room f) (named l h p) = absurd (f l h)
names_unique (no_room f) (no_room g) = (refl, refl)

pub named_total : (t : ℕ → ℕ → Bool) (b : List ℕ) (n : ℕ) → n ≤ length b → (b' : List ℕ) × Named t n b b'
named_total t b zero h = (b, named_none t b)
named_total t b (suc n) h = go (named_total t b n (omega arith)) (first_sharing t n)
  where
    go : (b' : List ℕ) × Named t n b b' → (y : ℕ) × FirstSharing t n y → (b' : List ℕ) × Named t (suc n) b b'
    go p f = (set p.0 n f.0, subst (λ m. Named t m b (set p.0 n f.0)) (add-one n) (named_more t b n f.0 p.1 (omega arith) f.1))

-- bytes stay bytes: the first variable of a component is at most each of it
pub names_byte : {ws b b' : List ℕ} {n : ℕ} {r : Bool} → Names ws n b r b' → (i : ℕ) → get_or b i 0 < 256 → get_or b' i 0 < 256
names_byte {b = b} {b'} {n} (named l h p) i y = go (dec_lt i n)
  where
    go : Dec (i < n) → get_or b' i 0 < 256
    go (yes m) = omega (arith, first_least (p.is i m), l.few)
    go (no f) = omega (arith, p.rest i (omega arith))
names_byte (no_room f) i y = y

pub names_total : (ws : List ℕ) (n : ℕ) (b : List ℕ) → (r : Bool) × (b' : List ℕ) × Names ws n b r b'
names_total ws n b = go (lent_or ws n) (dec_le n (length b))
  where
    go : Dec (Lent ws n) → Dec (n ≤ length b) → (r : Bool) × (b' : List ℕ) × Names ws n b r b'
    go (yes l) (yes h) = let p = named_total (row_has ws) b n h in (true, p.0, named l h p.1)
    go (yes l) (no g) = (false, b, no_room (λ m. g))
    go (no f) d = (false, b, no_room (λ l h. f l))
