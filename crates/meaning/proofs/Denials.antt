-- A table of refusals has one outcome: along the table, the first that is given is one, and where each can be told, one is or none. So has a
-- call, since its file has one meaning.
use Prim.Native.Nat.{ℕ, ◌*◌, ◌<◌, ◌≤◌}
use mathlib.Core.Path.{◌≡◌, refl, sym, ◌∙◌, subst}
use mathlib.Core.Logic.{◌⊎◌, inl, inr}
use mathlib.Core.List.{List, [], ◌∷◌}
use native.Mathlib.Decide.{ℕ_discrete, dec_lt}
use native.Mathlib.Omega.{arith}
use lib.ListN.{length}
use Rattle.program.specs.Program.{Program}
use Rattle.program.specs.Reading.{Reads, accepted, refused, Accepts}
use Rattle.program.specs.Reading as reading
use Rattle.program.proofs.Total.{reads_total}
use Rattle.program.proofs.Unique.{reads_unique, accepts_unique, accepts_reads, reads_accepts}
use Rattle.meaning.specs.Calls.{Denial, ◌placed◌, ◌under◌, Nowhere, FirstGiven, NoneGiven, Refuses, bad_file, bad_call, Called, not_exact, too_short, lengths}

-- every refusal of a table has the property
abbrev pub Every : (Denial → Type 0) → List Denial → Type 0
Every Q [] = Unit {0}
Every Q (d ∷ rest) = Q d × Every Q rest

-- it is given at one place alone
abbrev pub Fixed : Denial → Type 0
Fixed (n placed C) = (p q : ℕ) → C p → C q → p ≡ q

-- it is given, or at no place
abbrev pub Told : Denial → Type 0
Told (n placed C) = ((at : ℕ) × C at) ⊎ Nowhere C

-- ---- along a table

pub first_unique : (t : List Denial) → Every Fixed t → (n p m q : ℕ) → FirstGiven t n p → FirstGiven t m q → (n ≡ m) × (p ≡ q)
first_unique [] f n p m q x y = absurd x
first_unique ((k placed C) ∷ rest) f n p m q (inl x) (inl y) = (x.0 ∙ sym y.0, f.0 p q x.1 y.1)
first_unique ((k placed C) ∷ rest) f n p m q (inl x) (inr y) = absurd (y.0 p x.1)
first_unique ((k placed C) ∷ rest) f n p m q (inr x) (inl y) = absurd (x.0 q y.1)
first_unique ((k placed C) ∷ rest) f n p m q (inr x) (inr y) = first_unique rest f.1 n p m q x.1 y.1

pub first_or_none : (t : List Denial) (n p : ℕ) → FirstGiven t n p → NoneGiven t → ⊥
first_or_none [] n p x y = x
first_or_none ((k placed C) ∷ rest) n p (inl x) y = y.0 p x.1
first_or_none ((k placed C) ∷ rest) n p (inr x) y = first_or_none rest n p x.1 y.1

pub first_told : (t : List Denial) → Every Told t → ((n : ℕ) × (p : ℕ) × FirstGiven t n p) ⊎ NoneGiven t
first_told [] d = inr tt
first_told ((k placed C) ∷ rest) d = go d.0 (first_told rest d.1)
  where
    go : ((at : ℕ) × C at) ⊎ Nowhere C → ((n : ℕ) × (p : ℕ) × FirstGiven rest n p) ⊎ NoneGiven rest
        → ((n : ℕ) × (p : ℕ) × FirstGiven ((k placed C) ∷ rest) n p) ⊎ NoneGiven ((k placed C) ∷ rest)
    go (inl x) r = inl (k, x.0, inl (refl, x.1))
    go (inr f) (inl x) = inl (x.0, x.1, inr (f, x.2))
    go (inr f) (inr y) = inr (f, y)

-- ---- refusals of place 0

module _ (n : ℕ) (C : Type 0) where
  pub under_fixed : Fixed (n under C)
  under_fixed p q x y = x.1 ∙ sym y.1

  pub under_told : Dec C → Told (n under C)
  under_told (yes c) = inl (0, (c, refl))
  under_told (no f) = inr (λ at x. f x.0)

-- ---- a call

-- a file is turned down or accepted
pub refused_or : {s : List ℕ} {n at : ℕ} {P : Program} → Reads s (refused n at) → Accepts s P → ⊥
refused_or r x = let e = reads_unique r (accepts_reads x) in let z : ◌≡◌ {A = ℕ} 0 1 = cc in omega arith

module _ {table : Program → List Denial} {s : List ℕ} where
  pub same_refusal : {n at n' at' : ℕ} → ((P : Program) → Every Fixed (table P)) → Refuses table s n at → Refuses table s n' at' → (n ≡ n') × (at ≡ at')
  same_refusal f (bad_file p) (bad_file q) = let e = reads_unique p q in (cc, cc)
  same_refusal f (bad_file p) (bad_call y g) = absurd (refused_or p y)
  same_refusal f (bad_call x h) (bad_file q) = absurd (refused_or q x)
  same_refusal {n} {at} {n'} {at'} f (bad_call {P} x h) (bad_call y g) =
      first_unique (table P) (f P) n at n' at' h (subst (λ Q. FirstGiven (table Q) n' at') (accepts_unique y x) g)

  pub refused_or_called : {n at : ℕ} {P : Program} → Refuses table s n at → Called table s P → ⊥
  refused_or_called (bad_file p) c = refused_or p c.accepts
  refused_or_called {n} {at} {P} (bad_call x h) c = first_or_none (table P) n at (subst (λ Q. FirstGiven (table Q) n at) (accepts_unique x c.accepts) h) c.passes

-- a call is turned down or not
abbrev pub Begun : (Program → List Denial) → List ℕ → Type 0
Begun table s = ((n : ℕ) × (at : ℕ) × Refuses table s n at) ⊎ ((P : Program) × Called table s P)

module _ (table : Program → List Denial) (told : (P : Program) → Every Told (table P)) (s : List ℕ) where
  accepted_begun : {P : Program} → Accepts s P → ((n : ℕ) × (at : ℕ) × FirstGiven (table P) n at) ⊎ NoneGiven (table P) → Begun table s
  accepted_begun x (inl g) = inl (g.0, g.1, bad_call x g.2)
  accepted_begun {P} x (inr p) = inr (P, record { accepts = x; passes = p })

  pub begun : Begun table s
  begun = go (reads_total s).0 (reads_total s).1
    where
      go : (r : reading.Answer) → Reads s r → Begun table s
      go (refused n at) q = inl (n, at, bad_file q)
      go (accepted v r c) q = let k = reads_accepts q in accepted_begun k.accepts (first_told (table k.meant) (told k.meant))

-- ---- the lengths of what a call is handed, at so many bytes for each variable

-- a refusal is given at no place
abbrev pub Ungiven : Denial → Type 0
Ungiven (n placed C) = Nowhere C

module _ (bytes : ℕ) (a : List ℕ) (P : Program) where
  pub exact_told : Told (not_exact bytes a P)
  exact_told = under_told 14 _ (not_equal (ℕ_discrete (length a) (bytes * length P.variables)))
    where
      not_equal : {m n : ℕ} → Dec (m ≡ n) → Dec (m ≡ n → ⊥)
      not_equal (yes e) = no (λ f. f e)
      not_equal (no f) = yes f

  pub room_told : Told (too_short bytes a P)
  room_told = under_told 15 _ (dec_lt (length a) (bytes * length P.variables))

  -- a length that is not refused is as it must be
  pub exact : Ungiven (not_exact bytes a P) → length a ≡ bytes * length P.variables
  exact f = go (ℕ_discrete (length a) (bytes * length P.variables))
    where
      go : Dec (length a ≡ bytes * length P.variables) → length a ≡ bytes * length P.variables
      go (yes e) = e
      go (no n) = absurd (f 0 (n, refl))

  pub room : Ungiven (too_short bytes a P) → bytes * length P.variables ≤ length a
  room f = by (λ h. f 0 (h, refl))
    where
      by : (length a < bytes * length P.variables → ⊥) → bytes * length P.variables ≤ length a
      by n = omega arith

  -- and one that is so is not refused
  pub is_exact : length a ≡ bytes * length P.variables → Ungiven (not_exact bytes a P)
  is_exact e at x = x.0 e

  pub has_room : bytes * length P.variables ≤ length a → Ungiven (too_short bytes a P)
  has_room h at x = let l = x.0 in omega arith

-- ---- of an assignment and a lent buffer

module _ (bytes : ℕ) (a b : List ℕ) where
  pub lengths_fixed : (P : Program) → Every Fixed (lengths bytes a b P)
  lengths_fixed P = (under_fixed 14 _, (under_fixed 15 _, tt))

  pub lengths_told : (P : Program) → Every Told (lengths bytes a b P)
  lengths_told P = (exact_told 2 a P, (room_told bytes b P, tt))

  module _ {s : List ℕ} {P : Program} where
    pub long : Called (lengths bytes a b) s P → length a ≡ 2 * length P.variables
    long c = exact 2 a P c.passes.0

    pub called : Accepts s P → length a ≡ 2 * length P.variables → bytes * length P.variables ≤ length b → Called (lengths bytes a b) s P
    called x e h = record { accepts = x; passes = (is_exact 2 a P e, (has_room bytes b P h, tt)) }
