-- The call flatten has one answer for every file and lent buffer, and leaves the buffer in one way.
use Prim.Native.Nat.{ℕ}
use mathlib.Core.Path.{◌≡◌, refl, ap, subst}
use mathlib.Core.Logic.{inl, inr}
use mathlib.Core.Bool.{Bool, true, false}
use mathlib.Core.List.{List, ◌++◌}
use native.Mathlib.Omega.{arith}
use lib.Dec.{ltb}
use lib.ListN.{length, drop}
use borrow.Author.Tests.{ltb-true, ltb-false}
use Rattle.format.specs.Limits.{max_file}
use Rattle.normal.specs.Normalizes.{Answer, written}
use Rattle.nested.specs.Nested.{Nested}
use Rattle.nested.specs.NestedReading.{NestedAccepts}
use Rattle.nested.specs.FlattenCall.{flat, NoRoom, HasRoom, FlattenRefuses, bad_file, no_room, FlattenCall, turned_down, flattened}
use Rattle.nested.proofs.NestedReads.{nested_accepts_unique, same_refusal, refused_or_accepted, NestedRead, refused, accepted, nested_read}

-- ---- room

no_and_room : {o b : List ℕ} → NoRoom o b → HasRoom o b → ⊥
no_and_room (inl h) r = omega (arith, r.short)
no_and_room (inr h) r = omega (arith, r.fits)

data Room (o b : List ℕ) : Type 0 where
  lacks : NoRoom o b → Room o b
  has : HasRoom o b → Room o b

room : (o b : List ℕ) → Room o b
room o b = go (ltb max_file (length o)) (ltb (length b) (length o)) refl refl
  where
    go : (x y : Bool) → ltb max_file (length o) ≡ x → ltb (length b) (length o) ≡ y → Room o b
    go true y e f = lacks (inl (ltb-true max_file (length o) e))
    go false true e f = lacks (inr (ltb-true (length b) (length o) f))
    go false false e f = has (record { short = ltb-false max_file (length o) e; fits = ltb-false (length b) (length o) f })

-- ---- one answer

module _ {s b : List ℕ} where
  same_turned_down : {n m at to : ℕ} → FlattenRefuses s b n at → FlattenRefuses s b m to → (n ≡ m) × (at ≡ to)
  same_turned_down (bad_file r) (bad_file q) = same_refusal r q
  same_turned_down (bad_file r) (no_room a h) = absurd (refused_or_accepted r a)
  same_turned_down (no_room a h) (bad_file r) = absurd (refused_or_accepted r a)
  same_turned_down (no_room a h) (no_room c l) = (refl, refl)

  turned_or_flattened : {n at : ℕ} {N : Nested} → FlattenRefuses s b n at → NestedAccepts s N → HasRoom (flat N) b → ⊥
  turned_or_flattened (bad_file r) a h = refused_or_accepted r a
  turned_or_flattened (no_room c l) a h = no_and_room l (subst (λ M. HasRoom (flat M) b) (nested_accepts_unique a c) h)

  pub flatten_unique : {r r' : Answer} {b₁ b₂ : List ℕ} → FlattenCall s b r b₁ → FlattenCall s b r' b₂ → (r ≡ r') × (b₁ ≡ b₂)
  flatten_unique (turned_down p) (turned_down q) = let e = same_turned_down p q in (cc, refl)
  flatten_unique (turned_down p) (flattened a h) = absurd (turned_or_flattened p a h)
  flatten_unique (flattened a h) (turned_down p) = absurd (turned_or_flattened p a h)
  flatten_unique (flattened a h) (flattened c l) =
      let e = nested_accepts_unique a c in
      (ap (λ (N : Nested). written (length (flat N))) e, ap (λ (N : Nested). flat N ++ drop (length (flat N)) b) e)

-- ---- for every file and lent buffer

pub flatten_total : (s b : List ℕ) → (r : Answer) × (b' : List ℕ) × FlattenCall s b r b'
flatten_total s b = go (nested_read s)
  where
    by_room : {N : Nested} → NestedAccepts s N → Room (flat N) b → (r : Answer) × (b' : List ℕ) × FlattenCall s b r b'
    by_room a (lacks h) = (_, _, turned_down (no_room a h))
    by_room a (has h) = (_, _, flattened a h)

    go : NestedRead s → (r : Answer) × (b' : List ℕ) × FlattenCall s b r b'
    go (refused r) = (_, _, turned_down (bad_file r))
    go (accepted {N = N} a) = by_room a (room (flat N) b)
