-- The normal form of an accepted file, put together.
use Prim.Native.Nat.{ℕ, ◌+◌, ◌*◌, ◌≤◌}
use mathlib.Core.Path.{◌≡◌, refl, sym, ap, ap₂, ◌∙◌, subst₂}
use mathlib.Core.List.{List, [], ◌∷◌, ◌++◌}
use native.Mathlib.Nat.{zero-add}
use native.Mathlib.Omega.{arith}
use lib.ListN.{length, take, drop, length-append}
use lib.Seq.{take_at}
use Rattle.format.specs.Numbers.{bytes_of}
use Rattle.program.specs.Program.{Program}
use Rattle.program.specs.Reading.{Accepts}
use Rattle.program.specs.Encode.{each, variable_bytes, encode, Bytes}
use Rattle.program.proofs.Promises.{accepts_promises}
use Rattle.program.proofs.RoundTrip.{accepted_encoded, accepted_proper}
use Rattle.program.specs.declared.Variable.{Variable}
use Rattle.normal.specs.Normal.{Normal}
use Rattle.normal.specs.Normalizes.{written, Normalizes, rewritten}
use Rattle.normal.proofs.Calls.{enough_called}
use Rattle.normal.proofs.Normals.{normal_exists}
use Rattle.normal.proofs.Propers.{normal_short}
use Rattle.sorting.specs.Stretches.{stretch}
use Rattle.sorting.specs.Sorts.{Sorts}
use Rattle.sorting.specs.declared.stretches.Piece.TheVariants.{Field}
use Rattle.rewriting.specs.Writing.{put_at, fields_at, FieldsOf, Prepared, Room, Rewritten}
use Rattle.rewriting.proofs.Written.{fields_written}
use Rattle.rewriting.proofs.Puts.{put_length, put_more}

-- ---- the variables

pub variables_size : (vs : List Variable) → length (each variable_bytes vs) ≡ 8 * length vs
unfolding bytes_of
variables_size [] = refl
variables_size (x ∷ vs) = omega (arith, length-append (variable_bytes x) (each variable_bytes vs), variables_size vs)

module _ {s : List ℕ} {P : Program} (h : Bytes s) (a : Accepts s P) where
  variables_bytes : take (8 * length P.variables) s ≡ each variable_bytes P.variables
  unfolding encode
  variables_bytes = ap (take (8 * length P.variables)) (accepted_encoded h a) ∙ take_at (each variable_bytes P.variables) _ _ (variables_size P.variables)

  -- ---- the fields after them, t being the text and ys the places of what is left

  module _ (t places ys : List ℕ) (x : FieldsOf P (stretch Field t) places) (o : Sorts (stretch Field t) places ys) where
    abbrev Q : Program
    Q = (normal_exists (accepts_promises a)).0

    normal : Normal P Q
    normal = (normal_exists (accepts_promises a)).1

    abbrev start : List ℕ
    start = take (8 * length P.variables) s

    abbrev rest : List ℕ
    rest = each (stretch Field t) ys

    whole : start ++ rest ≡ encode Q
    unfolding encode
    whole =
        ap₂ (λ (v w : List ℕ). v ++ w) (variables_bytes ∙ ap (each variable_bytes) (sym normal.variables)) (fields_written x o normal)

    pub form_fits : length start + length rest ≤ length s
    form_fits = omega (arith, length-append start rest, ap length whole, normal_short (accepted_proper h a) normal, ap length (accepted_encoded h a))

    -- b, with the variables put in, then the fields
    pub form_written : (b : List ℕ) → length s ≤ length b → (b₁ b₂ : List ℕ) (at n : ℕ) → at ≡ 0 + length start → b₁ ≡ put_at b 0 start → n ≡ at + length rest
        → b₂ ≡ put_at b₁ at rest → Rewritten P b n b₂
    form_written b k b₁ b₂ at n e₁ d₁ e₂ d₂ =
        let l : n ≡ length (encode Q) = omega (arith, length-append start rest, ap length whole) in
        let m : 0 + length start ≤ length b = omega (arith, form_fits) in
        record {
          program = Q;
          normal = normal;
          length_is = l;
          bytes =
              d₂
              ∙ ap (λ (v : List ℕ). put_at v at rest) d₁
              ∙ ap (λ (j : ℕ). put_at (put_at b 0 start) j rest) e₁
              ∙ put_more b 0 start rest m
              ∙ ap (put_at b 0) whole
              ∙ ap (λ (j : ℕ). encode Q ++ drop j b) (zero-add (length (encode Q)) ∙ sym l);
        }

-- ---- the call's parts, m being the number of variables

module _ {s : List ℕ} {P : Program} {t places : List ℕ} {n : ℕ} (h : Bytes s) (a : Accepts s P) (x : Prepared P t places n) (m : ℕ) (q : length P.variables ≡ m)
    (b b₁ : List ℕ) (at : ℕ) (k : length s ≤ length b) (e : at ≡ 0 + length (take (8 * m) s)) (d : b₁ ≡ put_at b 0 (take (8 * m) s)) where
  same : take (8 * m) s ≡ take (8 * length P.variables) s
  same = ap (λ (j : ℕ). take (8 * j) s) (sym q)

  fits : length (take (8 * m) s) + length (fields_at t places n) ≤ length s
  fits = omega (arith, ap length same, form_fits h a t x.fields (take n places) x.are x.sorts)

  -- the variables end at `at`, and there is room for the fields
  pub room_left : Room t places n b₁ at
  room_left = record {
    places_are = x.few;
    inside = x.inside;
    fits = omega (arith, fits, ap length d, put_length b 0 (take (8 * m) s) (omega (arith, fits)));
  }

  pub all_written : (b₂ : List ℕ) (r : ℕ) → r ≡ at + length (fields_at t places n) → b₂ ≡ put_at b₁ at (fields_at t places n) → Rewritten P b r b₂
  all_written b₂ r e₂ d₂ =
      form_written h a t x.fields (take n places) x.are x.sorts b k b₁ b₂ at r (e ∙ ap (λ (v : List ℕ). 0 + length v) same)
      (d ∙ ap (put_at b 0) same) e₂ d₂

-- the whole call
pub rewritten_call : {s b b' : List ℕ} {P : Program} {n : ℕ} → length s ≤ length b → Accepts s P → Rewritten P b n b' → Normalizes s b (written n) b'
rewritten_call {s} {b} {b'} h a x =
    subst₂ (Normalizes s b) (ap written (sym x.length_is)) (sym (x.bytes ∙ ap (λ (j : ℕ). encode x.program ++ drop j b) x.length_is))
    (rewritten (enough_called b a h) x.normal)
