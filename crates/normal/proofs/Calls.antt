-- The call normalize has one answer for every file and lent buffer, and leaves the buffer in one way; the first demand of it.
use Prim.Native.Nat.{ℕ, ◌<◌, ◌≤◌}
use mathlib.Core.Path.{◌≡◌, refl, ap, subst}
use mathlib.Core.Logic.{inl, inr}
use mathlib.Core.List.{List, ◌++◌}
use native.Mathlib.Decide.{dec_lt}
use native.Mathlib.Omega.{arith}
use lib.ListN.{length, drop, length-append, length-drop}
use lib.Seq.{drop-append_seam}
use Rattle.program.specs.Program.{Program}
use Rattle.program.specs.Reading.{Accepts}
use Rattle.program.specs.Encode.{encode, Bytes}
use Rattle.program.proofs.Promises.{accepts_promises}
use Rattle.program.proofs.Unique.{accepts_unique}
use Rattle.program.proofs.RoundTrip.{accepted_encoded, accepted_proper}
use Rattle.meaning.specs.Calls.{Refuses, Called}
use Rattle.meaning.proofs.Denials.{Every, Fixed, Told, under_fixed, under_told, same_refusal, refused_or_called, Begun, begun}
use Rattle.normal.specs.Normal.{Normal}
use Rattle.normal.specs.Normalizes.{Answer, refusal, written, shorter, Normalizes, turned_down, rewritten}
use Rattle.normal.specs.NormalizeDemands.{NormalizeDemands}
use Rattle.normal.proofs.Normals.{normal_unique, normal_exists}
use Rattle.normal.proofs.Propers.{normal_short}

module _ (s b : List ℕ) (P : Program) where
  shorter_fixed : Every Fixed (shorter s b P)
  shorter_fixed = (under_fixed 17 _, tt)

  shorter_told : Every Told (shorter s b P)
  shorter_told = (under_told 17 _ (dec_lt (length b) (length s)), tt)

-- a call that is not turned down is lent a buffer as long as its file
pub long_enough : (b : List ℕ) {s : List ℕ} {P : Program} → Called (shorter s b) s P → length s ≤ length b
long_enough b {s} c = by (λ h. c.passes.0 0 (h, refl))
  where
    by : (length b < length s → ⊥) → length s ≤ length b
    by f = omega arith

-- and where it is, no accepted file is turned down
pub enough_called : (b : List ℕ) {s : List ℕ} {P : Program} → Accepts s P → length s ≤ length b → Called (shorter s b) s P
enough_called b x h = record { accepts = x; passes = (λ at y. let l = y.0 in omega arith, tt) }

module _ {s b : List ℕ} where
  pub normalizes_unique : {r r' : Answer} {b₁ b₂ : List ℕ} → Normalizes s b r b₁ → Normalizes s b r' b₂ → (r ≡ r') × (b₁ ≡ b₂)
  normalizes_unique (turned_down p) (turned_down q) = let e = same_refusal (shorter_fixed s b) p q in (cc, refl)
  normalizes_unique (turned_down p) (rewritten d m) = absurd (refused_or_called p d)
  normalizes_unique (rewritten c n) (turned_down q) = absurd (refused_or_called q c)
  normalizes_unique (rewritten {Q = Q} c n) (rewritten {Q = R} d m) =
      let e : Q ≡ R = normal_unique n (subst (λ P. Normal P R) (accepts_unique d.accepts c.accepts) m) in
      (ap (λ (O : Program). written (length (encode O))) e, ap (λ (O : Program). encode O ++ drop (length (encode O)) b) e)

pub normalizes_total : (s b : List ℕ) → (r : Answer) × (b' : List ℕ) × Normalizes s b r b'
normalizes_total s b = go (begun (shorter s b) (shorter_told s b) s)
  where
    go : Begun (shorter s b) s → (r : Answer) × (b' : List ℕ) × Normalizes s b r b'
    go (inl r) = (_, _, turned_down r.2)
    go (inr c) = (_, _, rewritten c.1 (normal_exists (accepts_promises c.1.accepts)).1)

-- ---- the demands

module _ {s b : List ℕ} (y : Bytes s) where
  refused_as : {n at : ℕ} {b' : List ℕ} → Normalizes s b (refusal n at) b' → Refuses (shorter s b) s n at × (b' ≡ b)
  refused_as (turned_down p) = (p, refl)

  written_as : {n : ℕ} {b' : List ℕ} → Normalizes s b (written n) b' → (n ≤ length s) × (length b' ≡ length b) × (drop n b' ≡ drop n b)
  written_as (rewritten {Q = Q} c n) =
      let w = encode Q in
      let short : length w ≤ length s = omega (arith, normal_short (accepted_proper y c.accepts) n, ap length (accepted_encoded y c.accepts)) in
      let rest = drop (length w) b in
      (short, omega (arith, long_enough b c, length-append w rest, length-drop (length w) b), drop-append_seam w rest)

  pub normalize_demands : {r : Answer} {b' : List ℕ} → Normalizes s b r b' → NormalizeDemands s b r b'
  normalize_demands {r} {b'} c = record {
    turned_down = λ n at. (λ e. (down e).0, λ q. (normalizes_unique c (turned_down q)).0);
    untouched = λ n at e. (down e).1;
    no_longer = λ n e. (done e).0;
    fits = λ n e. (done e).1;
    rest = λ n e. (done e).2;
  }
    where
      down : {n at : ℕ} → r ≡ refusal n at → Refuses (shorter s b) s n at × (b' ≡ b)
      down e = refused_as (subst (λ x. Normalizes s b x b') e c)

      done : {n : ℕ} → r ≡ written n → (n ≤ length s) × (length b' ≡ length b) × (drop n b' ≡ drop n b)
      done e = written_as (subst (λ x. Normalizes s b x b') e c)
