-- The call least has at most one answer, and leaves the lent buffer in at most one way.
use Prim.Native.Nat.{ℕ, zero, suc, ◌*◌, ◌<◌}
use mathlib.Core.Path.{◌≡◌, refl, sym, ap, ap₂, subst, ◌∙◌}
use mathlib.Core.List.{List, ◌++◌}
use native.Mathlib.Omega.{arith}
use lib.ListN.{length, drop}
use Rattle.format.specs.Numbers.{bytes_of}
use Rattle.program.specs.Program.{Program}
use Rattle.program.specs.Reading.{Accepts}
use Rattle.program.proofs.Conditions.{never}
use Rattle.program.proofs.Unique.{accepts_unique}
use Rattle.meaning.specs.Founded.{Model, Least}
use Rattle.meaning.specs.Reduct.{Reckoning, reckoned, reduct, system}
use Rattle.meaning.specs.LeastCall.{Answer, range, FirstOutside, AllInside, written, least_bytes, LeastCall, turned_down, outside, no_model, least_model}
use Rattle.meaning.proofs.Denials.{same_refusal, refused_or_called, lengths_fixed}
use Rattle.meaning.proofs.Theory.{least_unique}
use Rattle.program.specs.Readings.{Valuation}

-- the bytes of a valuation are those of its values
pub written_same : {m m' : Valuation} (n : ℕ) → ((v : ℕ) → m v ≡ m' v) → written m n ≡ written m' n
unfolding written
written_same zero h = refl
written_same (suc n) h = ap₂ ◌++◌ (written_same n h) (ap bytes_of (h n))

-- values all lie in their ranges, or there is a first that does not
inside_or : {P : Program} {θ : Valuation} {v : ℕ} → AllInside P θ → FirstOutside P θ v → ⊥
inside_or {P} {θ} {v} i o = never (i v o.declared) o.outside

pub same_outside : {P : Program} {θ : Valuation} {v w : ℕ} → FirstOutside P θ v → FirstOutside P θ w → v ≡ w
same_outside {P} {θ} {v} {w} o q = by (λ h. never (q.first v h) o.outside) (λ h. never (o.first w h) q.outside)
  where
    by : (v < w → ⊥) → (w < v → ⊥) → v ≡ w
    by h k = omega arith

module _ {s : List ℕ} {P Q : Program} (x : Accepts s P) (y : Accepts s Q) where
  count : length P.variables ≡ length Q.variables
  count = ap (λ R. length R.variables) (accepts_unique x y)

  inside_or_first : {θ : Valuation} {v : ℕ} → AllInside P θ → FirstOutside Q θ v → ⊥
  inside_or_first i o = inside_or i (rw (← accepts_unique x y) at o)

  model_or_none : {θ m : Valuation} → ((m' : Valuation) → Model (system P) θ m' → ⊥) → Least (system Q) θ m → ⊥
  model_or_none {θ} {m} n l = n m (subst (λ R. Model (system R) θ m) (sym (accepts_unique x y)) l.model)

  same_first : {θ : Valuation} {v w : ℕ} → FirstOutside P θ v → FirstOutside Q θ w → v ≡ w
  same_first o q = same_outside o (rw (← accepts_unique x y) at q)

  -- the least models of one file, however a program is read
  pub same_bytes : (R : Program → Reckoning) {θ m m' : Valuation} (b : List ℕ) → Least (reckoned P (R P)) θ m → Least (reckoned Q (R Q)) θ m'
      → written m (length P.variables) ++ drop (2 * length P.variables) b ≡ written m' (length Q.variables) ++ drop (2 * length Q.variables) b
  same_bytes R {θ} {m} {m'} b l k =
      let e = least_unique l (subst (λ S. Least (reckoned S (R S)) θ m') (sym (accepts_unique x y)) k) in
      ap₂ ◌++◌ (written_same (length P.variables) e ∙ ap (written m') count) (ap (λ n. drop (2 * n) b) count)

-- the first call's case against the second's
pub least_call_unique : {s a b : List ℕ} {r r' : Answer} {b₁ b₂ : List ℕ} → LeastCall s a b r b₁ → LeastCall s a b r' b₂ → (r ≡ r') × (b₁ ≡ b₂)
least_call_unique {a = a} {b} (turned_down p) (turned_down q) = let e = same_refusal (lengths_fixed least_bytes a b) p q in (cc, refl)
least_call_unique (turned_down p) (outside y u) = absurd (refused_or_called p y)
least_call_unique (turned_down p) (no_model y w d) = absurd (refused_or_called p y)
least_call_unique (turned_down p) (least_model y w e) = absurd (refused_or_called p y)
least_call_unique (outside x o) (turned_down q) = absurd (refused_or_called q x)
least_call_unique (outside x o) (outside y u) = (ap range (same_first x.accepts y.accepts o u), refl)
least_call_unique (outside x o) (no_model y w d) = absurd (inside_or_first y.accepts x.accepts w o)
least_call_unique (outside x o) (least_model y w e) = absurd (inside_or_first y.accepts x.accepts w o)
least_call_unique (no_model x i n) (turned_down q) = absurd (refused_or_called q x)
least_call_unique (no_model x i n) (outside y u) = absurd (inside_or_first x.accepts y.accepts i u)
least_call_unique (no_model x i n) (no_model y w d) = (refl, refl)
least_call_unique (no_model x i n) (least_model y w e) = absurd (model_or_none x.accepts y.accepts n e)
least_call_unique (least_model x i l) (turned_down q) = absurd (refused_or_called q x)
least_call_unique (least_model x i l) (outside y u) = absurd (inside_or_first x.accepts y.accepts i u)
least_call_unique (least_model x i l) (no_model y w d) = absurd (model_or_none y.accepts x.accepts d l)
least_call_unique {b = b} (least_model x i l) (least_model y w e) = (refl, same_bytes x.accepts y.accepts reduct b l e)
