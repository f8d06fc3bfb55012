-- Two accepted files with the same variables: a call's refusals are the same, and so is what of an assignment lies outside its range. Where for every
-- assignment in its ranges the reducts have the same models too, the call least answers the same for both and leaves the same bytes.
use Prim.Native.Nat.{ℕ, ◌*◌}
use mathlib.Core.Path.{◌≡◌, subst}
use mathlib.Core.Logic.{◌↔◌}
use mathlib.Core.List.{List, ◌++◌}
use native.Mathlib.Omega.{arith}
use lib.ListN.{length, drop}
use Rattle.program.specs.Program.{Program}
use Rattle.program.specs.Reading.{Accepts}
use Rattle.program.specs.Readings.{Valuation}
use Rattle.program.proofs.Unique.{accepts_unique}
use Rattle.meaning.specs.Founded.{Within, Model, Least}
use Rattle.meaning.specs.Reduct.{system}
use Rattle.meaning.specs.Stable.{assigned}
use Rattle.meaning.specs.Calls.{FirstGiven, Refuses, bad_file, bad_call, Called, lengths}
use Rattle.meaning.specs.LeastCall.{Answer, range, none, found, FirstOutside, AllInside, written, least_bytes, LeastCall, turned_down, outside, no_model, least_model}
use Rattle.meaning.proofs.Denials.{refused_or, long}
use Rattle.meaning.proofs.Determined.{least_call_unique}
use Rattle.meaning.proofs.InRanges.{assigned_within}

-- what holds of the program that a file means holds of any that it is said to mean
pub meant : {s : List ℕ} {P Q : Program} (C : Program → Type 0) → Accepts s P → Accepts s Q → C P → C Q
meant C x z c = subst C (accepts_unique x z) c

-- ---- two programs

module _ (P Q : Program) (e : Q.variables ≡ P.variables) where
  pub within_over : {θ : Valuation} → Within (system P) θ → Within (system Q) θ
  within_over w = record { inside = rw e w.inside }

  pub outside_over : {θ : Valuation} {v : ℕ} → FirstOutside P θ v → FirstOutside Q θ v
  outside_over o = record { declared = rw e o.declared; outside = rw e o.outside; first = rw e o.first }

  module _ {θ : Valuation} (models : (m : Valuation) → Model (system P) θ m ↔ Model (system Q) θ m) where
    -- the least model, and that there is none
    pub least_over : {m : Valuation} → Least (system P) θ m → Least (system Q) θ m
    least_over {m} d = record {
      model = (models m).0 d.model;
      floor = record { under = λ m' k v. record { le = rw e (d.floor.under m' ((models m').1 k) v).le } };
    }

    none_over : ((m : Valuation) → Model (system P) θ m → ⊥) → (m : Valuation) → Model (system Q) θ m → ⊥
    none_over f m k = f m ((models m).1 k)

-- ---- two files

module _ {s s' : List ℕ} {P Q : Program} (x : Accepts s P) (y : Accepts s' Q) (e : Q.variables ≡ P.variables) where
  -- the table of a call's refusals goes by the variables
  module _ (bytes : ℕ) (a b : List ℕ) where
    pub refused_over : {n at : ℕ} → Refuses (lengths bytes a b) s n at → Refuses (lengths bytes a b) s' n at
    refused_over (bad_file p) = absurd (refused_or p x)
    refused_over {n} {at} (bad_call z f) = bad_call {n = n} {at = at} y (rw e (meant (λ R. FirstGiven (lengths bytes a b R) n at) z x f))

    pub called_over : Called (lengths bytes a b) s P → Called (lengths bytes a b) s' Q
    called_over c = record { accepts = y; passes = rw e c.passes }

  module _ (models : (θ : Valuation) → Within (system P) θ → (m : Valuation) → Model (system P) θ m ↔ Model (system Q) θ m) (a b : List ℕ) where
    abbrev Begins : Program → Type 0
    Begins = Called (lengths least_bytes a b) s

    within : Begins P → AllInside P (assigned a) → Within (system P) (assigned a)
    within c i = assigned_within P a (omega (arith, long least_bytes a b c)) i

    none_on : Begins P → AllInside P (assigned a) → ((m : Valuation) → Model (system P) (assigned a) m → ⊥) → LeastCall s' a b none b
    none_on c i n = no_model (called_over least_bytes a b c) (rw e i) (none_over P Q e (models (assigned a) (within c i)) n)

    found_on : {m : Valuation} → Begins P → AllInside P (assigned a) → Least (system P) (assigned a) m
        → LeastCall s' a b found (written m (length P.variables) ++ drop (2 * length P.variables) b)
    found_on {m} c i l =
        subst (λ vs. LeastCall s' a b found (written m (length vs) ++ drop (2 * length vs) b)) e
        (least_model (called_over least_bytes a b c) (rw e i) (least_over P Q e (models (assigned a) (within c i)) l))

    least_call_over : {r : Answer} {b' : List ℕ} → LeastCall s a b r b' → LeastCall s' a b r b'
    least_call_over (turned_down p) = turned_down (refused_over least_bytes a b p)
    least_call_over (outside {v = v} c o) =
        meant (λ R. Begins R → FirstOutside R (assigned a) v → LeastCall s' a b (range v) b) x c.accepts
        (λ d f. outside (called_over least_bytes a b d) (outside_over P Q e f)) c o
    least_call_over (no_model c i n) =
        meant (λ R. Begins R → AllInside R (assigned a) → ((m : Valuation) → Model (system R) (assigned a) m → ⊥) → LeastCall s' a b none b) x c.accepts none_on c i n
    least_call_over (least_model {m = m} c i l) =
        meant (λ R. Begins R → AllInside R (assigned a) → Least (system R) (assigned a) m
        → LeastCall s' a b found (written m (length R.variables) ++ drop (2 * length R.variables) b)) x c.accepts found_on c i l

    -- each has one answer, so they have the same
    pub least_same : {r r' : Answer} {b₁ b₂ : List ℕ} → LeastCall s a b r b₁ → LeastCall s' a b r' b₂ → (r ≡ r') × (b₁ ≡ b₂)
    least_same p q = least_call_unique (least_call_over p) q
