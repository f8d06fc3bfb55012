-- The three demands, of every call that `Checks` describes.
use Prim.Native.Nat.{ℕ}
use mathlib.Core.Path.{◌≡◌, refl, sym, ◌∙◌, subst}
use mathlib.Core.List.{List}
use native.Mathlib.Omega.{arith}
use lib.Dec.{T, T_not}
use Rattle.program.specs.Program.{Program}
use Rattle.program.specs.Reading.{Accepts}
use Rattle.program.proofs.Conditions.{never}
use Rattle.program.proofs.Promises.{Promises, accepts_promises}
use Rattle.program.proofs.Unique.{accepts_unique}
use Rattle.meaning.specs.Founded.{Within, Least}
use Rattle.meaning.specs.Reduct.{system}
use Rattle.meaning.specs.Stable.{assigned, Meets, Stable}
use Rattle.meaning.specs.Calls.{Refuses, lengths}
use Rattle.meaning.specs.LeastCall.{FirstOutside}
use Rattle.meaning.proofs.Theory.{self_model, unfounded_iff_short, self_least_iff}
use Rattle.meaning.proofs.Monotone.{laws}
use Rattle.meaning.proofs.InRanges.{within_inside}
use Rattle.meaning.proofs.Denials.{same_refusal, refused_or_called, lengths_fixed}
use Rattle.report.specs.Report.{shown}
use Rattle.verdict.specs.Checks.{Answer, refusal, range, rule, constraint, unfounded, stable, Judged, outside, rule_unmet, constraint_unmet, some_shown, is_stable}
use Rattle.verdict.specs.Checks.{check_bytes, Checks, turned_down, judged}
use Rattle.verdict.specs.Demands.{HasUnfounded, Shows, NotRefused, Demands}
use Rattle.verdict.proofs.Shown.{report_shows}
use Rattle.program.specs.Readings.{Valuation}

-- ---- answers

-- which case an answer is
abbrev pub word : Answer → ℕ
word (refusal n at) = 0
word (range v) = 1
word (rule i) = 2
word (constraint i) = 3
word (unfounded n k) = 4
word stable = 5

-- its numbers
abbrev pub first : Answer → ℕ
first (refusal n at) = n
first (range v) = v
first (rule i) = i
first (constraint i) = i
first (unfounded n k) = n
first stable = 0

abbrev pub second : Answer → ℕ
second (refusal n at) = at
second (range v) = 0
second (rule i) = 0
second (constraint i) = 0
second (unfounded n k) = k
second stable = 0

module _ {r r' : Answer} (e : r ≡ r') where
  apart : (word r ≡ word r' → ⊥) → ⊥
  apart f = f (subst (λ x. word r ≡ word x) e refl)

-- ---- a verdict

-- no variable of an assignment that meets everything is outside its range
pub never_outside : {P : Program} {θ : Valuation} {v : ℕ} → Within (system P) θ → FirstOutside P θ v → ⊥
never_outside {P} w o = never (within_inside P w _ o.declared) o.outside

module _ {P : Program} (promised : Promises P) {θ : Valuation} where
  -- a stable assignment leaves nothing short, and has no unfounded set
  pub none_short : {m : Valuation} → Stable P θ → Least (system P) θ m → (v : ℕ) → T (shown P θ m v) → ⊥
  none_short {m} st l v t =
      T_not (shown P θ m v) ((self_least_iff (laws promised) (self_model st.meets.ranges st.meets.rules) l).0 st.least v) t

  none_unfounded : Stable P θ → HasUnfounded P θ → ⊥
  none_unfounded st u =
      let s = (unfounded_iff_short (laws promised) (self_model st.meets.ranges st.meets.rules) st.least).0 u in none_short st st.least s.0 s.1

  not_refusal : {b : List ℕ} {r : Answer} {b' : List ℕ} → Judged P θ b r b' → (n at : ℕ) → r ≡ refusal n at → ⊥
  not_refusal (outside o) n at e = apart e (λ q. omega arith)
  not_refusal (rule_unmet w f) n at e = apart e (λ q. omega arith)
  not_refusal (constraint_unmet w h f) n at e = apart e (λ q. omega arith)
  not_refusal (some_shown t l s) n at e = apart e (λ q. omega arith)
  not_refusal (is_stable st) n at e = apart e (λ q. omega arith)

  judged_stable : {b : List ℕ} {r : Answer} {b' : List ℕ} → Judged P θ b r b' → r ≡ stable → Stable P θ
  judged_stable (outside o) e = absurd (apart e (λ q. omega arith))
  judged_stable (rule_unmet w f) e = absurd (apart e (λ q. omega arith))
  judged_stable (constraint_unmet w h f) e = absurd (apart e (λ q. omega arith))
  judged_stable (some_shown t l s) e = absurd (apart e (λ q. omega arith))
  judged_stable (is_stable st) e = st

  stable_judged : {b : List ℕ} {r : Answer} {b' : List ℕ} → Judged P θ b r b' → Stable P θ → r ≡ stable
  stable_judged (outside o) st = absurd (never_outside st.meets.ranges o)
  stable_judged (rule_unmet w f) st = absurd (f.unmet (st.meets.rules _ f.among))
  stable_judged (constraint_unmet w h f) st = absurd (f.unmet (st.meets.constraints _ f.among))
  stable_judged (some_shown t l s) st = absurd (none_short st l s.0 s.1)
  stable_judged (is_stable st') st = refl

  judged_unfounded : {b : List ℕ} {r : Answer} {b' : List ℕ} → Judged P θ b r b' → (n : ℕ) × (k : ℕ) × (r ≡ unfounded n k) → Meets P θ × HasUnfounded P θ
  judged_unfounded (outside o) e = absurd (apart e.2 (λ q. omega arith))
  judged_unfounded (rule_unmet w f) e = absurd (apart e.2 (λ q. omega arith))
  judged_unfounded (constraint_unmet w h f) e = absurd (apart e.2 (λ q. omega arith))
  judged_unfounded (some_shown t l s) e = (t, (unfounded_iff_short (laws promised) (self_model t.ranges t.rules) l).1 s)
  judged_unfounded (is_stable st) e = absurd (apart e.2 (λ q. omega arith))

  unfounded_judged : {b : List ℕ} {r : Answer} {b' : List ℕ} → Judged P θ b r b' → Meets P θ × HasUnfounded P θ → (n : ℕ) × (k : ℕ) × (r ≡ unfounded n k)
  unfounded_judged (outside o) u = absurd (never_outside u.0.ranges o)
  unfounded_judged (rule_unmet w f) u = absurd (f.unmet (u.0.rules _ f.among))
  unfounded_judged (constraint_unmet w h f) u = absurd (f.unmet (u.0.constraints _ f.among))
  unfounded_judged (some_shown t l s) u = (_, _, refl)
  unfounded_judged (is_stable st) u = absurd (none_unfounded st u.1)

  judged_shows : {b : List ℕ} {r : Answer} {b' : List ℕ} → Judged P θ b r b' → (n k : ℕ) → r ≡ unfounded n k → Shows P θ b' n k
  judged_shows (outside o) n k e = absurd (apart e (λ q. omega arith))
  judged_shows (rule_unmet w f) n k e = absurd (apart e (λ q. omega arith))
  judged_shows (constraint_unmet w h f) n k e = absurd (apart e (λ q. omega arith))
  judged_shows {b' = b'} (some_shown t l s) n k e =
      subst (λ x. Shows P θ b' (first x) (second x)) e (report_shows promised t l _ s)
  judged_shows (is_stable st) n k e = absurd (apart e (λ q. omega arith))

-- ---- a call

module _ {s a b : List ℕ} where
  turned_down_is : {r : Answer} {b' : List ℕ} → Checks s a b r b' → (n at : ℕ) → r ≡ refusal n at → Refuses (lengths check_bytes a b) s n at
  turned_down_is (turned_down p) n at e = subst (λ x. Refuses (lengths check_bytes a b) s (first x) (second x)) e p
  turned_down_is (judged c j) n at e = absurd (not_refusal (accepts_promises c.accepts) j n at e)

  is_turned_down : {r : Answer} {b' : List ℕ} → Checks s a b r b' → (n at : ℕ) → Refuses (lengths check_bytes a b) s n at → r ≡ refusal n at
  is_turned_down (turned_down p) n at q = let e = same_refusal (lengths_fixed check_bytes a b) p q in cc
  is_turned_down (judged c j) n at q = absurd (refused_or_called q c)

  untouched_is : {r : Answer} {b' : List ℕ} → Checks s a b r b' → (n at : ℕ) → r ≡ refusal n at → b' ≡ b
  untouched_is (turned_down p) n at e = refl
  untouched_is (judged c j) n at e = absurd (not_refusal (accepts_promises c.accepts) j n at e)

  meaning_of : {r : Answer} {b' : List ℕ} → Checks s a b r b' → NotRefused r → (P : Program) × Accepts s P
  meaning_of (turned_down p) f = absurd (f _ _ refl)
  meaning_of (judged {P} c j) f = (P, c.accepts)

  -- a call that is not refused is judged, by the program that the file means
  verdict_of : {r : Answer} {b' : List ℕ} → Checks s a b r b' → NotRefused r → (P : Program) → Accepts s P → Judged P (assigned a) b r b'
  verdict_of (turned_down p) f P x = absurd (f _ _ refl)
  verdict_of {r} {b'} (judged c j) f P x = subst (λ Q. Judged Q (assigned a) b r b') (accepts_unique c.accepts x) j

  pub checks_demands : {r : Answer} {b' : List ℕ} → Checks s a b r b' → Demands s a b r b'
  checks_demands c = record {
    turned_down = λ n at. (turned_down_is c n at, is_turned_down c n at);
    untouched = untouched_is c;
    means = meaning_of c;
    called_stable = λ f P x. let j = verdict_of c f P x in let p = accepts_promises x in (judged_stable p j, stable_judged p j);
    called_unfounded = λ f P x. let j = verdict_of c f P x in let p = accepts_promises x in (judged_unfounded p j, unfounded_judged p j);
    shows = λ P x n k e. judged_shows (accepts_promises x) (verdict_of c (λ n' at q. apart (sym e ∙ q) (λ w. omega arith)) P x) n k e;
  }
