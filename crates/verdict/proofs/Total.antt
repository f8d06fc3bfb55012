-- The call check has an answer for every file, assignment and lent report.
use Prim.Native.Nat.{ℕ, ◌<◌}
use mathlib.Core.Path.{◌≡◌, refl}
use mathlib.Core.Logic.{◌⊎◌, inl, inr}
use mathlib.Core.Bool.{Bool, true, not, false}
use mathlib.Core.List.{List}
use native.Mathlib.Omega.{arith}
use lib.Dec.{T, not_T, T_not}
use lib.ListN.{length}
use Rattle.program.specs.Program.{Program, rule_in, constraint_in, term_in, variable_in}
use Rattle.program.specs.Evaluate.{satisfied}
use Rattle.program.proofs.Promises.{Promises, accepts_promises}
use Rattle.meaning.specs.Founded.{Within, Least}
use Rattle.meaning.specs.Reduct.{reduct, system}
use Rattle.meaning.specs.Stable.{assigned, RuleMet, ConstraintMet, Meets}
use Rattle.meaning.specs.Calls.{Called, lengths}
use Rattle.meaning.specs.LeastCall.{FirstOutside, AllInside}
use Rattle.meaning.proofs.InRanges.{founded_declared, assigned_within}
use Rattle.meaning.proofs.Theory.{self_model, self_least_iff}
use Rattle.meaning.proofs.Monotone.{laws}
use Rattle.meaning.proofs.Search.{Solvable, solvable}
use Rattle.meaning.proofs.Total.{ranged}
use Rattle.report.specs.Report.{shown}
use Rattle.verdict.specs.Checks.{Answer, FirstUnmet, Judged, outside, rule_unmet, constraint_unmet, some_shown, is_stable, Checks, turned_down, judged, check_bytes}
use Rattle.program.specs.Readings.{Valuation, gives}
use Rattle.program.proofs.Tests.{cases, First, first_or_all, is_it}
use Rattle.meaning.proofs.Denials.{Begun, begun, lengths_told, long}
use Rattle.program.specs.Variables.{no_more}
use Rattle.program.proofs.Variables.{short_founded}

-- an answer, what the report then holds, and that they are the call's
abbrev pub Answers : List ℕ → List ℕ → List ℕ → Type 0
Answers s a b = (r : Answer) × (b' : List ℕ) × Checks s a b r b'

-- ---- what is met can be told

told : (c : Bool) → Dec (T c)
told true = yes tt
told false = no (λ t. t)

first_unmet_is : (Met : ℕ → Type 0) → ((i : ℕ) → Dec (Met i)) → (n : ℕ) → ((i : ℕ) × FirstUnmet Met n i) ⊎ ((i : ℕ) → i < n → Met i)
first_unmet_is Met d n = go (first_or_all Met d n)
  where
    go : ((i : ℕ) × (i < n) × First Met i) ⊎ ((i : ℕ) → i < n → Met i) → ((i : ℕ) × FirstUnmet Met n i) ⊎ ((i : ℕ) → i < n → Met i)
    go (inl f) = inl (f.0, record { among = f.1; unmet = f.2.0; first = f.2.1 })
    go (inr all) = inr all

-- ---- a verdict

module _ {P : Program} (promised : Promises P) (θ : Valuation) (b : List ℕ) where
  abbrev Verdict : Type 0
  Verdict = (r : Answer) × (b' : List ℕ) × Judged P θ b r b'

  -- some variable is short, or none is
  shorts : (m : Valuation) → ((v : ℕ) × T (shown P θ m v)) ⊎ ((v : ℕ) → T (not (shown P θ m v)))
  shorts m = go (first_or_all (λ v. not (shown P θ m v) ≡ true) (λ v. is_it (not (shown P θ m v))) (length P.variables))
    where
      go : ((v : ℕ) × (v < length P.variables) × First (λ v. not (shown P θ m v) ≡ true) v) ⊎ ((v : ℕ) → v < length P.variables → not (shown P θ m v) ≡ true)
          → ((v : ℕ) × T (shown P θ m v)) ⊎ ((v : ℕ) → T (not (shown P θ m v)))
      go (inl f) = inl (f.0, is_short (shown P θ m f.0) f.2.0)
        where
          is_short : (c : Bool) → (not c ≡ true → ⊥) → T c
          is_short c h = cases c (λ d. (not d ≡ true → ⊥) → T d) (λ t k. tt) (λ n k. absurd (k refl)) h
      go (inr all) = inr (λ v. not_T (shown P θ m v) (λ t.
          never (shown P θ m v) t (all v (founded_declared P.variables v (short_founded (variable_in P.variables v) (θ v) (m v) t)))))
        where
          never : (c : Bool) → T c → not c ≡ true → ⊥
          never c t e = T_not c (rw e tt) t

  founded_or : Meets P θ → (m : Valuation) → Least (system P) θ m → ((v : ℕ) × T (shown P θ m v)) ⊎ ((v : ℕ) → T (not (shown P θ m v))) → Verdict
  founded_or t m l (inl s) = (_, _, some_shown t l s)
  founded_or t m l (inr n) = (_, _, is_stable (record { meets = t; least = (self_least_iff (laws promised) (self_model t.ranges t.rules) l).1 n }))

  modelled : Meets P θ → Solvable P (reduct P) θ → Verdict
  modelled t (inl l) = founded_or t l.0 l.1 (shorts l.0)
  modelled t (inr n) = absurd (n θ (self_model t.ranges t.rules))

  constrained : Within (system P) θ → ((j : ℕ) → j < length P.rules → RuleMet P θ j)
      → ((i : ℕ) × FirstUnmet (ConstraintMet P θ) (length P.constraints) i) ⊎ ((i : ℕ) → i < length P.constraints → ConstraintMet P θ i) → Verdict
  constrained w r (inl f) = (_, _, constraint_unmet w r f.1)
  constrained w r (inr c) = modelled (record { ranges = w; rules = r; constraints = c }) (solvable promised w)

  ruled : Within (system P) θ → ((i : ℕ) × FirstUnmet (RuleMet P θ) (length P.rules) i) ⊎ ((i : ℕ) → i < length P.rules → RuleMet P θ i) → Verdict
  ruled w (inl f) = (_, _, rule_unmet w f.1)
  ruled w (inr r) =
      constrained w r (first_unmet_is (ConstraintMet P θ)
      (λ i. is_it (satisfied (constraint_in P.constraints i) (λ j. θ (term_in (constraint_in P.constraints i).terms j).variable))) (length P.constraints))

  verdict : (AllInside P θ → Within (system P) θ) → ((v : ℕ) × FirstOutside P θ v) ⊎ AllInside P θ → Verdict
  verdict w (inl f) = (_, _, outside f.1)
  verdict w (inr i) =
      ruled (w i)
      (first_unmet_is (RuleMet P θ)
      (λ j. let r = rule_in P.rules j in told (no_more (variable_in P.variables r.head) (gives P.variables r θ θ) (θ r.head))) (length P.rules))

pub checks_total : (s a b : List ℕ) → Answers s a b
checks_total s a b = go (begun (lengths check_bytes a b) (lengths_told check_bytes a b) s)
  where
    called : (P : Program) → Called (lengths check_bytes a b) s P → Answers s a b
    called P c =
        let v = verdict (accepts_promises c.accepts) (assigned a) b (assigned_within P a (omega (arith, long check_bytes a b c))) (ranged P (assigned a)) in
        (v.0, v.1, judged c v.2)

    go : Begun (lengths check_bytes a b) s → Answers s a b
    go (inl r) = (_, _, turned_down r.2)
    go (inr c) = called c.0 c.1
