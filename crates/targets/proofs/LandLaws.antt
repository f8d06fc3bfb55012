-- A value becomes its target, which is at or before every model: the run goes on, nearer to the far ends.
use Prim.Native.Nat.{ℕ, ◌<◌, ◌≤◌}
use mathlib.Core.Path.{◌≡◌, sym, ap, ◌∙◌, subst}
use mathlib.Core.Logic.{◌⊎◌, inl, inr}
use mathlib.Core.Bool.{Bool, not}
use mathlib.Core.List.{List}
use native.Mathlib.Omega.{arith}
use lib.Dec.{T, not_T}
use lib.IntN.{ℤ}
use lib.ListN.{length}
use Rattle.format.specs.Limits.{max_variables}
use Rattle.words.specs.Bit.{has}
use Rattle.program.specs.Program.{Program, variable_in, variables_at}
use Rattle.program.specs.Reading.{Accepts}
use Rattle.program.specs.Variables.{is_founded, not_past}
use Rattle.program.specs.Readings.{Valuation, valued}
use Rattle.program.specs.declared.Variable.{Variable}
use Rattle.program.proofs.Tests.{cases}
use Rattle.program.proofs.Variables.{past_antisym, far_last}
use Rattle.reader.proofs.Published.{variables_length, variable_at_is, variable_lies}
use Rattle.meaning.specs.Founded.{AtOrBefore}
use Rattle.meaning.specs.Reduct.{Reckoning, reckoned}
use Rattle.meaning.specs.Narrowing.{Narrows}
use Rattle.meaning.proofs.InRanges.{founded_declared}
use Rattle.meaning.proofs.Laws.{at_refl}
use Rattle.meaning.proofs.Narrowing.{narrows_founded, narrows_past}
use Rattle.meaning.proofs.Theory.{Progress}
use Rattle.meaning.proofs.Steps.{Raised, gap, gap_raised}
use Rattle.run.specs.Running.{MetOutside, RaisedTo, Underway}
use Rattle.run.proofs.RaiseLaws.{raised_is}
use Rattle.run.proofs.SolveLaws.{joined_same, joined_met, joined_rules}
use Rattle.targets.specs.Aims.{PlacedAt, Landing}
use Rattle.targets.proofs.TargetLaws.{progress_mixed}

module _ {s : List ℕ} {P : Program} {R : Reckoning} {θ : Valuation} {offsets masks readers : List ℕ} {others stops : List ℤ} {cut : Bool} {target m : List ℤ} {w : List ℕ}
    (k : Landing s P R θ offsets masks readers others stops cut target m w) where
  accepts : Accepts s P
  accepts = k.run.task.basis.reckons.accepts

  narrows : Narrows P R
  narrows = k.run.task.basis.reckons.narrows

  -- ---- the value is another

  module _ (v : ℕ) (few : v < max_variables) (full : length m ≡ max_variables) {m⁺ : List ℤ} {w⁺ : List ℕ} (other : valued m v ≡ valued target v → ⊥)
      (r : RaisedTo readers v (valued target v) m m⁺ w w⁺) where
    is : Raised (valued m) (valued m⁺) v (valued target v)
    is = rw r.model_is (raised_is m v (valued target v) (omega arith))

    next : Progress (reckoned P R) θ (valued m⁺)
    next = progress_mixed k.run.progress k.goal (λ u. go u (is u))
      where
        go : (u : ℕ) → (valued m⁺ u ≡ valued m u) ⊎ ((v ≡ u) × (valued m⁺ u ≡ valued target v)) → (valued m⁺ u ≡ valued m u) ⊎ (valued m⁺ u ≡ valued target u)
        go u (inl q) = inl q
        go u (inr q) = inr (q.1 ∙ ap (valued target) q.0)

    risen : (u : ℕ) → AtOrBefore (reckoned P R) u (valued m u) (valued m⁺ u)
    risen u = go (is u)
      where
        go : (valued m⁺ u ≡ valued m u) ⊎ ((v ≡ u) × (valued m⁺ u ≡ valued target v)) → AtOrBefore (reckoned P R) u (valued m u) (valued m⁺ u)
        go (inl q) = rw q (at_refl u (valued m u))
        go (inr q) = rw (q.1, ← q.0) (k.under v)

    still_under : (u : ℕ) → AtOrBefore (reckoned P R) u (valued m⁺ u) (valued target u)
    still_under u = go (is u)
      where
        go : (valued m⁺ u ≡ valued m u) ⊎ ((v ≡ u) × (valued m⁺ u ≡ valued target v)) → AtOrBefore (reckoned P R) u (valued m⁺ u) (valued target u)
        go (inl q) = rw q (k.under u)
        go (inr q) = rw (q.1, ← q.0) (at_refl v (valued target v))

    way⁺ : Underway s P R θ offsets masks others stops cut m⁺
    way⁺ = record { basis = k.run.task.basis; progress = next }

    -- a rule that does not join the set gives what it gave, to a head that has no less
    outside : MetOutside P R θ (valued m⁺) (has w⁺)
    outside j l e = joined_met k.run v few (valued target v) w r way⁺ is risen j l e (k.run.outside j l (joined_same k.run v few (valued target v) w r way⁺ is j l e).0)

    raised_on : Landing s P R θ offsets masks readers others stops cut target m⁺ w⁺
    raised_on = record { run = record { task = k.run.task; progress = next; outside = outside; rules = joined_rules k.run v few (valued target v) w r way⁺ is (λ j h. h) }; goal = k.goal; under = still_under }

    -- standard variables have one value, so the variable is founded and declared
    abbrev here : Variable
    here = variable_in P.variables v

    founded : T (is_founded here)
    founded = cases (is_founded here) (λ b. T (is_founded here)) (λ t. t)
        (λ n. let n' = subst (λ (b : Bool). T (not b)) (sym (narrows_founded narrows v)) n in absurd (other (k.run.progress.standard v n' ∙ sym (k.goal.standard v n'))))

    stands : variable_in (variables_at s max_variables) v ≡ here
    stands = variable_at_is s max_variables v few ∙ sym (variable_lies accepts v (founded_declared P.variables v founded))

    after : T (not (not_past here (valued target v) (valued m v)))
    after = not_T (not_past here (valued target v) (valued m v))
        (λ t. other (past_antisym here (valued m v) (valued target v) (subst T (narrows_past narrows v (valued m v) (valued target v)) (k.under v).le) t))

    raised_nearer : gap (variables_at s max_variables) m⁺ < gap (variables_at s max_variables) m
    raised_nearer =
        rw r.model_is
        (gap_raised (variables_at s max_variables) m v (valued target v) (omega (arith, variables_length s max_variables)) (omega (arith, variables_length s max_variables))
        (rw stands after) (rw stands (far_last here (valued target v) (narrows.inside v (valued target v) (k.goal.within.inside v)))))

  -- ---- the value is its target, however it was

  module _ (v : ℕ) (few : v < max_variables) (full : length m ≡ max_variables) (t : ℤ) (e : t ≡ valued target v) (m⁺ : List ℤ) (w⁺ : List ℕ) where
    pub land_on : PlacedAt readers v t m m⁺ w w⁺ → Landing s P R θ offsets masks readers others stops cut target m⁺ w⁺
    land_on (inl p) = rw (p.1.model_is, p.1.waiting_is) k
    land_on (inr p) = raised_on v few full (subst (λ z. valued m v ≡ z → ⊥) e p.0) (rw e at p.1)

    pub land_nearer : PlacedAt readers v t m m⁺ w w⁺ → gap (variables_at s max_variables) m⁺ ≤ gap (variables_at s max_variables) m
    land_nearer (inl p) = rw p.1.model_is (omega arith)
    land_nearer (inr p) = omega (arith, raised_nearer v few full (subst (λ z. valued m v ≡ z → ⊥) e p.0) (rw e at p.1))
