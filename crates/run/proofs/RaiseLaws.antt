-- Values on the way: what a raise keeps, and what it brings nearer.
use Prim.Native.Nat.{ℕ, ◌<◌}
use mathlib.Core.Path.{◌≡◌, sym, ap, ◌∙◌, subst}
use mathlib.Core.Logic.{◌⊎◌, inl, inr}
use mathlib.Core.Bool.{Bool, true, false, not}
use mathlib.Core.List.{List}
use native.Mathlib.Decide.{ℕ_discrete}
use native.Mathlib.Omega.{arith}
use lib.Dec.{T, T_not}
use lib.IntN.{ℤ, pos}
use lib.ListN.{length, get_or, set}
use lib.Seq.{get_or-set_same, get_or-set_other}
use borrow.Author.Tests.{not-false}
use Rattle.format.specs.Limits.{max_variables}
use Rattle.program.specs.Program.{Program, variable_in, variables_at}
use Rattle.program.specs.Reading.{Accepts}
use Rattle.program.specs.Variables.{is_founded, far, not_past}
use Rattle.program.specs.Readings.{Valuation, valued}
use Rattle.program.specs.Evaluable.{Small}
use Rattle.program.specs.declared.Variable.{Variable}
use Rattle.program.proofs.Promises.{Promises, accepts_promises}
use Rattle.program.proofs.Tests.{is_test}
use Rattle.program.proofs.Variables.{past_trans, far_last}
use Rattle.reader.proofs.Published.{variables_length, variable_at_is, variable_lies, program_limited}
use Rattle.meaning.specs.Founded.{Model, Least, AtOrBefore}
use Rattle.meaning.specs.Reduct.{Reckoning, reckoned}
use Rattle.meaning.specs.Narrowing.{Narrows}
use Rattle.meaning.proofs.InRanges.{within_small}
use Rattle.meaning.proofs.Laws.{at_refl, before_at}
use Rattle.meaning.proofs.Theory.{Progress, progress_raise, progress_done, under_given}
use Rattle.meaning.proofs.Monotone.{head_founded}
use Rattle.meaning.proofs.Narrowing.{narrows_founded, narrows_past, narrows_within}
use Rattle.meaning.proofs.Steps.{Raised, gap, gap_raised}
use Rattle.run.specs.Running.{head_of, RuleMetIn, RuleStands, AsAssigned, Exceeds, Stored, Underway}

-- ---- one value is stored

pub raised_is : (m : List ℤ) (h : ℕ) (a : ℤ) → h < length m → Raised (valued m) (valued (set m h a)) h a
raised_is m h a l v = go (ℕ_discrete v h)
  where
    go : Dec (v ≡ h) → (valued (set m h a) v ≡ valued m v) ⊎ ((h ≡ v) × (valued (set m h a) v ≡ a))
    go (yes q) = inr (sym q, ap (valued (set m h a)) q ∙ get_or-set_same m h a (pos 0) l)
    go (no n) = inl (get_or-set_other m h v a (pos 0) n)

-- the test of the far end
module _ (x : Variable) (a : ℤ) {t : Bool} (e : t ≡ not (not_past x a (far x))) where
  pub past_far : t ≡ true → T (not (not_past x a (far x)))
  past_far h = is_test (sym e ∙ h)

  pub not_past_far : t ≡ false → T (not_past x a (far x))
  not_past_far h = is_test (not-false (not_past x a (far x)) (sym e ∙ h))

-- what storing answers
module _ (y : Variable) (h : ℕ) (a : ℤ) (m m⁺ : List ℤ) {t : Bool} (o : Stored y h a m m⁺ t) where
  pub stored : t ≡ true → T (not_past y a (far y)) × (m⁺ ≡ set m h a)
  stored e = rw e at o

  pub not_stored : t ≡ false → T (not (not_past y a (far y))) × (m⁺ ≡ m)
  not_stored e = rw e at o

-- ---- values on the way

module _ {s : List ℕ} {P : Program} {R : Reckoning} {θ : Valuation} {offsets masks : List ℕ} {others stops : List ℤ} {cut : Bool} {m : List ℤ}
    (k : Underway s P R θ offsets masks others stops cut m) where
  accepts : Accepts s P
  accepts = k.basis.reckons.accepts

  promises : Promises P
  promises = accepts_promises accepts

  narrows : Narrows P R
  narrows = k.basis.reckons.narrows

  -- a value in a range of the reckoning lies in the declared one
  pub way_small : Small m × Small others
  way_small = (within_small promises m (narrows_within narrows k.progress.within), k.basis.small)

  pub way_assigned : AsAssigned P θ m
  way_assigned v n = k.progress.standard v (subst (λ (b : Bool). T (not b)) (sym (narrows_founded narrows v)) n)

  pub way_done : ((i : ℕ) → i < length P.rules → RuleMetIn P R θ (valued m) i) → Least (reckoned P R) θ (valued m)
  way_done h = progress_done {𝒮 = reckoned P R} k.progress h

  -- a rule exceeds its head
  module _ {i : ℕ} {a : ℤ} (l : i < length P.rules) (x : Exceeds P R θ (valued m) i a) where
    pub way_stands : RuleStands s P i (get_or offsets i 0)
    way_stands = k.basis.reckons.stands i l

    declared : head_of P i < length P.variables
    declared = (promises.rules i l).head_declared

    pub head_few : head_of P i < max_variables
    head_few = omega (arith, declared, (program_limited accepts).few_variables)

    -- the head's variable, in the program and in the file
    abbrev head_in : Variable
    head_in = variable_in P.variables (head_of P i)

    stands_in : variable_in (variables_at s max_variables) (head_of P i) ≡ head_in
    stands_in = variable_at_is s max_variables (head_of P i) head_few ∙ sym (variable_lies accepts (head_of P i) declared)

    -- its order is that of the reckoning's variable
    same_order : (b c : ℤ) → not_past (R.variable (head_of P i)) b c ≡ not_past head_in b c
    same_order b c = narrows_past narrows (head_of P i) b c

    -- beyond its declared range: no model
    pub way_over : T (not (not_past head_in a (far head_in))) → (m' : Valuation) → Model (reckoned P R) θ m' → ⊥
    way_over t m' n =
        let h = head_of P i in
        let b : T (not_past (R.variable h) a (m' h)) = rw x.gives_it at (under_given k.basis.laws k.basis.assigned k.progress i l m' n) in
        T_not (not_past head_in a (far head_in)) t
        (past_trans head_in a (m' h) (far head_in) (subst T (same_order a (m' h)) b) (far_last head_in (m' h) (narrows.inside h (m' h) (n.within.inside h))))

    -- within its range: on the way, and nearer
    module _ (full : length m ≡ max_variables) (t : T (not_past head_in a (far head_in))) {m⁺ : List ℤ} (e : m⁺ ≡ set m (head_of P i) a) where
      pub way_raised : Raised (valued m) (valued m⁺) (head_of P i) a
      way_raised = rw e (raised_is m (head_of P i) a (omega (arith, head_few, full)))

      pub way_stored : valued m⁺ (head_of P i) ≡ a
      way_stored = rw e (get_or-set_same m (head_of P i) a (pos 0) (omega (arith, head_few, full)))

      more : AtOrBefore (reckoned P R) (head_of P i) (valued m (head_of P i)) a
      more = before_at x.more

      founded : T (is_founded (R.variable (head_of P i)))
      founded = subst T (sym (narrows_founded narrows (head_of P i))) (head_founded promises i l)

      next : Progress (reckoned P R) θ (valued m⁺)
      next =
          progress_raise k.basis.laws k.basis.assigned k.progress i l founded a a x.gives_it
          (at_refl (head_of P i) a) more (k.basis.inside i l (valued m) a x.gives_it t) (valued m⁺) way_raised

      pub way_on : Underway s P R θ offsets masks others stops cut m⁺
      way_on = record { basis = k.basis; progress = next }

      pub way_risen : (v : ℕ) → AtOrBefore (reckoned P R) v (valued m v) (valued m⁺ v)
      way_risen v = go (way_raised v)
        where
          go : (valued m⁺ v ≡ valued m v) ⊎ ((head_of P i ≡ v) × (valued m⁺ v ≡ a)) → AtOrBefore (reckoned P R) v (valued m v) (valued m⁺ v)
          go (inl q) = rw q (at_refl v (valued m v))
          go (inr q) = rw (q.1, ← q.0) more

      pub way_nearer : gap (variables_at s max_variables) m⁺ < gap (variables_at s max_variables) m
      way_nearer =
          rw e
          (gap_raised (variables_at s max_variables) m (head_of P i) a (omega (arith, head_few, variables_length s max_variables))
          (omega (arith, full, variables_length s max_variables))
          (rw stands_in (subst (λ (b : Bool). T (not b)) (same_order a (valued m (head_of P i))) x.more.lt)) (rw stands_in t))
