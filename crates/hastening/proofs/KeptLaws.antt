-- Runs that go on.
use Rattle.std.specs.Prelude.{Result, Ok}
use Prim.Native.Nat.{ℕ, ◌≤◌, ◌<◌}
use mathlib.Core.Path.{◌≡◌, sym, subst}
use mathlib.Core.Bool.{Bool}
use mathlib.Core.List.{List}
use native.Mathlib.Omega.{arith}
use lib.IntN.{ℤ}
use Rattle.format.specs.Limits.{max_rules}
use Rattle.program.specs.Reading.{AcceptedAs}
use Rattle.program.specs.Evaluable.{Small}
use Rattle.program.specs.declared.Counts.{Counts}
use Rattle.reader.proofs.Published.{limited, counts_of_is}
use Rattle.run.specs.Running.{SomeRun}
use Rattle.run.proofs.SolveLaws.{run_small}
use Rattle.sequence.specs.Standing.{RulesStand}
use Rattle.hastening.specs.Kept.{RunKept, RunLapped}
use Rattle.run.specs.declared.NoModel.{NoModel}

module _ {s offsets masks readers : List ℕ} {others stops : List ℤ} {cut : Bool} {m : List ℤ} {w : List ℕ} where
  pub kept_still : RunKept s offsets masks readers others stops cut m w m w
  kept_still = record { on = λ P R θ k. k; nearer = omega arith }

  module _ {m' : List ℤ} {w' : List ℕ} (k : RunKept s offsets masks readers others stops cut m w m' w') where
    pub kept_then : {m'' : List ℤ} {w'' : List ℕ} → RunKept s offsets masks readers others stops cut m' w' m'' w'' → RunKept s offsets masks readers others stops cut m w m'' w''
    kept_then l = record { on = λ P R θ r. l.on P R θ (k.on P R θ r); nearer = omega (arith, k.nearer, l.nearer) }

    pub kept_some : SomeRun s offsets masks readers others stops cut m w → SomeRun s offsets masks readers others stops cut m' w'
    kept_some r = record { program = r.program; reckoning = r.reckoning; assigned = r.assigned; run = k.on r.program r.reckoning r.assigned r.run }

  module _ (r : SomeRun s offsets masks readers others stops cut m w) where
    pub some_small : Small m × Small others
    some_small = run_small r.run

    -- the rules of the counts stand in the tables
    pub some_stand : (k : Counts) → AcceptedAs s k → (k.rules ≤ max_rules) × RulesStand s offsets k.rules
    some_stand k a = (
      (limited a).few_rules,
      λ i l. let q = r.run.task.basis.reckons in
          record { program = r.program; rule = i; here = q.stands i (subst (λ (n : ℕ). i < n) (sym (counts_of_is a q.accepts).rules_are) l) },
    )

-- ---- after laps

module _ {s offsets masks readers : List ℕ} {others stops : List ℤ} {cut : Bool} {m : List ℤ} {w : List ℕ} {m' : List ℤ} {w' : List ℕ} where
  pub kept_on : {b : Bool} → RunKept s offsets masks readers others stops cut m w m' w' → RunLapped s offsets masks readers others stops cut m w m' w' (Ok b)
  kept_on k = record { after = k.on; nearer = k.nearer }

  pub lapped_on : {r : Result Bool NoModel} {b : Bool} → RunLapped s offsets masks readers others stops cut m w m' w' r → r ≡ Ok b → RunKept s offsets masks readers others stops cut m w m' w'
  lapped_on k e = record { on = λ P R θ r. rw e at (k.after P R θ r); nearer = k.nearer }

  pub kept_lapped : {r : Result Bool NoModel} {m'' : List ℤ} {w'' : List ℕ} → RunKept s offsets masks readers others stops cut m w m' w'
      → RunLapped s offsets masks readers others stops cut m' w' m'' w'' r → RunLapped s offsets masks readers others stops cut m w m'' w'' r
  kept_lapped k l = record { after = λ P R θ r. l.after P R θ (k.on P R θ r); nearer = omega (arith, k.nearer, l.nearer) }
