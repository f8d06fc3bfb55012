-- Values that climb from their starting ends, and what climbing ends with.
use Prim.Native.Nat.{ℕ, ◌<◌}
use mathlib.Core.Path.{◌≡◌, refl}
use mathlib.Core.Bool.{Bool, true, false}
use mathlib.Core.List.{List}
use lib.IntN.{ℤ}
use lib.ListN.{length}
use Rattle.program.specs.Program.{Program, variables_at}
use Rattle.program.specs.Reading.{AcceptedAs, Accepts}
use Rattle.program.specs.Readings.{valued}
use Rattle.program.specs.declared.Counts.{Counts}
use Rattle.program.proofs.Promises.{accepts_promises}
use Rattle.reader.proofs.Published.{reads_accepts}
use Rattle.meaning.specs.Founded.{Within}
use Rattle.meaning.specs.Reduct.{reduct, system}
use Rattle.meaning.specs.Stable.{RuleMet}
use Rattle.meaning.proofs.Narrowing.{reduct_narrows}
use Rattle.meaning.proofs.Theory.{Progress}
use Rattle.tables.specs.Laid.{Laid}
use Rattle.run.specs.Running.{Underway}
use Rattle.run.proofs.StartLaws.{reduct_bases}
use Rattle.ascent.specs.Ascending.{Climbing, SomeClimbing, SidesStart}
use Rattle.ascent.specs.Level.{LevelPast}
use Rattle.ascent.proofs.ReductLaws.{reduct_climbing}
use Rattle.ascent.proofs.ValueLaws.{start_progress}

module _ {s : List ℕ} {k : Counts} (r : AcceptedAs s k) (θ : List ℤ) (w : (P : Program) → Accepts s P → Within (system P) (valued θ)) (full : Bool)
    (met : full ≡ true → (P : Program) → Accepts s P → (i : ℕ) → i < length P.rules → RuleMet P (valued θ) i) (sides₀ sides : List ℤ)
    (past : LevelPast k.variables (valued θ) sides₀) (starts : SidesStart (variables_at s k.variables) k.variables (valued θ) (valued θ) sides₀ sides) where
  -- the start
  pub begun : (P : Program) → Accepts s P → Climbing P (reduct P) (valued θ) (valued θ) θ full sides
  begun P a =
      let h = start_progress r a (reduct_narrows P) (w P a) past (λ v l. refl) starts in
      reduct_climbing (accepts_promises a) (w P a) θ (λ v. refl) full (λ t. met t P a) h.0 h.1

  pub some_begun : SomeClimbing s θ full sides
  some_begun =
      let a = reads_accepts r in
      record { program = a.meant; reckoning = reduct a.meant; assigned = valued θ; others = valued θ; accepts = a.accepts; climbing = begun a.meant a.accepts }

-- ---- what is left open

pub reduct_way : {s : List ℕ} {k : Counts} {os ms : List ℕ} → Laid s k os ms → (θ m : List ℤ) → ((Q : Program) → Accepts s Q → Within (system Q) (valued θ))
    → ((Q : Program) → Accepts s Q → Progress (system Q) (valued θ) (valued m)) → (P : Program) → Accepts s P → Underway s P (reduct P) (valued θ) os ms θ θ false m
reduct_way l θ m w p P a = record { basis = reduct_bases l θ θ w P a; progress = p P a }
