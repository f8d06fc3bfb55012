-- What hastening keeps.
use Rattle.std.specs.Prelude.{ℕ, ◌≤◌, Bool, List, ℤ, Result}
use Rattle.format.specs.Limits.{max_variables}
use Rattle.program.specs.Program.{Program, variables_at}
use Rattle.program.specs.Readings.{Valuation}
use Rattle.meaning.specs.Reduct.{Reckoning}
use Rattle.meaning.proofs.Steps.{gap}
use Rattle.run.specs.Running.{Running}
use Rattle.laps.specs.Laps.{AfterLap}
use Rattle.run.specs.declared.NoModel.{NoModel}
use Rattle.run.specs.declared.Source.{Source}

-- no value is further from its far end
abbrev pub Nearer : List ℕ → List ℤ → List ℤ → Type 0
Nearer s m m⁺ = gap (variables_at s max_variables) m⁺ ≤ gap (variables_at s max_variables) m

-- a run goes on as a run
pub record RunKept (s offsets masks readers : List ℕ) (others stops : List ℤ) (cut : Bool) (m : List ℤ) (waiting : List ℕ) (m⁺ : List ℤ) (waiting⁺ : List ℕ) : Type 0 where
  pub on : (P : Program) (R : Reckoning) (θ : Valuation) → Running s P R θ offsets masks readers others stops cut m waiting
      → Running s P R θ offsets masks readers others stops cut m⁺ waiting⁺
  pub nearer : Nearer s m m⁺

-- or shows that there is no model
pub record RunLapped (s offsets masks readers : List ℕ) (others stops : List ℤ) (cut : Bool) (m : List ℤ) (waiting : List ℕ) (m⁺ : List ℤ) (waiting⁺ : List ℕ) (r : Result Bool NoModel) : Type 0 where
  pub after : (P : Program) (R : Reckoning) (θ : Valuation) → Running s P R θ offsets masks readers others stops cut m waiting
      → AfterLap s P R θ offsets masks readers others stops cut m⁺ waiting⁺ r
  pub nearer : Nearer s m m⁺

-- the same, said of what the run reads
abbrev pub RunKeptBy : Source → List ℕ → List ℤ → List ℕ → List ℤ → List ℕ → Type 0
RunKeptBy q readers m waiting m⁺ waiting⁺ = RunKept q.file.now q.offsets.now q.masks.now readers q.others.now q.stops.now q.cut m waiting m⁺ waiting⁺

abbrev pub RunLappedBy : Source → List ℕ → List ℤ → List ℕ → List ℤ → List ℕ → Result Bool NoModel → Type 0
RunLappedBy q readers m waiting m⁺ waiting⁺ r = RunLapped q.file.now q.offsets.now q.masks.now readers q.others.now q.stops.now q.cut m waiting m⁺ waiting⁺ r
