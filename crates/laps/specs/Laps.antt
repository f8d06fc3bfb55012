-- What is known after some rules were looked at, in any order.
use Rattle.std.specs.Prelude.{ℕ, Bool, List, ℤ, Result, Ok, Err, Option}
use Rattle.program.specs.Program.{Program}
use Rattle.program.specs.Readings.{Valuation}
use Rattle.meaning.specs.Founded.{Model}
use Rattle.meaning.specs.Reduct.{Reckoning, reckoned}
use Rattle.run.specs.Running.{Running}
use Rattle.run.specs.declared.NoModel.{NoModel}
use Rattle.run.specs.declared.Source.{Source}

-- the run goes on, or there is no model
abbrev pub AfterTry : (s : List ℕ) (P : Program) (R : Reckoning) (θ : Valuation) (offsets masks readers : List ℕ) (others stops : List ℤ) (cut : Bool) → List ℤ → List ℕ → Result (Option ℕ) NoModel → Type 0
AfterTry s P R θ offsets masks readers others stops cut m waiting (Ok raised) = Running s P R θ offsets masks readers others stops cut m waiting
AfterTry s P R θ offsets masks readers others stops cut m waiting (Err _) = (m' : Valuation) → Model (reckoned P R) θ m' → ⊥

abbrev pub AfterLap : (s : List ℕ) (P : Program) (R : Reckoning) (θ : Valuation) (offsets masks readers : List ℕ) (others stops : List ℤ) (cut : Bool) → List ℤ → List ℕ → Result Bool NoModel → Type 0
AfterLap s P R θ offsets masks readers others stops cut m waiting (Ok raised) = Running s P R θ offsets masks readers others stops cut m waiting
AfterLap s P R θ offsets masks readers others stops cut m waiting (Err _) = (m' : Valuation) → Model (reckoned P R) θ m' → ⊥

-- the same, said of what the run reads
abbrev pub AfterTryBy : Source → Program → Reckoning → Valuation → List ℕ → List ℤ → List ℕ → Result (Option ℕ) NoModel → Type 0
AfterTryBy q P R θ readers m waiting r = AfterTry q.file.now P R θ q.offsets.now q.masks.now readers q.others.now q.stops.now q.cut m waiting r

abbrev pub AfterLapBy : Source → Program → Reckoning → Valuation → List ℕ → List ℤ → List ℕ → Result Bool NoModel → Type 0
AfterLapBy q P R θ readers m waiting r = AfterLap q.file.now P R θ q.offsets.now q.masks.now readers q.others.now q.stops.now q.cut m waiting r
