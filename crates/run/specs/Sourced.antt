-- What holds of a run, said of what it reads.
use Rattle.std.specs.Prelude.{ℕ, List, ℤ}
use Rattle.program.specs.Program.{Program}
use Rattle.program.specs.Readings.{Valuation}
use Rattle.meaning.specs.Reduct.{Reckoning}
use Rattle.run.specs.Running.{Reckons, Underway, Running, SomeRun, SomeWay}
use Rattle.run.specs.declared.Source.{Source}

abbrev pub ReckonsBy : Source → Program → Reckoning → Valuation → Type 0
ReckonsBy q P R θ = Reckons q.file.now P R θ q.offsets.now q.masks.now q.others.now q.stops.now q.cut

abbrev pub UnderwayBy : Source → Program → Reckoning → Valuation → List ℤ → Type 0
UnderwayBy q P R θ m = Underway q.file.now P R θ q.offsets.now q.masks.now q.others.now q.stops.now q.cut m

abbrev pub RunningBy : Source → Program → Reckoning → Valuation → List ℕ → List ℤ → List ℕ → Type 0
RunningBy q P R θ readers m waiting = Running q.file.now P R θ q.offsets.now q.masks.now readers q.others.now q.stops.now q.cut m waiting

abbrev pub SomeRunBy : Source → List ℕ → List ℤ → List ℕ → Type 0
SomeRunBy q readers m waiting = SomeRun q.file.now q.offsets.now q.masks.now readers q.others.now q.stops.now q.cut m waiting

abbrev pub SomeWayBy : Source → List ℤ → Type 0
SomeWayBy q m = SomeWay q.file.now q.offsets.now q.masks.now q.others.now q.stops.now q.cut m
