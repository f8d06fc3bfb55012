-- What passing a file answers: its fields alone are read, or its rules are judged too.
use Rattle.std.specs.Prelude.{ℕ, Bool, true, false, List, Result, Ok, Err}
use Rattle.program.specs.Reading.{Reads, AcceptedAs, refused, number_of}
use Rattle.fields.specs.Scanning.{Scans}
use Rattle.program.specs.declared.Rejection.{Rejection}
use Rattle.program.specs.declared.Counts.{Counts}

-- where the rules are judged, as reading answers
abbrev pub Passes : List ℕ → Bool → Result Counts Rejection → Type 0
Passes s true (Ok k) = AcceptedAs s k
Passes s true (Err r) = Reads s (refused (number_of r.why) r.at)
Passes s false r = Scans s r
