-- What reading all fields of a file finds.
use Rattle.std.specs.Prelude.{ℕ, ◌≤◌, ◌≡◌, List, length, Result, Ok, Err}
use Rattle.program.specs.Program.{Program, program, variables_at}
use Rattle.program.specs.Reading.{Whole, Reads, refused, number_of}
use Rattle.program.specs.declared.Counts.{Counts}
use Rattle.program.specs.declared.Rejection.{Rejection}

-- P is a program of so many variables, rules and constraints, the variables those that stand in the file
pub record Describes (s : List ℕ) (k : Counts) (P : Program) : Type 0 where
  pub variables_are : P.variables ≡ variables_at s k.variables
  pub rules_are : length P.rules ≡ k.rules
  pub constraints_are : length P.constraints ≡ k.constraints

-- the file has so many fields of each kind, and none of them meets a refusal
pub record Counted (s : List ℕ) (counts : Counts) : Type 0 where
  pub fields : ℕ
  pub whole : Whole s fields
  pub describes : Describes s counts (program s fields)

-- the file's first refusal, by its length or by a field: none of these is 13
pub record Stopped (s : List ℕ) (n at : ℕ) : Type 0 where
  pub reads : Reads s (refused n at)
  pub early : n ≤ 12

-- all fields are fine, or the first refusal is the file's
abbrev pub Scans : List ℕ → Result Counts Rejection → Type 0
Scans s (Ok counts) = Counted s counts
Scans s (Err r) = Stopped s (number_of r.why) r.at
