-- A report that shows sets, and the answer with it.
use Rattle.std.specs.Prelude.{ℕ, ◌+◌, ◌*◌, ◌≡◌, Bool, List, ◌++◌, drop, Ok}
use Rattle.format.specs.Limits.{max_variables}
use Rattle.words.specs.Bit.{count_from}
use Rattle.report.specs.Report.{bytes_in, bound, bound_above, at_most, at_least}
use Rattle.report.specs.Written.{marked}
use Rattle.verdict.specs.Checks.{unfounded, answer_of}
use Rattle.verdict.specs.declared.Verdict.{Verdict}
use Rattle.program.specs.Readings.{Valuation}

-- how many variables a set has
abbrev pub size_of : (ℕ → Bool) → ℕ
size_of set = count_from set 0 max_variables

-- how many entries show a set, in two parts by the kind of its variables, and its conditions
abbrev pub entry_count : (ℕ → Bool) → (ℕ → Bool) → (ℕ → Bool) → (ℕ → Bool) → ℕ
entry_count below above most least = (size_of below + size_of above) + (size_of most + size_of least)

-- the report that was b, with a set and its bounds m, and its conditions with the values θ, from its first byte on
abbrev pub with_sets : (ℕ → Bool) → (ℕ → Bool) → (ℕ → Bool) → (ℕ → Bool) → Valuation → Valuation → List ℕ → List ℕ
with_sets below above most least m θ b =
    bytes_in (marked below bound above bound_above m ++ marked most at_most least at_least θ) ++ drop (4 * entry_count below above most least) b

-- the answer and the report b' show them
pub record ShowsSets (below above most least : ℕ → Bool) (m θ : Valuation) (b b' : List ℕ) (r : Verdict) : Type 0 where
  pub answer : answer_of (Ok r) ≡ unfounded (size_of below + size_of above) (size_of most + size_of least)
  pub bytes : b' ≡ with_sets below above most least m θ b
