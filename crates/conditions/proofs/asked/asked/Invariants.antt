-- One rule after the other, each at its place.
use mathlib.Core.Path.{◌≡◌}
use Rattle.words.specs.Bit.{has}
use Rattle.program.specs.Tables.{any_below}
use Rattle.program.specs.Fields.{value_at}
use Rattle.program.specs.Program.{Program, rule_of, variables_at}
use Rattle.program.specs.Reading.{Accepts}
use Rattle.reader.specs.Parts.{rule_place}
use Rattle.conditions.specs.Asking.{AsksMore, asked_into}
use Rattle.conditions.proofs.asked.asked.Given as goal

abbrev pub invariant-loop-i : goal.invariant-loop-i
invariant-loop-i l = (P : Program) → Accepts l.file P → (l.at ≡ rule_place l.file P l.i)
    × AsksMore l.initial.all l.all (λ asks v. any_below l.i (λ j. asked_into (variables_at l.file l.n) (has l.set.words) (rule_of (value_at l.file (rule_place l.file P j))) asks v))
