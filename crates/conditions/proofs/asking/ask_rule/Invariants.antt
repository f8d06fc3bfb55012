-- One position after the other.
use Rattle.words.specs.Bit.{has}
use Rattle.program.specs.Tables.{any_below}
use Rattle.program.specs.Program.{rule_of, variables_at}
use Rattle.report.specs.Report.{asked_at}
use Rattle.conditions.specs.Asking.{AsksMore}
use Rattle.conditions.proofs.asking.ask_rule.Given as goal

abbrev pub invariant-loop-j : goal.invariant-loop-j
invariant-loop-j l = AsksMore l.initial.all l.all (λ asks v. any_below l.j (λ i. asked_at (variables_at l.file l.variables) (has l.set.words) asks (rule_of l.value) i v))
