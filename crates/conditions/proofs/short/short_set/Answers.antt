-- Each variable by its own record and values.
use borrow.Author.Rules.{rules}
use Rattle.program.specs.Program.{variables_at}
use Rattle.program.specs.Readings.{valued}
use Rattle.conditions.specs.Shortfall.{short_in}
use Rattle.conditions.proofs.ShortLaws.{short_all}
use Rattle.conditions.proofs.short.short_set.Goals as goal

pub returns : goal.returns
returns c = short_all c.args.file.now c.args.variables (valued c.args.assigned.now) (valued c.args.model.now)
    (c.passing.ensures (short_in (variables_at c.args.file.now c.args.variables) (valued c.args.assigned.now) (valued c.args.model.now)) (λ v l b k. search rules))
