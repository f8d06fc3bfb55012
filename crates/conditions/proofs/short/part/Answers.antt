-- Each variable by its own record.
use borrow.Author.Rules.{rules}
use Rattle.words.specs.Bit.{has}
use Rattle.program.specs.Program.{variables_at}
use Rattle.conditions.specs.Shortfall.{part_in}
use Rattle.conditions.proofs.short.part.Goals as goal

pub returns : goal.returns
returns c = c.passing.ensures (part_in c.args.above (variables_at c.args.file.now c.args.variables) (has c.args.set.words)) (λ v l b k. search rules)
