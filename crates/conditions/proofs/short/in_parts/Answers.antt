-- Each part by its own search, or the whole set; the set has nothing past the last variable.
use mathlib.Core.Path.{sym, ◌∙◌}
use mathlib.Core.Bool.{true, false}
use borrow.Author.Tests.{not-true}
use Rattle.program.specs.Program.{variables_at}
use Rattle.words.specs.Bit.{has}
use Rattle.conditions.proofs.ShortLaws.{part_all, whole_below, none_above}
use Rattle.conditions.proofs.short.in_parts.Goals as goal

pub returns-then-not-any_above : goal.returns-then-not-any_above
returns-then-not-any_above c = let none = sym c.any_above.ensures ∙ not-true _ c.if-not-any_above.true-raw in
    record {
      below = whole_below c.args.file.now c.args.variables (has c.args.set.words) none;
      above = none_above c.args.file.now c.args.variables (has c.args.set.words) none c.empty.ensures;
    }

pub returns : goal.returns
returns c = let vs = variables_at c.args.file.now c.args.variables in
    record {
      below = part_all false vs (has c.args.set.words) c.requires.by_index c.part.ensures;
      above = part_all true vs (has c.args.set.words) c.requires.by_index c.part-2.ensures;
    }
