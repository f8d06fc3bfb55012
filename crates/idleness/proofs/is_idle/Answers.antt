-- The rule gives its most where every variable has the value that demands most.
use mathlib.Core.Path.{◌∙◌}
use Rattle.program.specs.Program.{rule_of, variables_at}
use Rattle.idleness.proofs.MostLaws.{most_is, idle_is}
use Rattle.idleness.proofs.is_idle.Goals as goal

pub returns : goal.returns
returns c = let vs = variables_at c.args.file.now c.args.variables in
    let r = rule_of c.args.value.now in
    record { values_len_2 = c.set_most.ensures.values_len_2; value = idle_is vs r c.is_no_more.ensures c.open_rule-rule.ensures.variable_is (c.gives-most.ensures ∙ most_is vs r _ c.requires.ready.evaluable c.set_most.ensures.by_index) }
