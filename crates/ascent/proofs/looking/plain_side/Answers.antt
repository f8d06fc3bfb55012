-- The first byte of the value is the form; a size is read by the variable of its one term.
use mathlib.Core.Path.{ap, ◌∙◌}
use Prim.Native.Nat.{◌<◌}
use native.Mathlib.Omega.{arith}
use Rattle.program.specs.Program.{rule_of, variable_in, variables_at}
use Rattle.program.specs.Readings.{body_variable}
use Rattle.ascent.proofs.LookLaws.{not_size, of_size, size_some}
use Rattle.ascent.proofs.looking.plain_side.Goals as goal

pub bounds-value-0 : goal.bounds-value-0
bounds-value-0 c = omega (arith, c.requires.some_standing.standing.headed)

pub returns-then-value-ne5 : goal.returns-then-value-ne5
returns-then-value-ne5 c = λ n g. not_size (rule_of c.args.value.now).form c.args.h _ c.if-value-ne5.true c.is_from_above-above.ensures

pub variable_at-first-requires : goal.variable_at-first-requires
variable_at-first-requires c = (c.requires.some_standing.standing.headed, size_some c.args.value.now c.requires.evaluable c.if-value-ne5.false)

pub variable-x-requires : goal.variable-x-requires
variable-x-requires c = omega (arith, c.variable_at-first.ensures, c.requires.some_standing.standing.inside, c.requires.some_standing.standing.declared 0 (size_some c.args.value.now c.requires.evaluable c.if-value-ne5.false))

pub returns : goal.returns
returns c = λ n g.
    let vs = variables_at c.args.file.now n in
    let l : c.variable_at-first.result < n = omega (arith, c.variable_at-first.ensures, g.declared 0 (size_some c.args.value.now c.requires.evaluable c.if-value-ne5.false)) in
    of_size (rule_of c.args.value.now).form c.args.h (variable_in vs (body_variable (rule_of c.args.value.now) 0)) c.if-value-ne5.false c.is_from_above-above.ensures
    (c.variable-x.ensures n l ∙ ap (variable_in vs) c.variable_at-first.ensures) c.size_side.ensures
