-- Form and head are those of the header; the head is declared.
use mathlib.Core.Path.{ap, ◌∙◌}
use native.Mathlib.Omega.{arith}
use Rattle.program.specs.Program.{variable_in, variables_at}
use Rattle.positions.proofs.open_rule.Goals as goal

pub variable-variable-requires : goal.variable-variable-requires
variable-variable-requires c = omega (arith, c.header-rule.ensures.head_is, c.requires.head, c.requires.inside)

pub returns : goal.returns
returns c = record {
  form_is = c.header-rule.ensures.form_is;
  head_is = c.header-rule.ensures.head_is;
  variable_is = c.variable-variable.ensures _ (omega (arith, c.header-rule.ensures.head_is, c.requires.head)) ∙ ap (variable_in (variables_at c.args.file.now c.args.variables)) c.header-rule.ensures.head_is;
}
